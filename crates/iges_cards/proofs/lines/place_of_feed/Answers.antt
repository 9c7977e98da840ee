use Rattle.iges_cards.proofs.FirstFeeds.{feed_found, feed_before, feed_nowhere}
use Rattle.iges_cards.proofs.lines.place_of_feed.Goals as goal

pub returns-clause-found : goal.returns-clause-found
returns-clause-found c = feed_found c.args.bytes.now c.memchr.result c.memchr.ensures

pub returns-clause-before : goal.returns-clause-before
returns-clause-before c = feed_before c.args.bytes.now c.memchr.result c.memchr.ensures

pub returns-clause-none : goal.returns-clause-none
returns-clause-none c = feed_nowhere c.args.bytes.now c.memchr.result c.memchr.ensures
