use Rattle.solid_top.proofs.LoadReplies.{text_is}
use Rattle.solid_top.proofs.load.load_text.Goals as goal

pub returns : goal.returns
returns c =
    text_is c.args.n c.args.counts.inside c.args.counts.outside c.args.counts.undecided c.args.commits
    _ _ _ _ _ _ _ _ c.new-text.ensures c.in_ok-push_count.ensures c.in_ok-push_count-2.ensures c.in_ok-push_count-3.ensures c.in_ok-push_count-4.ensures
    c.in_ok-extend_from_slice.ensures.ok c.in_ok-push_version.ensures.ok c.in_ok-extend_from_slice-2.ensures.ok
