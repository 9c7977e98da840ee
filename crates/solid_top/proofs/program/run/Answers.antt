use Rattle.solid_top.proofs.RunLaws.{usage_only, usage_else, unread, unwritten, long_only, long_else, ends_due, ends_served}
use Rattle.solid_top.proofs.program.run.Goals as goal

pub returns-clause-usage : goal.returns-clause-usage
returns-clause-usage g c ok more =
    let ends = c.run_words.ensures.ends in
    (usage_only _ _ _ _ _ c.run_words.result ends, usage_else _ _ _ _ _ c.run_words.result ends ok more)

pub returns-clause-unread : goal.returns-clause-unread
returns-clause-unread g c = unread _ _ _ _ _ c.run_words.result c.run_words.ensures.ends

pub returns-clause-unwritten : goal.returns-clause-unwritten
returns-clause-unwritten g c = unwritten _ _ _ _ _ c.run_words.result c.run_words.ensures.ends

pub returns-clause-too_long : goal.returns-clause-too_long
returns-clause-too_long g c known ok =
    let ends = c.run_words.ensures.ends in
    (long_only _ _ _ _ _ c.run_words.result ends, long_else _ _ _ _ _ c.run_words.result ends known ok)

pub returns-clause-due : goal.returns-clause-due
returns-clause-due g c bytes known s text due =
    ends_due _ _ _ _ _ bytes known c.run_words.result s text c.run_words.ensures.ends due

pub returns-clause-served : goal.returns-clause-served
returns-clause-served g c bytes known few named = ends_served _ _ _ _ _ bytes known named few c.run_words.result c.run_words.ensures.ends
