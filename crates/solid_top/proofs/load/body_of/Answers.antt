use Rattle.std.proofs.Common.{◌∙◌, sym, refl, arith}
use Rattle.solid_top.proofs.LoadReplies.{reply_blank, reply_body, reply_long}
use Rattle.solid_top.proofs.load.body_of.Goals as goal

pub returns-in-empty : goal.returns-in-empty
returns-in-empty c = λ reply is.
    let found = sym c.first_blank.ensures ∙ c.in-Some.is in
    absurd (omega (arith, c.in-empty.len_below, reply_long reply c.args.text.now is c.in-Some.at found _ refl))

pub returns-in-len1-up : goal.returns-in-len1-up
returns-in-len1-up c = λ reply is.
    let found = sym c.first_blank.ensures ∙ c.in-Some.is in
    reply_body reply c.args.text.now is c.in-Some.at found _ refl

pub returns-in-None : goal.returns-in-None
returns-in-None c = λ reply is.
    let found = reply_blank reply c.args.text.now is in
    let none = sym c.first_blank.ensures ∙ c.in-None.is in
    cc
