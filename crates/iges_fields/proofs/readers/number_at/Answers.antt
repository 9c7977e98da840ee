use Rattle.std.proofs.Common.{◌∙◌, drop, ap, arith}
use Rattle.std.proofs.lemmas.List.{take_rest}
use Rattle.solid_base.specs.Spelling.{digit_count}
use Rattle.iges_fields.proofs.Numbers.{whole_found}
use Rattle.iges_fields.proofs.readers.number_at.Goals as goal

pub returns-in_default : goal.returns-in_default
returns-in_default c =
    let whole = c.digit_count-whole.result in
    let number = c.after_sign-number.result.now in
    let count = c.digit_count-whole.ensures.value ∙ ap digit_count c.after_sign-number.ensures.value in
    let text = rw take_rest at c.ended_at.ensures.text in
    let ended = rw take_rest at c.ended_at.ensures.ended in
    whole_found c.args.comma c.args.semi whole c.args.bytes.now (drop whole number) c.ended_at.result count (omega (arith, c.if-whole-ne0.true)) (ap (drop whole) c.after_sign-number.ensures.value)
    c.ended_at.ensures.kind text ended
