use Rattle.std.proofs.Common.{◌≡◌, ◌∙◌, sym, ap, ℤ, Ok, Err, rules, arith, to_z, of_z, FitsSigned}
use Rattle.std.specs.Int.{w128}
use Rattle.solid_base.proofs.Ring.{code}
use Rattle.solid_base.specs.Spelling.{sign_of}
use Rattle.decimal_scale.proofs.Readings.{read_is, is_fault}
use Rattle.decimal_scale.proofs.reading.read.Goals as goal

pub returns-in_err-size : goal.returns-in_err-size
returns-in_err-size c =
    let fault = c.in_err-size.field-0.0 in
    let size = read_is c.args.text.now c.after_sign-digits.result.now c.split_at.result.0.now c.split_at.result.1.now c.digit_count.result (Err fault) c.after_sign-digits.ensures.value c.digit_count.ensures.value c.split_at.ensures.front c.split_at.ensures.back (c.in_err-size.ensures (sign_of c.args.text.now)) in
    is_fault c.from_residual.result fault c.from_residual.ensures.1 ∙ sym size

pub returns : goal.returns
returns c =
    let size = read_is c.args.text.now c.after_sign-digits.result.now c.split_at.result.0.now c.split_at.result.1.now c.digit_count.result (Ok c.in_ok-size.size) c.after_sign-digits.ensures.value c.digit_count.ensures.value c.split_at.ensures.front c.split_at.ensures.back (c.in_ok-size.ensures (sign_of c.args.text.now)) in
    let steps = c.with_sign.ensures (sign_of c.args.text.now) c.is_negative.ensures in
    let fits : FitsSigned w128 c.with_sign.result = search rules in
    let back : to_z w128 (of_z w128 c.with_sign.result) ≡ c.with_sign.result = omega (arith, code) in
    ap (λ (z : ℤ). Ok z) (back ∙ steps) ∙ sym size
