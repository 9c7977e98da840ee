use Rattle.std.proofs.Common.{arith, ◌≡◌, ◌<◌, ◌≤◌, ◌∙◌, length, sym, subst, take, All, IsTrue, ℕ, List}
use Rattle.std.proofs.lemmas.Grind.{common_steps}
use Rattle.std.proofs.lemmas.List.{take_all}
use Rattle.std.proofs.lemmas.List.Elements.{recursion_from_All}
use Rattle.solid_base.specs.Digits.{is_digit, number_of}
use Rattle.solid_base.specs.Spelling.{digit_count}
use Rattle.solid_base.proofs.Digits.{number_of_below}
use Rattle.script_lines.specs.Reading.{whole_of}
use Rattle.script_lines.proofs.numbers.whole.Goals as goal

pub returns-in-1-to-9-clause-value : goal.returns-in-1-to-9-clause-value
unfolding whole_of
returns-in-1-to-9-clause-value c =
    let text = c.args.text.now in
    let some : 0 < length text = omega arith in
    let nine : length text ≤ 9 = omega arith in
    let all : take c.digit_count.result text ≡ text = take_all c.digit_count.result text (omega (arith, c.if-digit_count-text.true)) in
    let digits = recursion_from_All (λ b. IsTrue (is_digit b)) text (subst (λ (t : List ℕ). All (λ b. IsTrue (is_digit b)) t) all c.digit_count.ensures.digits) in
    let below = number_of_below 9 text digits nine in
    let same : c.number_up_to.result ≡ number_of text = omega (arith, below, c.number_up_to.ensures) in
    let count : digit_count text ≡ length text = sym c.digit_count.ensures.value ∙ c.if-digit_count-text.true in
    grind (arith, common_steps, same, count, some, nine)
