use Rattle.std.proofs.Common.{arith, ◌≡◌, ◌≤◌, length, subst, take, All, IsTrue, ℕ, List}
use Rattle.std.proofs.lemmas.List.{take_all}
use Rattle.std.proofs.lemmas.List.Elements.{recursion_from_All}
use Rattle.solid_base.specs.Digits.{is_digit}
use Rattle.solid_top.proofs.WordLaws.{four_digits, all_digits}
use Rattle.solid_top.proofs.commands.spheres.Goals.{then-word-gt4-via-then-word-gt4, then-word-gt4-via-else-word-gt4+then-digit_count-word}
use Rattle.solid_top.proofs.commands.spheres.Goals as goal

pub returns-then-word-gt4-clause-none : goal.returns-then-word-gt4-clause-none
returns-then-word-gt4-clause-none c = λ n count.
    elim c.then-word-gt4.branch [
      | then-word-gt4-via-then-word-gt4 w ↦ absurd (omega (arith, w.if-word-gt4.true, count.four))
      | then-word-gt4-via-else-word-gt4+then-digit_count-word w ↦ (let all = all_digits c.args.word.now count.digits in
          let is = w.digit_count.ensures.value in absurd (omega (arith, all, is, w.if-digit_count-word.true)))
    ]

pub returns-in-1-to-1000-clause-some : goal.returns-in-1-to-1000-clause-some
returns-in-1-to-1000-clause-some c =
    let text = c.args.word.now in
    let four : length text ≤ 4 = omega (arith, c.if-word-gt4.false) in
    let all : take c.digit_count.result text ≡ text = take_all c.digit_count.result text (omega (arith, c.if-digit_count-word.false)) in
    let digits = recursion_from_All (λ b. IsTrue (is_digit b)) text (subst (λ (t : List ℕ). All (λ b. IsTrue (is_digit b)) t) all c.digit_count.ensures.digits) in
    let below = four_digits text digits four in
    record {
      digits = digits;
      four = four;
      value = omega (arith, below, c.number_up_to.ensures);
      some = omega (arith, c.in-1-to-1000);
      most = omega (arith, c.in-1-to-1000);
    }
