use Rattle.std.proofs.Common.{rules, arith, ◌≡◌, ◌∷◌, ◌++◌, ◌<◌, List, ℕ, length, drop, min, sym, ap, ◌∙◌, length-drop}
use Rattle.solid_base.proofs.Slices.{prefix_trans}
use Rattle.iges_write.specs.Cards.{filled, right_aligned, lines_in}
use Rattle.iges_write.specs.CanonicalFile.{with_number}
use Rattle.iges_write.proofs.CardSteps.{one_more, no_more}
use Rattle.iges_write.proofs.LinesIn.{next_line, no_lines}
use Rattle.iges_write.proofs.cards.push_record.Goals as goal

pub loop-rest-preserved : goal.loop-rest-preserved
loop-rest-preserved c =
    let l = c.loop-rest in
    let rest = l.rest.now in
    let line = c.split_at.result.0.now in
    let after = c.split_at.result.1.now in
    let k = c.min.result in
    let some : 0 < length rest = grind (arith, c.is_empty.ensures, c.loop-rest-test.true) in
    let size : k ≡ min (length rest) 64 = search rules in
    let cut : lines_in 64 rest ≡ filled 64 line ∷ lines_in 64 after =
    next_line k rest some size
    ∙ ap (λ (x : List ℕ). filled 64 x ∷ lines_in 64 (drop k rest)) (sym c.split_at.ensures.front)
    ∙ ap (λ (x : List ℕ). filled 64 line ∷ lines_in 64 x) (sym c.split_at.ensures.back) in
    let left = ap (with_number c.args.entity) cut in
    let fewer : length after ≡ length (drop k rest) = ap (λ (x : List ℕ). length x) c.split_at.ensures.back in
    let columns : List ℕ = filled 64 line ++ 32 ∷ right_aligned 7 c.args.entity in
    record {
      number = omega (arith, l.invariant.number, some, size, fewer, length-drop k rest);
      so_far = one_more 80 l.number l.out c.push_parameter_card.new.out columns (with_number c.args.entity (lines_in 64 rest)) (with_number c.args.entity (lines_in 64 after)) _ left c.in_ok-push_parameter_card.ensures.ok l.invariant.so_far;
      front = prefix_trans c.args.out.now l.out c.push_parameter_card.new.out l.invariant.front c.in_ok-push_parameter_card.ensures.front;
    }

pub returns-clause-written : goal.returns-clause-written
returns-clause-written c =
    let l = c.loop-rest in
    let rest = l.rest.now in
    let none : length rest ≡ 0 = grind (arith, c.is_empty.ensures, c.loop-rest-test.false) in
    no_more 80 l.number l.out (with_number c.args.entity (lines_in 64 rest)) _ (ap (with_number c.args.entity) (no_lines rest none)) l.invariant.so_far
