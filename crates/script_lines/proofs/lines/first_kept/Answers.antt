use Rattle.std.proofs.Common.{◌≡◌, [], ap, ◌∙◌, arith}
use Rattle.std.proofs.lemmas.Grind.{common_steps}
use Rattle.script_lines.specs.Lines.{kept_lines, lines_of}
use Rattle.script_lines.proofs.lines.first_kept.Goals as goal

pub returns-clause-none : goal.returns-clause-none
unfolding lines_of
returns-clause-none c =
    let none : c.loop-rest.rest.now ≡ [] = grind (arith, common_steps, c.is_empty.ensures, c.loop-rest-test.false) in
    c.loop-rest.invariant.so_far ∙ ap kept_lines none
