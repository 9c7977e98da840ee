use Rattle.std.proofs.Common.{rules, sym, ◌∙◌, FitsSigned, to_z-of_z}
use Rattle.std.specs.Int.{w128}
use Rattle.script_lines.proofs.NumberLaws.{on_grid}
use Rattle.script_lines.proofs.numbers.grid.Goals as goal

pub returns-in-Some-clause-on_grid : goal.returns-in-Some-clause-on_grid
returns-in-Some-clause-on_grid c =
    let fit : FitsSigned w128 c.in-Some.steps = search rules in
    let is = sym c.is_on_grid.ensures ∙ c.if-is_on_grid.true in
    rw (to_z-of_z fit) (on_grid c.in-Some.steps (rw (to_z-of_z fit) at is))
