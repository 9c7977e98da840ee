use Rattle.std.proofs.Common.{◌≡◌, ◌++◌, ◌-◌}
use mathlib.Core.List.{IsPrefix}
use Rattle.solid_questions.specs.Bodies.{section_lines}
use Rattle.solid_questions.proofs.sections.push_lines.Given as goal

-- the lines so far, and those that are left
abbrev pub invariant-loop-line : goal.invariant-loop-line
invariant-loop-line l = record {
  rest : l.out ++ section_lines l.nx l.cells l.line (l.ny - l.line) ≡ l.fn.out ++ section_lines l.nx l.cells 0 l.ny;
  front : IsPrefix l.fn.out l.out;
}
