use Rattle.std.proofs.Common.{◌≡◌, ◌++◌, map, drop}
use mathlib.Core.List.{IsPrefix}
use Rattle.solid_questions.specs.Bodies.{class_sign}
use Rattle.solid_questions.proofs.sections.push_signs.Given as goal

-- the signs so far, and those of the cells that are left
abbrev pub invariant-loop-verdict : goal.invariant-loop-verdict
invariant-loop-verdict l = record {
  rest : l.out ++ map (λ v. class_sign v.class) (drop l.verdict-index l.cells) ≡ l.fn.out ++ map (λ v. class_sign v.class) l.cells;
  front : IsPrefix l.fn.out l.out;
}
