use Rattle.std.proofs.Common.{◌≡◌, ◌++◌, drop}
use Rattle.solid_top.specs.Checks.{roots_from, root_lines}
use Rattle.solid_top.proofs.roots.push_roots.Given as goal

-- the lines so far and those of the rows after are all lines
abbrev pub invariant-loop-at : goal.invariant-loop-at
invariant-loop-at l = l.out ++ roots_from l.rows l.at (drop l.at l.rows) ≡ l.fn.out ++ root_lines l.rows
