use Rattle.std.proofs.Common.{◌≡◌, ◌++◌, ◌-◌}
use Rattle.edit_core.specs.Versions.{numbers_from, changed_numbers}
use Rattle.edit_core.proofs.changed.changed_numbers.Given as goal

-- the numbers so far, and those from here on
abbrev pub invariant-loop-place : goal.invariant-loop-place
invariant-loop-place l = l.numbers ++ numbers_from l.place (l.after - l.place) ≡ changed_numbers l.batch l.before l.after
