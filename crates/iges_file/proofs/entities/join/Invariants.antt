use Rattle.std.proofs.Common.{◌≡◌, ◌+◌, ◌-◌, ◌++◌, take, drop}
use Rattle.std.specs.List.{concat}
use Rattle.iges_file.proofs.entities.join.Given as goal

abbrev pub invariant-loop-at : goal.invariant-loop-at
invariant-loop-at l = record {
  so_far : l.text.items ++ concat (take (l.first + l.count - l.at) (drop l.at l.lines)) ≡ concat (take l.count (drop l.first l.lines));
}
