use Rattle.std.proofs.Common.{◌≡◌, ◌-◌, ◌≤◌, length}
use Rattle.std.specs.List.{AllByRecursion}
use Rattle.solid_base.specs.References.{row_at}
use Rattle.solid_eval.specs.Solids.{IsPrimitiveRow}
use Rattle.ask_core.specs.Runs.{most_uses, most_keys}
use Rattle.ask_core.specs.Rounds.{uses_ahead, IsAhead, HasRoom, HasTaken}
use Rattle.ask_core.proofs.rounds.Round.take_uses.Given as goal

-- the uses that are taken so far, and those ahead
abbrev pub invariant-loop : goal.invariant-loop
invariant-loop l = record {
  taken : HasTaken l.table (uses_ahead l.table.model.rows l.fn.ahead) l.ahead l.self;
  room : HasRoom l.self;
  few : length l.self.places.list ≤ most_uses;
  few_keys : length l.self.keys.list ≤ most_keys;
  ahead : IsAhead l.table.model.rows l.ahead;
  primitives : AllByRecursion (λ u. IsPrimitiveRow (row_at l.table.model.rows u.number)) (uses_ahead l.table.model.rows l.ahead);
  found : l.self.found ≡ l.fn.self.found;
  values : l.self.values ≡ l.fn.self.values;
}

abbrev pub decreases-loop : goal.decreases-loop
decreases-loop l = most_uses - length l.self.places.list
