use Rattle.std.proofs.Common.{◌≡◌, ◌+◌, ◌≤◌, ◌++◌, length, map, drop}
use Rattle.std.specs.List.{AllByRecursion}
use Rattle.solid_base.specs.Ledgers.{counted}
use Rattle.ask_core.specs.Books.{key_verdict}
use Rattle.ask_core.specs.Rounds.{unfound, AreRight, IsPrimitiveKey}
use Rattle.ask_core.proofs.rounds.evaluate.Given as goal

-- the verdicts on the keys so far, and those of the rest
abbrev pub invariant-loop-place : goal.invariant-loop-place
invariant-loop-place g l = record {
  right : AreRight l.rows (drop l.place l.keys) (drop l.place l.found);
  primitives : AllByRecursion (IsPrimitiveKey l.rows) (drop l.place l.keys);
  values : l.values.list ++ map (key_verdict l.rows) (drop l.place l.keys) ≡ l.fn.values.list ++ map (key_verdict l.rows) l.keys;
  kept : length l.values.list + l.values.spare ≡ length l.fn.values.list + l.fn.values.spare;
  room : length l.keys ≤ l.place + l.values.spare;
  counted : counted (g.L.Ledger.count l.leaves) (length (unfound (drop l.place l.keys) (drop l.place l.found))) ≡ counted (g.L.Ledger.count l.fn.leaves) (length (unfound l.keys l.found));
}
