use Rattle.std.proofs.Common.{◌≡◌, ◌+◌, ◌≤◌, ◌<◌, ◌++◌, Some, length, map, drop}
use Rattle.std.specs.List.{AllByRecursion}
use Rattle.ask_core.specs.Rounds.{picked}
use Rattle.ask_core.proofs.rounds.spread.Given as goal

-- the verdicts so far, and those at the places that are left
abbrev pub invariant-loop-place : goal.invariant-loop-place
invariant-loop-place l = record {
  inside : AllByRecursion (λ place. place < length l.values) (drop l.place-index l.places);
  room : length (drop l.place-index l.places) ≤ l.known.spare;
  known : map Some l.known.list ++ picked l.values (drop l.place-index l.places) ≡ map Some l.fn.known.list ++ picked l.values l.places;
  kept : length l.known.list + l.known.spare ≡ length l.fn.known.list + l.fn.known.spare;
}
