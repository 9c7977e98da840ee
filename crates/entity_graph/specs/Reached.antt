-- Numbers of entities in a list, as an inspection or an edit asks for them.
use Rattle.std.specs.Prelude.{ℕ, ◌<◌, List, [], ◌∷◌}
use Rattle.std.specs.List.{AllByRecursion}

-- solidd's own: numbers that ascend, each of which stands once
abbrev pub IsAscending : List ℕ → Type 0
IsAscending [] = Unit {0}
IsAscending (n ∷ ns) = AllByRecursion (λ m. n < m) ns × IsAscending ns
