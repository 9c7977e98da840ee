-- By which mark a key is known not to be among others. solidd's own.
use Rattle.std.specs.Prelude.{◌≡◌, ℕ, ◌/◌, ◌%◌, Bool, true, false, List, get_or}
use Rattle.std.specs.List.{AllByRecursion}
use Rattle.memo_graph.specs.declared.key.Key.{Key}

-- how many marks there are
abbrev pub most_marks : ℕ
most_marks = 256

-- the place of a key's mark: entities that are written near each other have marks of their own
abbrev pub mark_of : Key → ℕ
mark_of key = key.de / 2 % most_marks

-- each key's mark is set
abbrev pub AreMarked : List Bool → List Key → Type 0
AreMarked marks keys = AllByRecursion (λ key. get_or marks (mark_of key) false ≡ true) keys
