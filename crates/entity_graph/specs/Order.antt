-- solidd's own: rows as lists of the places that they name, what they reach, and an order in which
-- what a row names comes before it.
use Rattle.std.specs.Prelude.{◌≡◌, ℕ, ◌<◌, List, [], length, slice_index_or}
use Rattle.entity_graph.specs.declared.search.Mark.{Mark}
use Rattle.entity_graph.specs.declared.search.Mark.TheVariants as mark

-- the places that the row at a place names
abbrev pub refs_at : List (List ℕ) → ℕ → List ℕ
refs_at refs e = slice_index_or refs e []

-- the row at place e names place c
pub record Names (refs : List (List ℕ)) (e c : ℕ) : Type 0 where
  pub at : ℕ
  pub within : at < length (refs_at refs e)
  pub is : slice_index_or (refs_at refs e) at 0 ≡ c

-- the row at a place reaches itself, and all that those reach which it names
pub data Goes (refs : List (List ℕ)) : ℕ → ℕ → Type 0 where
  stay : {e : ℕ} → Goes refs e e
  go : {e c k : ℕ} → Names refs e c → Goes refs c k → Goes refs e k

-- place e stands in the order in front of its place i
pub record Before (order : List ℕ) (i e : ℕ) : Type 0 where
  pub at : ℕ
  pub below : at < i
  pub is : slice_index_or order at 0 ≡ e

-- what each row names stands in front of it
abbrev pub IsOrder : List (List ℕ) → List ℕ → Type 0
IsOrder refs order =
    (i c : ℕ) → i < length order → Names refs (slice_index_or order i 0) c → Before order i c

-- the row at a place reaches one that reaches itself by at least one reference
pub record Rings (refs : List (List ℕ)) (e : ℕ) : Type 0 where
  pub on : ℕ
  pub next : ℕ
  pub reached : Goes refs e on
  pub names : Names refs on next
  pub back : Goes refs next on

-- the mark of a place
abbrev pub mark_at : List Mark → ℕ → Mark
mark_at marks e = slice_index_or marks e mark.Unseen

-- where no search is under way each row is unseen or done, and what is done stands in the order
pub record Idle (refs : List (List ℕ)) (marks : List Mark) (order : List ℕ) : Type 0 where
  pub size : length marks ≡ length refs
  pub none : (e : ℕ) → ¬ (mark_at marks e ≡ mark.OnWay)
  pub ordered : IsOrder refs order
  pub inside : (i : ℕ) → i < length order → slice_index_or order i 0 < length refs
  pub kept : (e : ℕ) → mark_at marks e ≡ mark.Done → Before order (length order) e

-- an order in which all rows stand
pub record IsWhole (refs : List (List ℕ)) (order : List ℕ) : Type 0 where
  pub ordered : IsOrder refs order
  pub inside : (i : ℕ) → i < length order → slice_index_or order i 0 < length refs
  pub all : (e : ℕ) → e < length refs → Before order (length order) e
