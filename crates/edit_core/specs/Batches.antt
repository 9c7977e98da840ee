-- Batches of changes: solidd's own.
use Rattle.std.specs.Prelude.{◌≡◌, ◌⊎◌, ◌==◌, ◌≤◌, ◌^◌, ℕ, List, [], ◌∷◌, cond, length}
use Rattle.std.specs.List.{AllByRecursion}
use Rattle.solid_base.specs.Texts.{IsOneLine}
use Rattle.solid_base.specs.declared.entities.RowText.{RowText}
use Rattle.edit_core.specs.declared.changes.Change.{Change}
use Rattle.edit_core.specs.declared.changes.Change.TheVariants as change

-- solidd's own: the number of an entity, and the change that is staged for it
abbrev pub Staged : Type 0
Staged = ℕ × Change

-- solidd's own: a change is staged for a number, after the others. A number that is staged again
-- keeps its place and takes the new change
abbrev pub stage : List Staged → ℕ → Change → List Staged
stage [] number change = (number, change) ∷ []
stage (s ∷ batch) number change =
    cond (number == s.0) ((s.0, change) ∷ batch) (s ∷ stage batch number change)

-- solidd's own: a change is staged for the number
abbrev pub IsStaged : List Staged → ℕ → Type 0
IsStaged [] number = ⊥
IsStaged (s ∷ batch) number = (s.0 ≡ number) ⊎ IsStaged batch number

-- solidd's own: no number is staged twice
abbrev pub AreApart : List Staged → Type 0
AreApart [] = Unit {0}
AreApart (s ∷ batch) = ¬ IsStaged batch s.0 × AreApart batch

-- solidd's own: a record that may be staged is one line of at most 2^25 bytes
pub record IsStageable (source : RowText) : Type 0 where
  pub one_line : IsOneLine source.text
  pub short : length source.text ≤ 2 ^ 25

-- solidd's own: the record of a change, where it has one, may be staged
abbrev pub IsLawfulChange : Change → Type 0
IsLawfulChange (change.Replace source) = IsStageable source
IsLawfulChange (change.Add source) = IsStageable source
IsLawfulChange change.Drop = Unit {0}

-- solidd's own: what holds of each batch: no number is staged twice, and the records may be staged
pub record AreLawful (batch : List Staged) : Type 0 where
  pub apart : AreApart batch
  pub changes : AllByRecursion (λ s. IsLawfulChange s.1) batch
