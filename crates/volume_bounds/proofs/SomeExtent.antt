-- Extents: one, or all cells are outside.
use Rattle.std.proofs.Common.{◌≡◌, ◌⊎◌, inl, inr, get_or, refl, length, ℕ, zero, suc, ◌+◌, ◌<◌, subst, List, Option, None, Some, arith}
use Rattle.std.proofs.lemmas.Bool.{cases_lt}
use Rattle.std.proofs.lemmas.Option.{slice_get_within}
use Rattle.solid_base.specs.declared.geometry.Cube.{Cube}
use Rattle.solid_base.specs.declared.classes.Class.{Class}
use Rattle.solid_base.specs.declared.classes.Class.TheVariants as class
use Rattle.solid_base.specs.declared.classes.Verdict.{Verdict}
use Rattle.volume_bounds.specs.declared.bounds.Block.{Block}
use Rattle.volume_bounds.specs.Blocks.{with_cell}
use Rattle.volume_bounds.specs.Cells.{cell_of}
use Rattle.volume_bounds.specs.Extents.{IsExtent, IsSeen, AllOutside}
use Rattle.volume_bounds.proofs.Extremes.{HasFound, found_more, found_still, extent_of, cube_of_block, all_outside_at, seen_at, unseen_at, not_outside}

none : Verdict
none = record { class = class.Outside; leaf = 0 }

-- whether a cell isn't outside, by its class
by_class : (verdicts : List Verdict) (place : ℕ) (k : Class) → place < length verdicts
    → (get_or verdicts place none).class ≡ k → IsSeen verdicts place ⊎ (IsSeen verdicts place → ⊥)
by_class verdicts place class.Outside inside is = inr (unseen_at verdicts place none is)
by_class verdicts place class.Mixed inside is = inl (seen_at verdicts place none inside (not_outside _ (inl is)))
by_class verdicts place class.Inside inside is = inl (seen_at verdicts place none inside (not_outside _ (inr is)))

seen_or_not : (verdicts : List Verdict) (place : ℕ) → IsSeen verdicts place ⊎ (IsSeen verdicts place → ⊥)
seen_or_not verdicts place = elim (cases_lt place (length verdicts)) [
  | inl inside ↦ by_class verdicts place (get_or verdicts place none).class inside refl
  | inr beyond ↦ inr (λ s. (let l = slice_get_within verdicts place s.verdict s.there in absurd (omega (arith, l, beyond))))
]

-- what there is among the first places: nothing, or a block
abbrev Found : ℕ → List Verdict → ℕ → Type 0
Found parts verdicts count = (found : Option Block) × HasFound parts verdicts count found

found_next : (parts count : ℕ) (verdicts : List Verdict) → Found parts verdicts count → Found parts verdicts (count + 1)
found_next parts count verdicts f = elim (seen_or_not verdicts count) [
  | inl seen ↦ (Some (with_cell f.0 (cell_of parts count)), found_more parts count verdicts f.0 seen f.1)
  | inr unseen ↦ (f.0, found_still parts count verdicts f.0 unseen f.1)
]

found_at : (parts : ℕ) (verdicts : List Verdict) (count : ℕ) → Found parts verdicts count
found_at parts verdicts zero = (None, λ place s. (let l = s.0 in absurd (omega (arith, l))))
found_at parts verdicts (suc count) =
    subst (λ n. Found parts verdicts n) (omega arith) (found_next parts count verdicts (found_at parts verdicts count))

extent_found : (verdicts : List Verdict) (cube : Cube) (parts : ℕ) (found : Option Block)
    → HasFound parts verdicts (length verdicts) found
    → ((found : Cube) × IsExtent verdicts cube parts found) ⊎ AllOutside verdicts
extent_found verdicts cube parts None is = inr (all_outside_at verdicts parts (length verdicts) (omega arith) is)
extent_found verdicts cube parts (Some b) is =
    inl (cube_of_block cube parts b, extent_of verdicts cube parts (length verdicts) b (omega arith) is)

pub some_extent : (verdicts : List Verdict) (cube : Cube) (parts : ℕ)
    → ((found : Cube) × IsExtent verdicts cube parts found) ⊎ AllOutside verdicts
some_extent verdicts cube parts =
    let last = found_at parts verdicts (length verdicts) in extent_found verdicts cube parts last.0 last.1

pub never_both : (verdicts : List Verdict) (cube found : Cube) (parts : ℕ)
    → IsExtent verdicts cube parts found → AllOutside verdicts → ⊥
never_both verdicts cube found parts is all = all is.some.0 is.some.1
