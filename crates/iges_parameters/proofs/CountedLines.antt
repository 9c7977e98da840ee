-- The lines of rows, counted one row after the other.
use Rattle.std.proofs.Common.{◌≡◌, ◌≤◌, ℕ, zero, suc, ◌+◌, List, [], ◌∷◌, length, drop, Some, slice_get, refl, ap}
use Rattle.std.specs.List.{AllByRecursion}
use Rattle.std.proofs.Math.ListN.{drop_of_length-le}
use Rattle.solid_base.specs.declared.entities.Entity.{Entity}
use Rattle.iges_parameters.specs.Writing.{record_text, lines_for}
use Rattle.iges_parameters.specs.Accepted.{lines_of}

-- the lines of the entity at a place, and of those after it
pub lines_next : (comma semi : ℕ) (rows : List Entity) (at : ℕ) (e : Entity) → slice_get rows at ≡ Some e
    → lines_of comma semi (drop at rows) ≡ lines_for (length (record_text comma semi e.row e.tail)) + lines_of comma semi (drop (suc at) rows)
lines_next comma semi [] at e is = cc
lines_next comma semi (r ∷ rows) zero e is = let same : r ≡ e = cc in rw same refl
lines_next comma semi (r ∷ rows) (suc at) e is = lines_next comma semi rows at e is

-- after all rows no lines are left
pub lines_none : (comma semi : ℕ) (rows : List Entity) (at : ℕ) → length rows ≤ at → lines_of comma semi (drop at rows) ≡ 0
lines_none comma semi rows at h = ap (lines_of comma semi) (drop_of_length-le rows h)

-- what holds of each item holds of that at a place
pub holds_at : {X : Type 0} (P : X → Type 0) (xs : List X) (at : ℕ) (x : X) → AllByRecursion P xs → slice_get xs at ≡ Some x → P x
holds_at P [] at x all is = cc
holds_at P (y ∷ ys) zero x all is = let same : y ≡ x = cc in rw same at all.0
holds_at P (y ∷ ys) (suc at) x all is = holds_at P ys at x all.1 is
