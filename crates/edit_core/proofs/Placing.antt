-- Rows that are made one change after the other.
use Rattle.std.proofs.Common.{◌≡◌, ◌≢◌, ℕ, zero, suc, ◌-◌, ◌<◌, ◌≤◌, ◌/◌, ◌%◌, ◌==◌, max, Bool, true, false, List, [], ◌∷◌, ◌++◌, length, replicate, set, cond, Option, Some, None, slice_get, append_assoc, refl, sym, ap, ◌∙◌, arith}
use Rattle.std.specs.List.{AllByRecursion}
use Rattle.solid_base.specs.declared.entities.Entity.{Entity}
use Rattle.solid_base.specs.declared.solids.Row.TheVariants as row
use Rattle.solid_base.specs.References.{at_number, row_at, row_or_null}
use Rattle.iges_parameters.specs.Accepted.{IsAcceptedEntity}
use Rattle.iges_parameters.proofs.CountedLines.{holds_at}
use Rattle.edit_core.specs.Edits.{null_entity, kept_or_null}
use Rattle.edit_core.specs.Placing.{filled, put}

-- ---- an entity at a place

pub put_there : (rows : List Entity) (place : ℕ) (e : Entity) → slice_get (put rows place e) place ≡ Some e
put_there [] zero e = refl
put_there [] (suc place) e = put_there [] place e
put_there (x ∷ rows) zero e = refl
put_there (x ∷ rows) (suc place) e = put_there rows place e

pub put_size : (rows : List Entity) (place : ℕ) (e : Entity) → length (put rows place e) ≡ max (suc place) (length rows)
put_size [] zero e = refl
put_size [] (suc place) e = let again = put_size [] place e in omega (arith, again)
put_size (x ∷ rows) zero e = omega arith
put_size (x ∷ rows) (suc place) e = let again = put_size rows place e in omega (arith, again)

pub put_other : (rows : List Entity) (place : ℕ) (e : Entity) (at : ℕ) → at ≢ place → at < max (suc place) (length rows)
    → slice_get (put rows place e) at ≡ Some (kept_or_null (slice_get rows at))
put_other [] zero e at other within = absurd (omega (arith, other, within))
put_other [] (suc place) e zero other within = refl
put_other [] (suc place) e (suc at) other within = put_other [] place e at (λ s. other (ap suc s)) (omega (arith, within))
put_other (x ∷ rows) zero e zero other within = absurd (other refl)
put_other (x ∷ rows) zero e (suc at) other within = here rows at (omega (arith, within)) where
  here : (rows : List Entity) (at : ℕ) → at < length rows → slice_get rows at ≡ Some (kept_or_null (slice_get rows at))
  here [] at w = absurd (omega (arith, w))
  here (x ∷ rows) zero w = refl
  here (x ∷ rows) (suc at) w = here rows at (omega (arith, w))
put_other (x ∷ rows) (suc place) e zero other within = refl
put_other (x ∷ rows) (suc place) e (suc at) other within = put_other rows place e at (λ s. other (ap suc s)) (omega (arith, within))

pub put_all : (P : Entity → Type 0) (rows : List Entity) (place : ℕ) (e : Entity) → P null_entity → P e → AllByRecursion P rows → AllByRecursion P (put rows place e)
put_all P [] zero e none one all = (one, tt)
put_all P [] (suc place) e none one all = (none, put_all P [] place e none one tt)
put_all P (x ∷ rows) zero e none one all = (one, all.1)
put_all P (x ∷ rows) (suc place) e none one all = (all.0, put_all P rows place e none one all.1)

pub put_is : (rows : List Entity) (place : ℕ) (e : Entity) → set (filled rows (suc place)) place e ≡ put rows place e
put_is [] zero e = refl
put_is [] (suc place) e =
    let one : suc (suc place) - 0 ≡ suc (suc place - 0) = omega arith in
    let more : replicate (suc (suc place) - 0) null_entity ≡ null_entity ∷ replicate (suc place - 0) null_entity = ap (λ (n : ℕ). replicate n null_entity) one in
    ap (λ (rows : List Entity). set rows (suc place) e) more ∙ ap (λ (rows : List Entity). null_entity ∷ rows) (put_is [] place e)
put_is (x ∷ rows) zero e =
    let none : 1 - suc (length rows) ≡ 0 = omega arith in
    ap (λ (n : ℕ). e ∷ (rows ++ replicate n null_entity)) none ∙ ap (λ (more : List Entity). e ∷ more) (nothing rows) where
      nothing : (rows : List Entity) → rows ++ [] ≡ rows
      nothing [] = refl
      nothing (x ∷ rows) = ap (λ (more : List Entity). x ∷ more) (nothing rows)
put_is (x ∷ rows) (suc place) e =
    let same : suc (suc place) - suc (length rows) ≡ suc place - length rows = omega arith in
    ap (λ (n : ℕ). x ∷ set (rows ++ replicate n null_entity) place e) same ∙ ap (λ (more : List Entity). x ∷ more) (put_is rows place e)

-- one null entity more at the end
pub filled_more : (rows : List Entity) (from at : ℕ) → from ≤ at → rows ++ replicate (suc at - from) null_entity ≡ (rows ++ replicate (at - from) null_entity) ++ null_entity ∷ []
filled_more rows from at le =
    let one : suc at - from ≡ suc (at - from) = omega (arith, le) in
    ap (λ (n : ℕ). rows ++ replicate n null_entity) one
    ∙ ap (λ (more : List Entity). rows ++ more) (at_end (at - from)) ∙ sym (append_assoc rows (replicate (at - from) null_entity) (null_entity ∷ [])) where
      at_end : (n : ℕ) → replicate (suc n) null_entity ≡ replicate n null_entity ++ null_entity ∷ []
      at_end zero = refl
      at_end (suc n) = ap (λ (more : List Entity). null_entity ∷ more) (at_end n)

-- ---- numbers and places

pub at_odd : {X : Type 0} (xs : List X) (number : ℕ) → number % 2 ≡ 1 → at_number xs number ≡ slice_get xs (number / 2)
at_odd xs number odd = rw odd refl

pub has_odd : {X : Type 0} (xs : List X) (number : ℕ) (x : X) → at_number xs number ≡ Some x → number % 2 ≡ 1
has_odd xs number x is = go (number % 2 == 1) refl is where
  go : (b : Bool) → (number % 2 == 1) ≡ b → cond b (slice_get xs (number / 2)) None ≡ Some x → number % 2 ≡ 1
  go true same is = grind arith
  go false same is = cc

pub standing : (rows : List Entity) (number : ℕ) → row_at rows number ≢ row.Null → (e : Entity) × (at_number rows number ≡ Some e)
unfolding row_at
standing rows number h = go (at_number rows number) refl h where
  go : (o : Option Entity) → at_number rows number ≡ o → row_or_null o ≢ row.Null → (e : Entity) × (at_number rows number ≡ Some e)
  go None is h = absurd (h refl)
  go (Some e) is h = (e, is)

-- an entity that stands, of rows that are accepted
pub standing_accepted : (rows : List Entity) (number : ℕ) → row_at rows number ≢ row.Null → AllByRecursion IsAcceptedEntity rows → (e : Entity) × (at_number rows number ≡ Some e) × IsAcceptedEntity e
standing_accepted rows number h all =
    let (e, is) = standing rows number h in
    (e, is, holds_at IsAcceptedEntity rows (number / 2) e all (sym (at_odd rows number (has_odd rows number e is)) ∙ is))
