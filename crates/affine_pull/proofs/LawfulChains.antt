-- The matrices in the chains of lawful rows are lawful.
use Rattle.std.proofs.Common.{◌≡◌, ℕ, zero, suc, ◌/◌, ◌%◌, ◌==◌, Bool, true, false, List, [], ◌∷◌, Option, None, slice_get, subst, cond}
use Rattle.std.specs.List.{AllByRecursion}
use Rattle.solid_base.specs.declared.entities.Entity.{Entity}
use Rattle.solid_base.specs.declared.geometry.Affine.{Affine}
use Rattle.solid_base.specs.declared.solids.Row.{Row}
use Rattle.solid_base.specs.declared.solids.Row.TheVariants as row
use Rattle.solid_base.specs.References.{row_or_null, row_at}
use Rattle.solid_base.specs.Ranges.{IsLawfulRow, IsLawfulMatrix}
use Rattle.affine_pull.specs.Chains.{chain_step, chain_within, chain_of}

lawful-get : (rows : List Entity) (i : ℕ) → AllByRecursion (λ (e : Entity). IsLawfulRow e.row) rows → IsLawfulRow (row_or_null (slice_get rows i))
lawful-get [] zero h = tt
lawful-get [] (suc i) h = tt
lawful-get (e ∷ rows) zero h = h.0
lawful-get (e ∷ rows) (suc i) h = lawful-get rows i h.1

lawful-odd : (odd : Bool) (found : Option Entity) → IsLawfulRow (row_or_null found) → IsLawfulRow (row_or_null (cond odd found None))
lawful-odd true found h = h
lawful-odd false found h = tt

pub lawful-row : (rows : List Entity) (number : ℕ) → AllByRecursion (λ (e : Entity). IsLawfulRow e.row) rows → IsLawfulRow (row_at rows number)
unfolding row_at
lawful-row rows number h = lawful-odd (number % 2 == 1) (slice_get rows (number / 2)) (lawful-get rows (number / 2) h)

-- the matrix of a row
pub lawful-affine : (rows : List Entity) (number form next : ℕ) (a : Affine) → AllByRecursion (λ (e : Entity). IsLawfulRow e.row) rows → row_at rows number ≡ row.Matrix form a next → IsLawfulMatrix a
lawful-affine rows number form next a h e = let k : IsLawfulRow (row.Matrix form a next) = subst IsLawfulRow e (lawful-row rows number h) in k.1

lawful-step : (chain : ℕ → List Affine) (r : Row) → ((m : ℕ) → AllByRecursion IsLawfulMatrix (chain m)) → IsLawfulRow r → AllByRecursion IsLawfulMatrix (chain_step chain r)
lawful-step chain (row.Matrix form affine next) h l = (l.1, h next)
lawful-step chain row.Null h l = tt
lawful-step chain (row.Opaque kind form matrix text) h l = tt
lawful-step chain (row.Prim p matrix) h l = tt
lawful-step chain (row.Tree items matrix) h l = tt
lawful-step chain (row.Assembly items matrix) h l = tt
lawful-step chain (row.Instance child matrix) h l = tt

lawful-within : (levels : ℕ) (rows : List Entity) (m : ℕ) → AllByRecursion (λ (e : Entity). IsLawfulRow e.row) rows → AllByRecursion IsLawfulMatrix (chain_within levels rows m)
unfolding chain_within
lawful-within zero rows m h = tt
lawful-within (suc levels) rows m h = lawful-step (chain_within levels rows) (row_at rows m) (λ c. lawful-within levels rows c h) (lawful-row rows m h)

pub lawful-chain : (rows : List Entity) (m : ℕ) → AllByRecursion (λ (e : Entity). IsLawfulRow e.row) rows → AllByRecursion IsLawfulMatrix (chain_of rows m)
unfolding chain_of
lawful-chain rows m h = lawful-within _ rows m h
