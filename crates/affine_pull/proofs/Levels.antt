-- Where no entity is deeper than the levels that are counted, one level more changes no chain.
use Rattle.std.proofs.Common.{◌≡◌, ℕ, zero, suc, ◌≤◌, List, [], ◌∷◌, refl, sym, ap, ◌∙◌, arith}
use Rattle.std.proofs.Math.Nat.{le-max_left}
use Rattle.solid_base.specs.declared.entities.Entity.{Entity}
use Rattle.solid_base.specs.declared.geometry.Affine.{Affine}
use Rattle.solid_base.specs.declared.solids.Row.{Row}
use Rattle.solid_base.specs.declared.solids.Row.TheVariants as row
use Rattle.solid_base.specs.References.{references_of, references, row_at}
use Rattle.solid_base.specs.Graph.{greatest, depth_within, depth_of, AreSound, most_levels}
use Rattle.affine_pull.specs.Chains.{chain_step, chain_within, chain_of}

-- 0 names no matrix
none-within : (levels : ℕ) (rows : List Entity) → chain_within levels rows 0 ≡ []
unfolding chain_within row_at
none-within zero rows = refl
none-within (suc levels) rows = refl

-- a matrix that names none is a chain of one
pub single-within : (levels : ℕ) (rows : List Entity) (m form next : ℕ) (a : Affine) → (levels ≡ 0 → ⊥) → row_at rows m ≡ row.Matrix form a next → next ≡ 0
    → chain_within levels rows m ≡ a ∷ []
unfolding chain_within
single-within zero rows m form next a l e n = absurd (l refl)
single-within (suc levels) rows m form next a l e n = rw (e, n) (ap (λ c. a ∷ c) (none-within levels rows))

same-none : (n m : ℕ) (rows : List Entity) → chain_within n rows 0 ≡ chain_within m rows 0
same-none n m rows = none-within n rows ∙ sym (none-within m rows)

same-step : (n : ℕ) (rows : List Entity) (r : Row) → greatest (depth_within (suc n) rows) (references r) ≤ n
    → ((c : ℕ) → depth_within (suc n) rows c ≤ n → chain_within n rows c ≡ chain_within (suc n) rows c)
    → chain_step (chain_within n rows) r ≡ chain_step (chain_within (suc n) rows) r
unfolding references_of
same-step n rows (row.Matrix form a zero) h k = ap (λ c. a ∷ c) (same-none n (suc n) rows)
same-step n rows (row.Matrix form a (suc m)) h k = ap (λ c. a ∷ c) (k (suc m) (let l = le-max_left (depth_within (suc n) rows (suc m)) 0 in omega arith))
same-step n rows row.Null h k = refl
same-step n rows (row.Opaque kind form matrix text) h k = refl
same-step n rows (row.Prim p matrix) h k = refl
same-step n rows (row.Tree items matrix) h k = refl
same-step n rows (row.Assembly items matrix) h k = refl
same-step n rows (row.Instance child matrix) h k = refl

same-chain : (n : ℕ) (rows : List Entity) (e : ℕ) → depth_within (suc n) rows e ≤ n → chain_within n rows e ≡ chain_within (suc n) rows e
unfolding depth_within chain_within
same-chain zero rows e h = absurd (omega arith)
same-chain (suc n) rows e h = same-step n rows (row_at rows e) (omega arith) (λ c. same-chain n rows c)

pub chain-step : (rows : List Entity) (m : ℕ) → AreSound rows → chain_of rows m ≡ chain_step (chain_of rows) (row_at rows m)
unfolding chain_of chain_within depth_of
chain-step rows m s = same-chain most_levels rows m (s.shallow m)

pub chain-matrix : (rows : List Entity) (m form next : ℕ) (a : Affine) → AreSound rows → row_at rows m ≡ row.Matrix form a next → chain_of rows m ≡ a ∷ chain_of rows next
chain-matrix rows m form next a s e = chain-step rows m s ∙ ap (chain_step (chain_of rows)) e

pub chain-none : (rows : List Entity) → chain_of rows 0 ≡ []
unfolding chain_of
chain-none rows = none-within most_levels rows
