-- Where no entity is deeper than the levels that are counted, one level more changes no solid.
use Rattle.std.proofs.Common.{◌≡◌, ℕ, zero, suc, ◌≤◌, List, [], ◌∷◌, refl, arith}
use Rattle.std.specs.List.{AllByRecursion}
use Rattle.solid_base.specs.declared.entities.Entity.{Entity}
use Rattle.solid_base.specs.References.{references, row_at}
use Rattle.solid_base.specs.Graph.{greatest, depth_within, depth_of, AreSound, most_levels}
use Rattle.affine_pull.specs.Chains.{chain_of}
use Rattle.solid_eval.specs.Solids.{row_solid, solid_within, solid_of}
use Rattle.solid_eval.proofs.SameParts.{same_row}

all_below : (P : ℕ → Type 0) (f : ℕ → ℕ) (n : ℕ) (cs : List ℕ) → greatest f cs ≤ n → ((c : ℕ) → f c ≤ n → P c) → AllByRecursion P cs
all_below P f n [] h g = tt
all_below P f n (c ∷ cs) h g = (g c (omega (arith, h)), all_below P f n cs (omega (arith, h)) g)

same_solid : (n : ℕ) (rows : List Entity) (e : ℕ) → depth_within (suc n) rows e ≤ n → solid_within n rows e ≡ solid_within (suc n) rows e
unfolding depth_within solid_within
same_solid zero rows e h = absurd (omega arith)
same_solid (suc n) rows e h =
    let more : (c : ℕ) → depth_within (suc n) rows c ≤ n → (chain_of rows c ≡ chain_of rows c) × (solid_within n rows c ≡ solid_within (suc n) rows c) = λ c below. (refl, same_solid n rows c below) in
    same_row (chain_of rows) (chain_of rows) (solid_within n rows) (solid_within (suc n) rows) refl e (row_at rows e) (all_below _ (depth_within (suc n) rows) n (references (row_at rows e)) (omega arith) more)

pub solid_step : (rows : List Entity) (e : ℕ) → AreSound rows → solid_of rows e ≡ row_solid (chain_of rows) (solid_of rows) e (row_at rows e)
unfolding solid_of solid_within depth_of
solid_step rows e s = same_solid most_levels rows e (s.shallow e)
