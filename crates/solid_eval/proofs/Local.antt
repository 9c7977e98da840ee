-- An entity's solid depends on nothing but the rows that it reaches.
use Rattle.std.proofs.Common.{◌≡◌, ℕ, zero, suc, List, [], ◌∷◌, refl, ap, ◌∙◌, sym, subst, arith}
use Rattle.std.specs.List.{AllByRecursion, Contains}
use Rattle.std.specs.Prelude.{◌↔◌}
use Rattle.solid_base.specs.declared.entities.Entity.{Entity}
use Rattle.solid_base.specs.declared.geometry.Affine.{Affine}
use Rattle.solid_base.specs.declared.solids.Row.{Row}
use Rattle.solid_base.specs.declared.solids.Row.TheVariants as row
use Rattle.solid_base.specs.References.{references_of, references, row_at, Refers, Reaches, here, further}
use Rattle.affine_pull.specs.Chains.{chain_step, chain_within, chain_of}
use Rattle.affine_pull.proofs.Levels.{chain-none}
use Rattle.solid_eval.specs.Solids.{row_solid, solid_within, solid_of}
use Rattle.solid_eval.specs.Locality.{Agree}
use Rattle.solid_eval.proofs.SameParts.{same_row}

pub all_named : (P : ℕ → Type 0) (cs : List ℕ) → ((c : ℕ) → Contains cs c → P c) → AllByRecursion P cs
all_named P [] h = tt
all_named P (c ∷ cs) h = (h c (0, omega arith, refl), all_named P cs (λ d i. h d (suc i.0, omega (arith, i.1), i.2)))

-- what holds of an entity holds of those that it names
agree_below : (rows others : List Entity) (e c : ℕ) → Agree rows others e → Refers rows e c → Agree rows others c
agree_below rows others e c h r k reached = h k (further r reached)

-- an entity reaches the same entities twice
reached_there : (rows others : List Entity) (e k : ℕ) → Agree rows others e → Reaches rows e k
    → Reaches others e k
reached_there rows others e k h here = here
reached_there rows others e k h (further {c = c} r reached) =
    let there = subst (λ own. Contains (references own) c) (h e here) r in
    let agree = agree_below rows others e c h r in
    further there (reached_there rows others c k agree reached)

reached_here : (rows others : List Entity) (e k : ℕ) → Agree rows others e → Reaches others e k
    → Reaches rows e k
reached_here rows others e k h here = here
reached_here rows others e k h (further {c = c} r reached) =
    let own = subst (λ own. Contains (references own) c) (sym (h e here)) r in
    let agree = agree_below rows others e c h own in
    further own (reached_here rows others c k agree reached)

pub same_reached : (rows others : List Entity) (e k : ℕ) → Agree rows others e
    → Reaches rows e k ↔ Reaches others e k
same_reached rows others e k h =
    (reached_there rows others e k h, reached_here rows others e k h)

-- 0 names no matrix
none-within : (levels : ℕ) (rows : List Entity) → chain_within levels rows 0 ≡ []
unfolding chain_within row_at
none-within zero rows = refl
none-within (suc levels) rows = refl

same-step : (f g : ℕ → List Affine) (r : Row) → f 0 ≡ g 0 → AllByRecursion (λ c. f c ≡ g c) (references r) → chain_step f r ≡ chain_step g r
unfolding references_of
same-step f g (row.Matrix form a zero) none h = ap (λ c. a ∷ c) none
same-step f g (row.Matrix form a (suc m)) none h = ap (λ c. a ∷ c) h.0
same-step f g row.Null none h = refl
same-step f g (row.Opaque kind form matrix text) none h = refl
same-step f g (row.Prim p matrix) none h = refl
same-step f g (row.Tree items matrix) none h = refl
same-step f g (row.Assembly items matrix) none h = refl
same-step f g (row.Instance child matrix) none h = refl

local-within : (n : ℕ) (rows others : List Entity) (m : ℕ) → Agree rows others m → chain_within n rows m ≡ chain_within n others m
unfolding chain_within
local-within zero rows others m h = refl
local-within (suc n) rows others m h =
    same-step (chain_within n rows) (chain_within n others) (row_at rows m) (none-within n rows ∙ sym (none-within n others))
    (all_named _ (references (row_at rows m)) (λ c r. local-within n rows others c (agree_below rows others m c h r)))
    ∙ ap (chain_step (chain_within n others)) (h m here)

pub local-chain : (rows others : List Entity) (m : ℕ) → Agree rows others m → chain_of rows m ≡ chain_of others m
unfolding chain_of
local-chain rows others m h = local-within _ rows others m h

local_within : (n : ℕ) (rows others : List Entity) (e : ℕ) → Agree rows others e → solid_within n rows e ≡ solid_within n others e
unfolding solid_within
local_within zero rows others e h = refl
local_within (suc n) rows others e h =
    let same : (c : ℕ) → Refers rows e c → (chain_of rows c ≡ chain_of others c) × (solid_within n rows c ≡ solid_within n others c) =
    λ c r. (local-chain rows others c (agree_below rows others e c h r), local_within n rows others c (agree_below rows others e c h r)) in
    same_row (chain_of rows) (chain_of others) (solid_within n rows) (solid_within n others) (chain-none rows ∙ sym (chain-none others)) e (row_at rows e) (all_named _ (references (row_at rows e)) same)
    ∙ ap (row_solid (chain_of others) (solid_within n others) e) (h e here)

pub local_solid : (rows others : List Entity) (e : ℕ) → Agree rows others e → solid_of rows e ≡ solid_of others e
unfolding solid_of
local_solid rows others e h = local_within _ rows others e h
