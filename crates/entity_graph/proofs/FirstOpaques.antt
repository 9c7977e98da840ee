-- The least number of a row that is reached and that isn't read: there is one answer, and only one.
use Rattle.std.proofs.Common.{◌≡◌, ◌⊎◌, inl, inr, ℕ, ◌<◌, ◌≤◌, List, refl, sym, ◌∙◌, arith}
use Rattle.std.proofs.lemmas.Bool.{cases_lt}
use Rattle.solid_base.specs.declared.entities.Entity.{Entity}
use Rattle.solid_base.specs.References.{row_at, Reaches}
use Rattle.entity_graph.specs.Opaque.{IsOpaque, ReachesOpaque, IsFirstOpaque}
use Rattle.entity_graph.proofs.Decided.{turned, both_decided, first_or_ever}
use Rattle.entity_graph.proofs.RowsDecided.{bound, row_past, unread_decided}
use Rattle.entity_graph.proofs.Leading.{reaches_decided}

opaque_past : (rows : List Entity) (e k : ℕ) → bound rows ≤ k → ¬ ReachesOpaque rows e k
opaque_past rows e k past w = rw (row_past rows k past) at w.1

-- each entity has its least unread row, or none
pub first_opaque_some : (rows : List Entity) (e : ℕ) → (n : ℕ) × IsFirstOpaque rows e n
first_opaque_some rows e =
    go (first_or_ever (λ k. ¬ ReachesOpaque rows e k) (ReachesOpaque rows e) (λ k. turned (ReachesOpaque rows e k) (¬ ReachesOpaque rows e k) (both_decided (Reaches rows e k) (IsOpaque rows k) (reaches_decided rows e k) (unread_decided (row_at rows k)))) (bound rows) (opaque_past rows e)) where
      least : (n k : ℕ) → ((j : ℕ) → j < n → ¬ ReachesOpaque rows e j) → ReachesOpaque rows e k → (k < n) ⊎ (n ≤ k) → n ≤ k
      least n k earlier w (inl below) = absurd (earlier k below w)
      least n k earlier w (inr up) = up

      go : ((k : ℕ) → ¬ ReachesOpaque rows e k) ⊎ ((k : ℕ) × ReachesOpaque rows e k × ((j : ℕ) → j < k → ¬ ReachesOpaque rows e j)) → (n : ℕ) × IsFirstOpaque rows e n
      go (inl none) = (0, inl (refl, none))
      go (inr f) = (f.0, inr (f.1, λ k w. least f.0 k f.2 w (cases_lt k f.0)))

-- an entity has one least unread row, or none
pub first_opaque_once : (rows : List Entity) (e m n : ℕ) → IsFirstOpaque rows e m → IsFirstOpaque rows e n → m ≡ n
first_opaque_once rows e m n (inl a) (inl b) = a.0 ∙ sym b.0
first_opaque_once rows e m n (inl a) (inr b) = absurd (a.1 n b.0)
first_opaque_once rows e m n (inr a) (inl b) = absurd (b.1 m a.0)
first_opaque_once rows e m n (inr a) (inr b) = omega (arith, a.1 n b.0, b.1 m a.0)
