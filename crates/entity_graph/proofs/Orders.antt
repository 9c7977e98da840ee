-- What a search that isn't under way has found.
use Rattle.std.proofs.Common.{◌≡◌, ℕ, zero, suc, ◌<◌, ◌≤◌, List, [], length, refl, sym, ap, ◌∙◌, arith}
use Rattle.std.specs.Prelude.{replicate}
use Rattle.std.proofs.lemmas.List.{length-replicate}
use Rattle.entity_graph.specs.declared.search.Mark.{Mark}
use Rattle.entity_graph.specs.declared.search.Mark.TheVariants.{Unseen, OnWay, Done}
use Rattle.entity_graph.specs.Order.{Before, Rings, Idle, IsWhole, mark_at}
use Rattle.entity_graph.proofs.Ways.{no_ring, ring_in}
use Rattle.entity_graph.proofs.Walk.{way_seen}

fresh : (n e : ℕ) → mark_at (replicate n Unseen) e ≡ Unseen
fresh zero e = refl
fresh (suc n) zero = refl
fresh (suc n) (suc e) = fresh n e

module _ (refs : List (List ℕ)) (marks : List Mark) (order : List ℕ) where
  pub idle_start : (n : ℕ) → marks ≡ replicate n Unseen → n ≡ length refs → order ≡ [] → Idle refs marks order
  idle_start n m l o =
      let empty : length order ≡ 0 = ap length o in
      record {
        size = ap length m ∙ length-replicate n Unseen ∙ l;
        none = λ e k. way_seen (sym k ∙ ap (λ (x : List Mark). mark_at x e) m ∙ fresh n e);
        ordered = λ i c h r. absurd (omega arith);
        inside = λ i h. absurd (omega arith);
        kept = λ e k. absurd (let u : mark_at marks e ≡ Unseen = ap (λ (x : List Mark). mark_at x e) m ∙ fresh n e in two (mark_at marks e) u k);
      } where
        two : (x : Mark) → x ≡ Unseen → x ≡ Done → ⊥
        two x a b = absurd cc

  third : (m : Mark) → (m ≡ Unseen → ⊥) → (m ≡ OnWay → ⊥) → m ≡ Done
  third Unseen a b = absurd (a refl)
  third OnWay a b = absurd (b refl)
  third Done a b = refl

  module _ (idle : Idle refs marks order) where
    seen_before : (e : ℕ) → (mark_at marks e ≡ Unseen → ⊥) → Before order (length order) e
    seen_before e h = idle.kept e (third (mark_at marks e) h (idle.none e))

    pub seen_no_ring : (e : ℕ) → (mark_at marks e ≡ Unseen → ⊥) → Rings refs e → ⊥
    seen_no_ring e h r = no_ring refs order idle.ordered e (seen_before e h) r

    pub all_whole : (n : ℕ) → length refs ≤ n → ((e : ℕ) → e < n → mark_at marks e ≡ Unseen → ⊥) → IsWhole refs order
    all_whole n l h = record { ordered = idle.ordered; inside = idle.inside; all = λ e i. seen_before e (h e (omega arith)) }

    pub all_no_ring : (n : ℕ) → length refs ≤ n → ((e : ℕ) → e < n → mark_at marks e ≡ Unseen → ⊥) → (e : ℕ) → Rings refs e → ⊥
    all_no_ring n l h e r = let i = ring_in refs e r in seen_no_ring e (h e (omega arith)) r
