-- Each entry of a table is right where those of the rows that its row names are.
use Rattle.std.proofs.Common.{◌≡◌, ℕ, suc, ◌+◌, ◌*◌, ◌/◌, ◌<◌, ◌≤◌, inl, inr, List, get_or, set, length, sym, ap, ◌∙◌, subst, arith, get_or-set_other, get_or-set_same}
use Rattle.std.proofs.lemmas.Bool.{cases_lt, cases_eq}
use Rattle.solid_base.specs.declared.entities.Entity.{Entity}
use Rattle.solid_base.specs.References.{HasNumber, references, row_at, Refers}
use Rattle.solid_base.specs.Graph.{depth_of, weight_of, most_weight}
use Rattle.entity_graph.specs.FirstFaults.{ArePresent}
use Rattle.entity_graph.specs.Links.{places}
use Rattle.entity_graph.specs.Order.{IsWhole}
use Rattle.entity_graph.specs.Tables.{entry}
use Rattle.entity_graph.specs.Measures.{step, IsReady, Right}
use Rattle.entity_graph.specs.declared.tables.Measure.{Measure}
use Rattle.entity_graph.specs.declared.tables.Measure.TheVariants as measure
use Rattle.entity_graph.proofs.Numbers.{number_is, refers_to, places_length}
use Rattle.entity_graph.proofs.Cycles.{refers_names}
use Rattle.entity_graph.proofs.Sums.{greatest_same, weight_capped}
use Rattle.entity_graph.proofs.Levels.{depth_step, no_levels}
use Rattle.entity_graph.proofs.Opaques.{opaque_step}

module _ (rows : List Entity) where
  pub right_step : (m : Measure) → IsReady m rows → (f : ℕ → ℕ) (e : ℕ) → ((c : ℕ) → Refers rows e c → Right m rows c (f c)) → Right m rows e (step m rows f e)
  right_step measure.Depth ready f e h =
      let s = depth_step rows e in
      let g = greatest_same f (depth_of rows) (references (row_at rows e)) h in
      omega arith
  right_step measure.Weight ready f e h =
      let w = (no_levels rows ready e).weight in
      let s = weight_capped (suc most_weight) f (weight_of rows) (row_at rows e) (λ c i. let k = h c i in omega arith) in
      omega arith
  right_step measure.Opaque ready f e h = opaque_step rows f e h

  module _ (m : Measure) (table order : List ℕ) (present : ArePresent rows) (whole : IsWhole (places rows) order) where
    -- the entry after the right ones is right too
    pub right_more : (i n : ℕ) → i < length order → length table ≡ length rows → IsReady m rows
        → ((j : ℕ) → j < i → Right m rows (2 * get_or order j 0 + 1) (get_or table (get_or order j 0) 0))
        → n ≡ step m rows (entry table) (2 * get_or order i 0 + 1)
        → (j : ℕ) → j < i + 1 → Right m rows (2 * get_or order j 0 + 1) (get_or (set table (get_or order i 0) n) (get_or order j 0) 0)
    right_more i n h size ready right q j l =
        let at = get_or order i 0 in
        let inside : at < length rows = (let a = whole.inside i h in let b = places_length rows in omega arith) in
        let known = λ (c : ℕ) (r : Refers rows (2 * at + 1) c).
        let k = refers_to rows present (2 * at + 1) c r in
        let b = whole.ordered i (c / 2) h (refers_names rows at c r) in
        let e : 2 * get_or order b.at 0 + 1 ≡ c = ap (λ p. 2 * p + 1) b.is ∙ number_is rows c k in
        subst (λ p. Right m rows p (get_or table (c / 2) 0)) e (subst (λ p. Right m rows (2 * get_or order b.at 0 + 1) (get_or table p 0)) b.is (right b.at b.below)) in
        let new : Right m rows (2 * at + 1) n = subst (Right m rows (2 * at + 1)) (sym q) (right_step m ready (entry table) (2 * at + 1) known) in
        elim (cases_eq (get_or order j 0) at) [
          | inl x ↦ subst (λ p. Right m rows (2 * p + 1) (get_or (set table at n) p 0)) (sym x) (subst (Right m rows (2 * at + 1)) (sym (get_or-set_same table at n 0 (omega arith))) new)
          | inr d ↦ subst (Right m rows (2 * get_or order j 0 + 1)) (sym (get_or-set_other table at (get_or order j 0) n 0 d))
              (right j (elim (cases_lt j i) [ inl a ↦ a | inr g ↦ absurd (d (ap (λ k. get_or order k 0) (let e : j ≡ i = omega arith in e))) ]))
        ]

    -- where all rows were measured each entry is right
    pub all_right : (i : ℕ) → length order ≤ i → ((j : ℕ) → j < i → Right m rows (2 * get_or order j 0 + 1) (get_or table (get_or order j 0) 0)) → (e : ℕ) → HasNumber rows e → Right m rows e (entry table e)
    all_right i h right e k =
        let b = whole.all (e / 2) (let a = k.1 in let n = places_length rows in omega arith) in
        let q : 2 * get_or order b.at 0 + 1 ≡ e = ap (λ p. 2 * p + 1) b.is ∙ number_is rows e k in
        subst (λ p. Right m rows p (get_or table (e / 2) 0)) q (subst (λ p. Right m rows (2 * get_or order b.at 0 + 1) (get_or table p 0)) b.is (right b.at (let l = b.below in omega arith)))
