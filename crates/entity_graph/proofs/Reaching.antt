-- What marked rows reach, and what reaches marked rows, by an order in which what a row names comes before it.
use Rattle.std.proofs.Common.{◌≡◌, ◌⊎◌, inl, inr, ℕ, suc, ◌+◌, ◌*◌, ◌/◌, ◌<◌, ◌≤◌, ◌++◌, Bool, true, false, IsTrue, List, get_or, length, map, drop, refl, sym, ap, ◌∙◌, subst, arith}
use Rattle.std.specs.Prelude.{slice_get, Some}
use Rattle.std.proofs.Math.Seq.{drop-append_seam}
use Rattle.std.specs.List.{Contains, list_any}
use Rattle.std.proofs.lemmas.Bool.{cases_lt}
use Rattle.solid_base.specs.declared.entities.Entity.{Entity}
use Rattle.solid_base.specs.declared.references.Reference.{Reference}
use Rattle.solid_base.specs.References.{HasNumber, target, references_of, references, row_at, Refers, Reaches, here, further}
use Rattle.entity_graph.specs.FirstFaults.{ArePresent}
use Rattle.entity_graph.specs.Links.{places}
use Rattle.entity_graph.specs.Order.{Before, IsWhole}
use Rattle.entity_graph.specs.Marks.{has_mark, IsMarked, with_mark, with_marks, IsReached, ReachesMarked}
use Rattle.entity_graph.proofs.Numbers.{number_is, refers_from, refers_to, places_length, row_of_entity}
use Rattle.entity_graph.proofs.Cycles.{refers_names}
use Rattle.entity_graph.proofs.Marked.{never, marked_at, with_length, all_length, mark_stays, mark_has, mark_only, marks_stay, marks_have, marks_only, any_marked, marked_any}

-- the references that were read last are those of the row
pub row_named : (rows : List Entity) (p : ℕ) (entity : Entity) (before all slice tail : List Reference) (n : ℕ) → slice_get rows p ≡ Some entity → n ≡ length before → all ≡ before ++ references_of entity.row → slice ≡ all
    → tail ≡ drop n slice → map target tail ≡ references (row_at rows (2 * p + 1))
row_named rows p entity before all slice tail n get size read same cut =
    ap (map target) (cut ∙ ap (λ (l : List Reference). drop n l) (same ∙ read) ∙ ap (λ m. drop m (before ++ references_of entity.row)) size ∙ drop-append_seam before (references_of entity.row))
    ∙ ap references (sym (row_of_entity rows rows p entity refl get))

module _ (rows : List Entity) (order : List ℕ) (marked marks : List Bool) where
  -- what is marked is reached, and a row that is marked and doesn't stand in the front that is left
  -- has marks on all that it names
  pub record AreReached (left : ℕ) : Type 0 where
    pub size : length marks ≡ length rows
    pub kept : (k : ℕ) → IsMarked marked k → IsMarked marks k
    pub reached : (k : ℕ) → IsMarked marks k → IsReached rows marked k
    pub closed : (k : ℕ) → HasNumber rows k → Before order left (k / 2) ⊎ (IsMarked marks k → (c : ℕ) → Refers rows k c → IsMarked marks c)

  -- what is marked reaches a row that was marked, and the rows so far are marked where they do
  pub record AreReaching (i : ℕ) : Type 0 where
    pub size : length marks ≡ length rows
    pub kept : (k : ℕ) → IsMarked marked k → IsMarked marks k
    pub reaching : (e : ℕ) → IsMarked marks e → ReachesMarked rows marked e
    pub done : (j : ℕ) → j < i → ReachesMarked rows marked (2 * get_or order j 0 + 1) → IsMarked marks (2 * get_or order j 0 + 1)

module _ (rows : List Entity) (present : ArePresent rows) (order : List ℕ) (whole : IsWhole (places rows) order) where
  -- the number of the row at a place of the order
  abbrev number : ℕ → ℕ
  number i = 2 * get_or order i 0 + 1

  pub number_in : (marks : List Bool) (i : ℕ) → i < length order → length marks ≡ length rows → HasNumber marks (number i)
  number_in marks i h s = let a = whole.inside i h in let b = places_length rows in (omega arith, omega arith)

  -- what a row names comes before it
  named_before : (i c : ℕ) → i < length order → Refers rows (number i) c → Before order i (c / 2)
  named_before i c h r = whole.ordered i (c / 2) h (refers_names rows (get_or order i 0) c r)

  named_in : (marks : List Bool) (e c : ℕ) → length marks ≡ length rows → Refers rows e c → HasNumber marks c
  named_in marks e c s r = let n = refers_to rows present e c r in let l = n.1 in (n.0, omega arith)

  -- ---- what marked rows reach

  reached_further : (marked : List Bool) (e c : ℕ) → IsReached rows marked e → Refers rows e c → IsReached rows marked c
  reached_further marked e c r n = (r.0, r.1, reaches_then r.0 e r.2 n) where
    reaches_then : (a e : ℕ) → Reaches rows a e → Refers rows e c → Reaches rows a c
    reaches_then a e here n = further n here
    reaches_then a e (further {c = d} m w) n = further m (reaches_then d e w n)

  abbrev Closed : List Bool → ℕ → ℕ → Type 0
  Closed marks left k = Before order left (k / 2) ⊎ (IsMarked marks k → (c : ℕ) → Refers rows k c → IsMarked marks c)

  pub closed_start : (marks : List Bool) (k : ℕ) → HasNumber rows k → Closed marks (length order) k
  closed_start marks k h = inl (whole.all (k / 2) (let a = h.1 in let b = places_length rows in omega arith))

  -- a row that isn't marked leaves all as it is
  pub closed_past : (marks : List Bool) (i : ℕ) → ¬ IsMarked marks (number i) → (k : ℕ) → HasNumber rows k → Closed marks (suc i) k → Closed marks i k
  closed_past marks i none k h (inr all) = inr all
  closed_past marks i none k h (inl b) = elim (cases_lt b.at i) [
    | inl l ↦ inl (record { at = b.at; below = l; is = b.is })
    | inr g ↦ (
        let u = b.below in
        let at_i : b.at ≡ i = omega arith in
        let q : number i ≡ k = ap (λ j. 2 * get_or order j 0 + 1) (sym at_i) ∙ ap (λ p. 2 * p + 1) b.is ∙ number_is rows k h in
        inr (λ m. absurd (none (subst (IsMarked marks) (sym q) m)))
        )
  ]

  module _ (marks : List Bool) (size : length marks ≡ length rows) (i : ℕ) (inside : i < length order) where
    abbrev new : List Bool
    new = with_marks marks (references (row_at rows (number i)))

    pub closed_more : (k : ℕ) → HasNumber rows k → Closed marks (suc i) k → Closed new i k
    closed_more k h (inl b) = elim (cases_lt b.at i) [
      | inl l ↦ inl (record { at = b.at; below = l; is = b.is })
      | inr g ↦ (
          let u = b.below in
          let at_i : b.at ≡ i = omega arith in
          let q : number i ≡ k = ap (λ j. 2 * get_or order j 0 + 1) (sym at_i) ∙ ap (λ p. 2 * p + 1) b.is ∙ number_is rows k h in
          inr (λ m c r. marks_have (references (row_at rows (number i))) marks c (named_in marks k c size r) (subst (λ x. Refers rows x c) (sym q) r))
          )
    ]
    closed_more k h (inr all) = by (whether (has_mark new k)) where
      whether : (b : Bool) → (b ≡ true) ⊎ (b ≡ false)
      whether true = inl refl
      whether false = inr refl

      old : IsMarked marks k ⊎ Contains (references (row_at rows (number i))) k → Closed new i k
      old (inl m) = inr (λ _ c r. marks_stay (references (row_at rows (number i))) marks c (all m c r))
      old (inr r) = inl (named_before i k inside r)

      by : (has_mark new k ≡ true) ⊎ (has_mark new k ≡ false) → Closed new i k
      by (inl t) = old (marks_only (references (row_at rows (number i))) marks k t)
      by (inr f) = inr (λ m. absurd (never (has_mark new k) m f))

    pub reached_more : (marked : List Bool) → IsMarked marks (number i) → ((k : ℕ) → IsMarked marks k → IsReached rows marked k) → (k : ℕ) → IsMarked new k → IsReached rows marked k
    reached_more marked m right k w = from (marks_only (references (row_at rows (number i))) marks k w) where
      from : IsMarked marks k ⊎ Contains (references (row_at rows (number i))) k → IsReached rows marked k
      from (inl a) = right k a
      from (inr r) = reached_further marked (number i) k (right (number i) m) r

  -- where no row is left, all is marked that marked rows reach
  pub all_reached : (marked marks : List Bool) → length marked ≡ length rows → ((k : ℕ) → IsMarked marked k → IsMarked marks k) → ((k : ℕ) → HasNumber rows k → Closed marks 0 k) → (k : ℕ) → IsReached rows marked k → IsMarked marks k
  all_reached marked marks size kept closed k r = walk r.0 k (number_of_marked r.0 r.1) (kept r.0 r.1) r.2 where
    number_of_marked : (e : ℕ) → IsMarked marked e → HasNumber rows e
    number_of_marked e m = let n = (marked_at marked e m).0 in let l = n.1 in (n.0, omega arith)

    step : (e c : ℕ) → Closed marks 0 e → IsMarked marks e → Refers rows e c → IsMarked marks c
    step e c (inl b) m r = absurd (let l = b.below in omega arith)
    step e c (inr all) m r = all m c r

    walk : (e k : ℕ) → HasNumber rows e → IsMarked marks e → Reaches rows e k → IsMarked marks k
    walk e k h m here = m
    walk e k h m (further {c = c} r w) = walk c k (refers_to rows present e c r) (step e c (closed e h) m r) w

  -- ---- what reaches marked rows

  onward : (marked : List Bool) (e : ℕ) → ReachesMarked rows marked e → IsMarked marked e ⊎ ((c : ℕ) × Refers rows e c × ReachesMarked rows marked c)
  onward marked e (k, here, m) = inl m
  onward marked e (k, further {c = c} r w, m) = inr (c, r, (k, w, m))

  module _ (marked marks : List Bool) (size : length marks ≡ length rows) (i : ℕ) (inside : i < length order)
      (kept : (k : ℕ) → IsMarked marked k → IsMarked marks k) (done : (j : ℕ) → j < i → ReachesMarked rows marked (number j) → IsMarked marks (number j)) where
    abbrev any : Bool
    any = list_any (has_mark marks) (references (row_at rows (number i)))

    -- a row that reaches a marked one is marked, or names one that is
    found : ReachesMarked rows marked (number i) → IsMarked marks (number i) ⊎ IsTrue any
    found w = from (onward marked (number i) w) where
      from : IsMarked marked (number i) ⊎ ((c : ℕ) × Refers rows (number i) c × ReachesMarked rows marked c) → IsMarked marks (number i) ⊎ IsTrue any
      from (inl m) = inl (kept (number i) m)
      from (inr (c, r, v)) =
          let b = named_before i c inside r in
          let q : number b.at ≡ c = ap (λ p. 2 * p + 1) b.is ∙ number_is rows c (refers_to rows present (number i) c r) in
          inr (marked_any marks (references (row_at rows (number i))) c r (subst (IsMarked marks) q (done b.at b.below (subst (ReachesMarked rows marked) (sym q) v))))

    pub done_more : IsTrue any → (j : ℕ) → j < i + 1 → ReachesMarked rows marked (number j) → IsMarked (with_mark marks (number i)) (number j)
    done_more t j l w = elim (cases_lt j i) [
      | inl b ↦ mark_stays marks (number i) (number j) (done j b w)
      | inr g ↦ (let q : j ≡ i = omega arith in subst (λ x. IsMarked (with_mark marks (number i)) (number x)) (sym q) (mark_has marks (number i) (number_in marks i inside size)))
    ]

    pub done_past : any ≡ false → (j : ℕ) → j < i + 1 → ReachesMarked rows marked (number j) → IsMarked marks (number j)
    done_past f j l w = elim (cases_lt j i) [
      | inl b ↦ done j b w
      | inr g ↦ (let q : j ≡ i = omega arith in subst (λ x. IsMarked marks (number x)) (sym q) (last (found (subst (λ x. ReachesMarked rows marked (number x)) q w))))
    ] where
      last : IsMarked marks (number i) ⊎ IsTrue any → IsMarked marks (number i)
      last (inl m) = m
      last (inr t) = absurd (never any t f)

    pub reaching_more : IsTrue any → ((e : ℕ) → IsMarked marks e → ReachesMarked rows marked e) → (e : ℕ) → IsMarked (with_mark marks (number i)) e → ReachesMarked rows marked e
    reaching_more t right e m = from (mark_only marks (number i) e m) where
      named : (c : ℕ) × Contains (references (row_at rows (number i))) c × IsMarked marks c → ReachesMarked rows marked (number i)
      named (c, r, m) = let w = right c m in (w.0, further r w.1, w.2)

      from : IsMarked marks e ⊎ ((e ≡ number i) × HasNumber marks (number i)) → ReachesMarked rows marked e
      from (inl a) = right e a
      from (inr b) = subst (ReachesMarked rows marked) (sym b.0) (named (any_marked marks (references (row_at rows (number i))) t))

  -- where all rows were looked at, each that reaches a marked one is marked
  pub all_reaching : (marked marks : List Bool) → length marked ≡ length rows → (i : ℕ) → length order ≤ i → ((j : ℕ) → j < i → ReachesMarked rows marked (number j) → IsMarked marks (number j))
      → ((k : ℕ) → IsMarked marked k → IsMarked marks k) → (e : ℕ) → ReachesMarked rows marked e → IsMarked marks e
  all_reaching marked marks size i h done kept e w = from (onward marked e w) where
    at : HasNumber rows e → IsMarked marks e
    at n =
        let b = whole.all (e / 2) (let a = n.1 in let l = places_length rows in omega arith) in
        let q : number b.at ≡ e = ap (λ p. 2 * p + 1) b.is ∙ number_is rows e n in
        subst (IsMarked marks) q (done b.at (let l = b.below in omega arith) (subst (ReachesMarked rows marked) (sym q) w))

    from : IsMarked marked e ⊎ ((c : ℕ) × Refers rows e c × ReachesMarked rows marked c) → IsMarked marks e
    from (inl m) = kept e m
    from (inr t) = at (refers_from rows e t.0 t.1)

  -- ---- the loops

  pub reached_start : (marked : List Bool) → length marked ≡ length rows → AreReached rows order marked marked (length order)
  reached_start marked size = record {
    size = size;
    kept = λ k m. m;
    reached = λ k m. (k, m, here);
    closed = closed_start marked;
  }

  module _ (marked marks : List Bool) (i left : ℕ) (is : left ≡ suc i) (state : AreReached rows order marked marks left) where
    next : AreReached rows order marked marks (suc i)
    next = subst (AreReached rows order marked marks) is state

    pub reached_past : has_mark marks (number i) ≡ false → AreReached rows order marked marks i
    reached_past f = record {
      size = next.size;
      kept = next.kept;
      reached = next.reached;
      closed = λ k h. closed_past marks i (λ m. never (has_mark marks (number i)) m f) k h (next.closed k h);
    }

    pub reached_next : i < length order → has_mark marks (number i) ≡ true → (after : List Bool) → after ≡ with_marks marks (references (row_at rows (number i))) → AreReached rows order marked after i
    reached_next inside m after q = subst (λ (l : List Bool). AreReached rows order marked l i) (sym q) (record {
      size = all_length (references (row_at rows (number i))) marks ∙ next.size;
      kept = λ k w. marks_stay (references (row_at rows (number i))) marks k (next.kept k w);
      reached = reached_more marks next.size i inside marked m next.reached;
      closed = λ k h. closed_more marks next.size i inside k h (next.closed k h);
    })

  pub reaching_start : (marked : List Bool) → length marked ≡ length rows → AreReaching rows order marked marked 0
  reaching_start marked size = record {
    size = size;
    kept = λ k m. m;
    reaching = λ e m. (e, here, m);
    done = λ j l w. absurd (omega arith);
  }

  module _ (marked marks : List Bool) (i : ℕ) (inside : i < length order) (state : AreReaching rows order marked marks i) where
    pub reaching_past : list_any (has_mark marks) (references (row_at rows (number i))) ≡ false → (after : List Bool) → after ≡ marks → AreReaching rows order marked after (i + 1)
    reaching_past f after q = subst (λ (l : List Bool). AreReaching rows order marked l (i + 1)) (sym q) (record {
      size = state.size;
      kept = state.kept;
      reaching = state.reaching;
      done = done_past marked marks state.size i inside state.kept state.done f;
    })

    pub reaching_next : list_any (has_mark marks) (references (row_at rows (number i))) ≡ true → (after : List Bool) → after ≡ with_mark marks (number i) → AreReaching rows order marked after (i + 1)
    reaching_next t after q = subst (λ (l : List Bool). AreReaching rows order marked l (i + 1)) (sym q) (record {
      size = with_length marks (number i) ∙ state.size;
      kept = λ k w. mark_stays marks (number i) k (state.kept k w);
      reaching = reaching_more marked marks state.size i inside state.kept state.done t state.reaching;
      done = done_more marked marks state.size i inside state.kept state.done t;
    })
