-- What an entity reaches, and its stamp after a change, from the marks that were made.
use Rattle.std.proofs.Common.{◌≡◌, ◌⊎◌, ◌↔◌, inl, inr, ℕ, ◌/◌, ◌%◌, Bool, false, List, length, sym, ap, ◌∙◌, subst, arith}
use Rattle.std.specs.Prelude.{replicate, ◌==◌, ◌≢◌, true, cond, slice_get, Option, Some, None, Result, Ok, Err, IfOk}
use Rattle.std.specs.List.{Contains}
use Rattle.std.proofs.lemmas.Bool.Decides.{eqb_tells}
use Rattle.std.proofs.lemmas.List.{length-replicate}
use Rattle.std.proofs.lemmas.Option.{slice_get_within}
use Rattle.solid_base.specs.declared.entities.Entity.{Entity}
use Rattle.solid_base.specs.References.{HasNumber, at_number, Reaches, here, further}
use Rattle.entity_graph.specs.FirstFaults.{ArePresent}
use Rattle.entity_graph.specs.Marks.{IsMarked, with_mark, with_marks, numbers_marked, IsReached, ReachesMarked, IsRenewed}
use Rattle.entity_graph.specs.Stamps.{ReachesChanged, IsStamp}
use Rattle.entity_graph.proofs.Numbers.{refers_to}
use Rattle.entity_graph.proofs.Marked.{with_length, all_length, mark_has, mark_only, marks_have, marks_only, none_marked, numbers_are}

pub if_both : {X Y : Type 0} (r : Result X Y) (P Q R : X → Type 0) → ((x : X) → P x → Q x → R x) → IfOk r P → IfOk r Q → IfOk r R
if_both (Ok x) P Q R f p q = f x p q
if_both (Err e) P Q R f p q = tt

-- only a place in a list has a number
pub number_of_some : {X : Type 0} (xs : List X) (e : ℕ) (x : X) → at_number xs e ≡ Some x → HasNumber xs e
number_of_some {X = X} xs e x h = by (eqb_tells (e % 2) 1) h where
  by : (((e % 2 == 1) ≡ true) × (e % 2 ≡ 1)) ⊎ (((e % 2 == 1) ≡ false) × (e % 2 ≢ 1)) → cond (e % 2 == 1) (slice_get xs (e / 2)) None ≡ Some x → HasNumber xs e
  by (inl t) h = (t.1, slice_get_within xs (e / 2) x (rw t.0 at h))
  by (inr f) h = absurd (not_some (rw f.0 at h)) where
    not_some : ◌≡◌ {A = Option X} None (Some x) → ⊥
    not_some q = absurd cc

module _ (rows : List Entity) (n : ℕ) (size : n ≡ length rows) where
  in_marks : (k : ℕ) → HasNumber rows k → HasNumber (replicate n false) k
  in_marks k h = let s = length-replicate n false in let l = h.1 in (h.0, omega arith)

  -- ---- the numbers that an entity reaches

  pub one_size : (e : ℕ) (fresh marked : List Bool) → fresh ≡ replicate n false → marked ≡ with_mark fresh e → length marked ≡ length rows
  one_size e fresh marked f m = ap (λ (l : List Bool). length l) m ∙ with_length fresh e ∙ ap (λ (l : List Bool). length l) f ∙ length-replicate n false ∙ size

  pub reach_is : (e : ℕ) → HasNumber rows e → (fresh marked marks : List Bool) (numbers : List ℕ) → fresh ≡ replicate n false → marked ≡ with_mark fresh e
      → ((k : ℕ) → IsMarked marks k ↔ IsReached rows marked k) → numbers ≡ numbers_marked 0 marks → (k : ℕ) → Contains numbers k ↔ Reaches rows e k
  reach_is e h fresh marked marks numbers f m right q k =
      let is : marked ≡ with_mark (replicate n false) e = m ∙ ap (λ (l : List Bool). with_mark l e) f in (
        λ c. let r = (right k).0 ((numbers_are marks k).0 (subst (λ (l : List ℕ). Contains l k) q c)) in
            subst (λ a. Reaches rows a k) (own r.0 (mark_only (replicate n false) e r.0 (subst (λ (l : List Bool). IsMarked l r.0) is r.1))) r.2,
        λ w. subst (λ (l : List ℕ). Contains l k) (sym q) ((numbers_are marks k).1 ((right k).1 (e, subst (λ (l : List Bool). IsMarked l e) (sym is) (mark_has (replicate n false) e (in_marks e h)), w))),
      ) where
        own : (a : ℕ) → IsMarked (replicate n false) a ⊎ ((a ≡ e) × HasNumber (replicate n false) e) → a ≡ e
        own a (inl m) = absurd (none_marked n a m)
        own a (inr b) = b.0

  -- ---- stamps

  module _ (present : ArePresent rows) (changed : List ℕ) (fresh marked marks : List Bool) (f : fresh ≡ replicate n false) (m : marked ≡ with_marks fresh changed)
    where
      pub all_size : length marked ≡ length rows
      all_size = ap (λ (l : List Bool). length l) m ∙ all_length changed fresh ∙ ap (λ (l : List Bool). length l) f ∙ length-replicate n false ∙ size

      is : marked ≡ with_marks (replicate n false) changed
      is = m ∙ ap (λ (l : List Bool). with_marks l changed) f

      reached_number : (e k : ℕ) → HasNumber rows e → Reaches rows e k → HasNumber rows k
      reached_number e k h here = h
      reached_number e k h (further {c = c} r w) = reached_number c k (refers_to rows present e c r) w

      module _ (right : (e : ℕ) → IsMarked marks e ↔ ReachesMarked rows marked e) where
        -- a marked row reaches what was changed
        marked_changed : (e : ℕ) → IsMarked marks e → ReachesChanged rows changed e
        marked_changed e w = from ((right e).0 w) where
          own : (k : ℕ) → IsMarked (replicate n false) k ⊎ Contains changed k → Contains changed k
          own k (inl m) = absurd (none_marked n k m)
          own k (inr c) = c

          from : ReachesMarked rows marked e → ReachesChanged rows changed e
          from (k, w, t) = (k, w, own k (marks_only changed (replicate n false) k (subst (λ (l : List Bool). IsMarked l k) is t)))

        changed_marked : (e : ℕ) → HasNumber rows e → ReachesChanged rows changed e → IsMarked marks e
        changed_marked e h (k, w, c) =
            (right e).1 (k, w, subst (λ (l : List Bool). IsMarked l k) (sym is) (marks_have changed (replicate n false) k (in_marks k (reached_number e k h w)) c))

        -- a row that isn't marked wasn't changed
        pub known_old : (old : List ℕ) → length marks ≡ length rows → ((e : ℕ) → HasNumber rows e → ¬ Contains changed e → HasNumber old e) → (e : ℕ) → HasNumber marks e → ¬ IsMarked marks e → HasNumber old e
        known_old old s known e h none =
            let number : HasNumber rows e = (h.0, (let l = h.1 in omega arith)) in
            known e number (λ c. none (changed_marked e number (e, here, c)))

        pub stamps_are : (version : ℕ) (old stamps : List ℕ) → length marks ≡ length rows → length stamps ≡ length marks → ((e s : ℕ) → at_number stamps e ≡ Some s → IsRenewed marks version old e s)
            → (e s : ℕ) → at_number stamps e ≡ Some s → IsStamp rows changed version old e s
        stamps_are version old stamps size one renewed e s q = from (renewed e s q) where
          number : HasNumber rows e
          number = let h = number_of_some stamps e s q in let l = h.1 in (h.0, omega arith)

          from : IsRenewed marks version old e s → IsStamp rows changed version old e s
          from (inl a) = inl (marked_changed e a.0, a.1)
          from (inr b) = inr ((λ w. b.0 (changed_marked e number w)), b.1)

-- an entity has one stamp after a change
pub stamp_once : (rows : List Entity) (changed : List ℕ) (version : ℕ) (old : List ℕ) (e s t : ℕ) → IsStamp rows changed version old e s → IsStamp rows changed version old e t → s ≡ t
stamp_once rows changed version old e s t (inl a) (inl b) = a.1 ∙ sym b.1
stamp_once rows changed version old e s t (inl a) (inr b) = absurd (b.0 a.0)
stamp_once rows changed version old e s t (inr a) (inl b) = absurd (a.0 b.0)
stamp_once rows changed version old e s t (inr a) (inr b) = same (sym a.1 ∙ b.1) where
  same : ◌≡◌ {A = Option ℕ} (Some s) (Some t) → s ≡ t
  same q = cc
