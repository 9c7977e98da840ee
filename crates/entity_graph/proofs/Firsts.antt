-- The first reference that breaks a rule, within a row and row by row.
use Rattle.std.proofs.Common.{◌≡◌, ℕ, suc, ◌+◌, ◌*◌, ◌<◌, ◌≤◌, inl, inr, List, [], ◌∷◌, ◌++◌, Some, None, length, take, drop, refl, sym, ap, ◌∙◌, subst, arith}
use Rattle.std.specs.Prelude.{slice_get, Option, MatchOption}
use Rattle.std.proofs.lemmas.Bool.{cases_lt}
use Rattle.solid_base.specs.declared.entities.Entity.{Entity}
use Rattle.solid_base.specs.declared.solids.Row.TheVariants as row
use Rattle.solid_base.specs.declared.references.Reference.{Reference}
use Rattle.solid_base.specs.References.{target, references_of, row_at}
use Rattle.entity_graph.specs.FirstFaults.{HasNo, IsFirst}
use Rattle.entity_graph.specs.Links.{references_at}
use Rattle.entity_graph.specs.Rules.{HoldsOfNone, IsFirstIn}
use Rattle.entity_graph.proofs.Numbers.{is_number}
use Rattle.entity_graph.proofs.Steps.{take_step, split_step}

module _ (bad : Reference → Type 0) where
  none_append : (xs ys : List Reference) → HoldsOfNone bad xs → HoldsOfNone bad ys → HoldsOfNone bad (xs ++ ys)
  none_append [] ys h k = k
  none_append (x ∷ xs) ys h k = (h.0, none_append xs ys h.1 k)

  pub none_more : (rs : List Reference) (i : ℕ) (x : Reference) → slice_get rs i ≡ Some x → HoldsOfNone bad (take i rs) → ¬ bad x → HoldsOfNone bad (take (i + 1) rs)
  none_more rs i x s h n = subst (HoldsOfNone bad) (sym (take_step rs i (i + 1) x refl s)) (none_append (take i rs) (x ∷ []) h (n, tt))

  pub first_here : (rs : List Reference) (i : ℕ) (x : Reference) (to : ℕ) → slice_get rs i ≡ Some x → HoldsOfNone bad (take i rs) → bad x → to ≡ target x → IsFirstIn bad rs to
  first_here rs i x to s h b t = record {
    front = take i rs;
    named = x;
    rest = drop (suc i) rs;
    stands = split_step rs i x s;
    before = h;
    holds = b;
    names = sym t;
  }

  module _ (rows : List Entity) where
    none_of_null : (e : ℕ) → row_at rows e ≡ row.Null → HasNo bad rows e
    unfolding references_of
    none_of_null e z = subst (λ r. HoldsOfNone bad (references_of r)) (sym z) tt

    none_between : (place e : ℕ) → e ≡ 2 * place → HasNo bad rows e
    none_between place e q = elim (is_number rows e) [ inl n ↦ absurd (let a = n.0 in omega arith) | inr z ↦ none_of_null e z ]

    pub first_row : (place to : ℕ) (part : List Reference) → part ≡ references_at rows place → ((e : ℕ) → e < 2 * place → HasNo bad rows e) → IsFirstIn bad part to → IsFirst bad rows (place * 2 + 1) to
    first_row place to part p h f =
        let q : place * 2 + 1 ≡ 2 * place + 1 = omega arith in
        record {
          earlier = λ k l. elim (cases_lt k (2 * place)) [ inl a ↦ h k a | inr g ↦ none_between place k (omega arith) ];
          front = f.front;
          named = f.named;
          rest = f.rest;
          stands = ap (λ n. references_of (row_at rows n)) q ∙ sym p ∙ f.stands;
          before = f.before;
          holds = f.holds;
          names = f.names;
        }

    pub rows_more : (place : ℕ) (part : List Reference) → part ≡ references_at rows place → ((e : ℕ) → e < 2 * place → HasNo bad rows e) → HoldsOfNone bad part → (e : ℕ) → e < 2 * (place + 1) → HasNo bad rows e
    rows_more place part p h n e l = elim (cases_lt e (2 * place)) [
      | inl a ↦ h e a
      | inr g ↦ elim (cases_lt e (2 * place + 1)) [
        | inl b ↦ none_between place e (omega arith)
        | inr c ↦ (let q : e ≡ 2 * place + 1 = omega arith in subst (λ x. HasNo bad rows x) (sym q) (subst (HoldsOfNone bad) p n))
      ]
    ]

    pub rows_all : (n : ℕ) → length rows ≤ n → ((e : ℕ) → e < 2 * n → HasNo bad rows e) → (e : ℕ) → HasNo bad rows e
    rows_all n l h e = elim (is_number rows e) [ inl k ↦ h e (let a = k.0 in let b = k.1 in omega arith) | inr z ↦ none_of_null e z ]

pub where_none : {X : Type 0} (r : Option X) (P : Type 0) (Q : X → Type 0) → ((x : X) → r ≡ Some x → ⊥) → MatchOption r P Q → P
where_none {X = X} None P Q n m = m
where_none {X = X} (Some x) P Q n m = absurd (n x refl)
