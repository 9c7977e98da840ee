-- The first row that isn't read, from those of the rows that a row names.
use Rattle.std.proofs.Common.{◌≡◌, ℕ, zero, suc, ◌≤◌, ◌⊎◌, inl, inr, List, [], ◌∷◌, min, refl, sym, subst, arith}
use Rattle.std.specs.List.{Contains}
use Rattle.solid_base.specs.declared.entities.Entity.{Entity}
use Rattle.solid_base.specs.declared.solids.Row.{Row}
use Rattle.solid_base.specs.declared.solids.Row.TheVariants as row
use Rattle.solid_base.specs.References.{references, row_at, Refers, Reaches, here, further}
use Rattle.entity_graph.specs.Opaque.{IsUnread, IsOpaque, ReachesOpaque, IsFirstOpaque}
use Rattle.entity_graph.specs.Measures.{lesser, least, number_unread}
use Rattle.std.proofs.lemmas.Bool.{cases_lt}
use Rattle.entity_graph.proofs.Numbers.{is_number}
use Rattle.entity_graph.proofs.Sums.{at_head, at_tail}

-- the least number with a property, 0 where there is none
abbrev Leastly : (ℕ → Type 0) → ℕ → Type 0
Leastly P n = ((n ≡ 0) × ((k : ℕ) → ¬ P k)) ⊎ (P n × ((k : ℕ) → P k → n ≤ k))

lesser_is : (a b : ℕ) → ((a ≡ 0) × (lesser a b ≡ b)) ⊎ ((b ≡ 0) × (lesser a b ≡ a)) ⊎ (lesser a b ≡ min a b)
lesser_is zero b = inl (refl, refl)
lesser_is (suc a) zero = inr (inl (refl, refl))
lesser_is (suc a) (suc b) = inr (inr refl)

least_of_two : (P Q : ℕ → Type 0) → ¬ P 0 → ¬ Q 0 → (a b : ℕ) → Leastly P a → Leastly Q b → Leastly (λ k. P k ⊎ Q k) (lesser a b)
least_of_two P Q p q zero b (inl h) (inl k) = inl (k.0, λ n. λ (t : P n ⊎ Q n). elim t [ inl x ↦ h.1 n x | inr y ↦ k.1 n y ])
least_of_two P Q p q zero b (inl h) (inr k) = inr (inr k.0, λ n. λ (t : P n ⊎ Q n). elim t [ inl x ↦ absurd (h.1 n x) | inr y ↦ k.1 n y ])
least_of_two P Q p q zero b (inr h) k = absurd (p h.0)
least_of_two P Q p q (suc a) b (inl h) k = absurd (let e = h.0 in omega arith)
least_of_two P Q p q (suc a) zero (inr h) (inl k) = inr (inl h.0, λ n. λ (t : P n ⊎ Q n). elim t [ inl x ↦ h.1 n x | inr y ↦ absurd (k.1 n y) ])
least_of_two P Q p q (suc a) zero (inr h) (inr k) = absurd (q k.0)
least_of_two P Q p q (suc a) (suc b) (inr h) (inl k) = absurd (let e = k.0 in omega arith)
least_of_two P Q p q (suc a) (suc b) (inr h) (inr k) = least_met (suc a) (suc b) h k where
  least_met : (a b : ℕ) → P a × ((k : ℕ) → P k → a ≤ k) → Q b × ((k : ℕ) → Q k → b ≤ k) → Leastly (λ k. P k ⊎ Q k) (min a b)
  least_met a b h k = elim (order a b) [
    | inl l ↦ (
        let e : min a b ≡ a = omega arith in
        rw e (inr (inl h.0, λ n. λ (t : P n ⊎ Q n). elim t [ inl x ↦ h.1 n x | inr y ↦ (let z = k.1 n y in omega arith) ]))
        )
    | inr g ↦ (
        let e : min a b ≡ b = omega arith in
        rw e (inr (inr k.0, λ n. λ (t : P n ⊎ Q n). elim t [ inl x ↦ (let z = h.1 n x in omega arith) | inr y ↦ k.1 n y ]))
        )
  ] where
    order : (a b : ℕ) → (a ≤ b) ⊎ (b ≤ a)
    order a b = elim (cases_lt b a) [ inl l ↦ inr (omega arith) | inr g ↦ inl g ]

least_like : (P Q : ℕ → Type 0) (n : ℕ) → ((k : ℕ) → P k → Q k) → ((k : ℕ) → Q k → P k) → Leastly P n → Leastly Q n
least_like P Q n f g (inl h) = inl (h.0, λ k q. h.1 k (g k q))
least_like P Q n f g (inr h) = inr (f n h.0, λ k q. h.1 k (g k q))

module _ (rows : List Entity) where
  -- one of some rows reaches k, which isn't read
  abbrev Through : List ℕ → ℕ → Type 0
  Through ns k = (c : ℕ) × Contains ns c × ReachesOpaque rows c k

  null_row : row_at rows 0 ≡ row.Null
  null_row = elim (is_number rows 0) [ inl n ↦ absurd (let a = n.0 in omega arith) | inr z ↦ z ]

  not_null : ¬ IsOpaque rows 0
  not_null o = subst IsUnread null_row o

  not_zero : (c : ℕ) → ¬ ReachesOpaque rows c 0
  not_zero c h = not_null h.1

  least_right : (f : ℕ → ℕ) (ns : List ℕ) → ((c : ℕ) → Contains ns c → IsFirstOpaque rows c (f c)) → Leastly (Through ns) (least f ns)
  least_right f [] h = inl (refl, λ k t. let l = t.1.1 in omega arith)
  least_right f (x ∷ ns) h =
      least_like (λ k. ReachesOpaque rows x k ⊎ Through ns k) (Through (x ∷ ns)) (lesser (f x) (least f ns))
      (λ k. λ (t : ReachesOpaque rows x k ⊎ Through ns k). elim t [ inl a ↦ (x, at_head x ns, a) | inr b ↦ (b.0, at_tail x b.0 ns b.1, b.2) ])
      (λ k t. split k t.0 t.1 t.2)
      (least_of_two (ReachesOpaque rows x) (Through ns) (not_zero x) (λ t. not_zero t.0 t.2) (f x) (least f ns) (h x (at_head x ns)) (least_right f ns (λ c i. h c (at_tail x c ns i)))) where
        split : (k c : ℕ) → Contains (x ∷ ns) c → ReachesOpaque rows c k → ReachesOpaque rows x k ⊎ Through ns k
        split k c (zero, l, e) r = inl (subst (λ c. ReachesOpaque rows c k) (sym e) r)
        split k c (suc j, l, e) r = inr (c, (j, omega arith, e), r)

  -- the entity e itself, which isn't read
  abbrev Itself : ℕ → ℕ → Type 0
  Itself e k = (k ≡ e) × IsOpaque rows k

  itself_right : (e : ℕ) → Leastly (Itself e) (number_unread e (row_at rows e))
  itself_right e = by_row (row_at rows e) refl where
    read : (r : Row) → row_at rows e ≡ r → ¬ IsUnread r → Leastly (Itself e) 0
    read r q n = inl (refl, λ k t. n (subst IsUnread q (subst (IsOpaque rows) t.0 t.1)))

    by_row : (r : Row) → row_at rows e ≡ r → Leastly (Itself e) (number_unread e r)
    by_row row.Null q = read row.Null q (λ u. u)
    by_row (row.Opaque kind form matrix text) q = inr ((refl, subst IsUnread (sym q) tt), λ k t. let z = t.0 in omega arith)
    by_row (row.Matrix form affine next) q = read (row.Matrix form affine next) q (λ u. u)
    by_row (row.Prim p matrix) q = read (row.Prim p matrix) q (λ u. u)
    by_row (row.Tree items matrix) q = read (row.Tree items matrix) q (λ u. u)
    by_row (row.Assembly items matrix) q = read (row.Assembly items matrix) q (λ u. u)
    by_row (row.Instance child matrix) q = read (row.Instance child matrix) q (λ u. u)

  onward : (e k : ℕ) → ReachesOpaque rows e k → Itself e k ⊎ Through (references (row_at rows e)) k
  onward e k (here, o) = inl (refl, o)
  onward e k (further {c = c} m r, o) = inr (c, m, (r, o))

  back : (e k : ℕ) → Itself e k ⊎ Through (references (row_at rows e)) k → ReachesOpaque rows e k
  back e k (inl t) = (subst (Reaches rows e) (sym t.0) here, t.1)
  back e k (inr t) = (further t.1 t.2.0, t.2.1)

  -- the entry of an entity, from those of the entities that it names
  pub opaque_step : (f : ℕ → ℕ) (e : ℕ) → ((c : ℕ) → Refers rows e c → IsFirstOpaque rows c (f c))
      → IsFirstOpaque rows e (lesser (number_unread e (row_at rows e)) (least f (references (row_at rows e))))
  opaque_step f e h =
      least_like (λ k. Itself e k ⊎ Through (references (row_at rows e)) k) (ReachesOpaque rows e) (lesser (number_unread e (row_at rows e)) (least f (references (row_at rows e))))
      (back e) (onward e)
      (least_of_two (Itself e) (Through (references (row_at rows e))) (λ t. not_null t.1) (λ t. not_zero t.0 t.2) (number_unread e (row_at rows e)) (least f (references (row_at rows e)))
      (itself_right e) (least_right f (references (row_at rows e)) h))
