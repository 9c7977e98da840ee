-- Marks on rows: what is marked after more is marked, and the numbers of what is marked.
use Rattle.std.proofs.Common.{◌≡◌, ◌⊎◌, ◌↔◌, inl, inr, ℕ, zero, suc, ◌+◌, ◌*◌, ◌/◌, ◌%◌, ◌<◌, Bool, true, false, IsTrue, List, [], ◌∷◌, get_or, set, length, refl, sym, ap, ◌∙◌, subst, arith, get_or-set_other, get_or-set_same, length-set}
use Rattle.std.specs.Prelude.{replicate, ◌==◌, ◌&&◌, ◌||◌, ◌≢◌, if◌then◌else◌}
use Rattle.std.specs.List.{Contains, AllByRecursion, list_any}
use Rattle.std.proofs.lemmas.Bool.{cases_lt, cases_eq, eq-eqb}
use Rattle.std.proofs.lemmas.Bool.Decides.{eqb_tells}
use Rattle.std.proofs.Math.ListN.{get_or-eq_default}
use Rattle.solid_base.specs.References.{HasNumber}
use Rattle.entity_graph.specs.Reached.{IsAscending}
use Rattle.entity_graph.specs.Marks.{has_mark, IsMarked, with_mark, with_marks, numbers_marked}
use Rattle.entity_graph.proofs.Sums.{at_head, at_tail}

pub never : (b : Bool) → b ≡ true → b ≡ false → ⊥
never b t f = absurd cc

both : (a b : Bool) → a && b ≡ true → (a ≡ true) × (b ≡ true)
both true b h = (refl, h)
both false b h = absurd cc

-- the entry of a place
abbrev at : List Bool → ℕ → Bool
at marks i = get_or marks i false

-- only a row is marked, and only at its place
pub marked_at : (marks : List Bool) (k : ℕ) → IsMarked marks k → HasNumber marks k × IsTrue (at marks (k / 2))
unfolding has_mark
marked_at marks k m =
    let b = both (k % 2 == 1) (at marks (k / 2)) m in (
      (
        odd (eqb_tells (k % 2) 1) b.0,
        elim (cases_lt (k / 2) (length marks)) [
          | inl l ↦ l
          | inr g ↦ absurd (never (at marks (k / 2)) b.1 (get_or-eq_default marks false g))
        ],
      ),
      b.1,
    ) where
      odd : (((k % 2 == 1) ≡ true) × (k % 2 ≡ 1)) ⊎ (((k % 2 == 1) ≡ false) × (k % 2 ≢ 1)) → (k % 2 == 1) ≡ true → k % 2 ≡ 1
      odd (inl t) h = t.1
      odd (inr f) h = absurd (never (k % 2 == 1) h f.0)

pub at_marked : (marks : List Bool) (k : ℕ) → k % 2 ≡ 1 → IsTrue (at marks (k / 2)) → IsMarked marks k
unfolding has_mark
at_marked marks k o t = rw (eq-eqb (k % 2) 1 o) t

pub with_length : (marks : List Bool) (n : ℕ) → length (with_mark marks n) ≡ length marks
unfolding with_mark
with_length marks n = either (n % 2 == 1) where
  either : (b : Bool) → length (if b then set marks (n / 2) true else marks) ≡ length marks
  either true = length-set marks (n / 2) true
  either false = refl

pub all_length : (ns : List ℕ) (marks : List Bool) → length (with_marks marks ns) ≡ length marks
all_length [] marks = refl
all_length (n ∷ ns) marks = all_length ns (with_mark marks n) ∙ with_length marks n

odd_with : (marks : List Bool) (n : ℕ) → n % 2 ≡ 1 → with_mark marks n ≡ set marks (n / 2) true
unfolding with_mark
odd_with marks n o = rw (eq-eqb (n % 2) 1 o) refl

even_with : (marks : List Bool) (n : ℕ) → (n % 2 == 1) ≡ false → with_mark marks n ≡ marks
unfolding with_mark
even_with marks n f = rw f refl

-- a mark stays
pub mark_stays : (marks : List Bool) (n k : ℕ) → IsMarked marks k → IsMarked (with_mark marks n) k
mark_stays marks n k m = elim (eqb_tells (n % 2) 1) [
  | inr f ↦ subst (λ (l : List Bool). IsMarked l k) (sym (even_with marks n f.0)) m
  | inl t ↦ subst (λ (l : List Bool). IsMarked l k) (sym (odd_with marks n t.1)) (
      let a = marked_at marks k m in
      at_marked (set marks (n / 2) true) k a.0.0 (elim (cases_eq (k / 2) (n / 2)) [
        | inl q ↦ subst (λ i. IsTrue (at (set marks (n / 2) true) i)) (sym q) (get_or-set_same marks (n / 2) true false (let l = a.0.1 in omega arith))
        | inr d ↦ get_or-set_other marks (n / 2) (k / 2) true false d ∙ a.1
      ]))
]

-- a row that is marked now is marked
pub mark_has : (marks : List Bool) (n : ℕ) → HasNumber marks n → IsMarked (with_mark marks n) n
mark_has marks n h =
    subst (λ (l : List Bool). IsMarked l n) (sym (odd_with marks n h.0)) (at_marked (set marks (n / 2) true) n h.0 (get_or-set_same marks (n / 2) true false h.1))

-- and no other is
pub mark_only : (marks : List Bool) (n k : ℕ) → IsMarked (with_mark marks n) k → IsMarked marks k ⊎ ((k ≡ n) × HasNumber marks n)
mark_only marks n k m = elim (eqb_tells (n % 2) 1) [
  | inr f ↦ inl (subst (λ (l : List Bool). IsMarked l k) (even_with marks n f.0) m)
  | inl t ↦ by_place t.1 (subst (λ (l : List Bool). IsMarked l k) (odd_with marks n t.1) m)
] where
  by_place : n % 2 ≡ 1 → IsMarked (set marks (n / 2) true) k → IsMarked marks k ⊎ ((k ≡ n) × HasNumber marks n)
  by_place o w =
      let a = marked_at (set marks (n / 2) true) k w in
      let s = length-set marks (n / 2) true in
      let odd = a.0.0 in
      let low = a.0.1 in
      elim (cases_eq (k / 2) (n / 2)) [
        | inl q ↦ inr (omega arith, (o, omega arith))
        | inr d ↦ inl (at_marked marks k a.0.0 (sym (get_or-set_other marks (n / 2) (k / 2) true false d) ∙ a.1))
      ]

-- ---- marks on some rows

pub marks_stay : (ns : List ℕ) (marks : List Bool) (k : ℕ) → IsMarked marks k → IsMarked (with_marks marks ns) k
marks_stay [] marks k m = m
marks_stay (n ∷ ns) marks k m = marks_stay ns (with_mark marks n) k (mark_stays marks n k m)

pub marks_have : (ns : List ℕ) (marks : List Bool) (k : ℕ) → HasNumber marks k → Contains ns k → IsMarked (with_marks marks ns) k
marks_have [] marks k h c = absurd (let l = c.1 in omega arith)
marks_have (n ∷ ns) marks k h (zero, l, e) = marks_stay ns (with_mark marks n) k (subst (λ x. IsMarked (with_mark marks x) k) (sym e) (mark_has marks k h))
marks_have (n ∷ ns) marks k h (suc i, l, e) =
    marks_have ns (with_mark marks n) k (h.0, (let a = h.1 in let b = with_length marks n in omega arith)) (i, omega arith, e)

pub marks_only : (ns : List ℕ) (marks : List Bool) (k : ℕ) → IsMarked (with_marks marks ns) k → IsMarked marks k ⊎ Contains ns k
marks_only [] marks k m = inl m
marks_only (n ∷ ns) marks k m = from (marks_only ns (with_mark marks n) k m) where
  first : IsMarked marks k ⊎ ((k ≡ n) × HasNumber marks n) → IsMarked marks k ⊎ Contains (n ∷ ns) k
  first (inl a) = inl a
  first (inr b) = inr (subst (Contains (n ∷ ns)) (sym b.0) (at_head n ns))

  from : IsMarked (with_mark marks n) k ⊎ Contains ns k → IsMarked marks k ⊎ Contains (n ∷ ns) k
  from (inl a) = first (mark_only marks n k a)
  from (inr c) = inr (at_tail n k ns c)

-- at first nothing is marked
pub none_marked : (n k : ℕ) → ¬ IsMarked (replicate n false) k
none_marked n k m = never (at (replicate n false) (k / 2)) (marked_at (replicate n false) k m).1 (blank n (k / 2)) where
  blank : (n i : ℕ) → at (replicate n false) i ≡ false
  blank zero i = refl
  blank (suc n) zero = refl
  blank (suc n) (suc i) = blank n i

-- ---- a marked one of some rows

pub any_marked : (marks : List Bool) (ns : List ℕ) → IsTrue (list_any (has_mark marks) ns) → (c : ℕ) × Contains ns c × IsMarked marks c
any_marked marks [] t = absurd cc
any_marked marks (n ∷ ns) t = by (has_mark marks n) refl t (any_marked marks ns) where
  by : (b : Bool) → has_mark marks n ≡ b → IsTrue (b || list_any (has_mark marks) ns) → (IsTrue (list_any (has_mark marks) ns) → (c : ℕ) × Contains ns c × IsMarked marks c) → (c : ℕ) × Contains (n ∷ ns) c × IsMarked marks c
  by true q t later = (n, at_head n ns, q)
  by false q t later = let r = later t in (r.0, at_tail n r.0 ns r.1, r.2)

pub marked_any : (marks : List Bool) (ns : List ℕ) (c : ℕ) → Contains ns c → IsMarked marks c → IsTrue (list_any (has_mark marks) ns)
marked_any marks [] c h m = absurd (let l = h.1 in omega arith)
marked_any marks (n ∷ ns) c (zero, l, e) m = rw (ap (has_mark marks) e ∙ m) refl
marked_any marks (n ∷ ns) c (suc i, l, e) m = later (has_mark marks n) (marked_any marks ns c (i, omega arith, e) m) where
  later : (b : Bool) → IsTrue (list_any (has_mark marks) ns) → IsTrue (b || list_any (has_mark marks) ns)
  later true t = refl
  later false t = t

-- ---- the numbers of the marked rows

numbers_have : (place : ℕ) (marks : List Bool) (i : ℕ) → IsTrue (at marks i) → Contains (numbers_marked place marks) (2 * (place + i) + 1)
numbers_have place [] i t = absurd cc
numbers_have place (true ∷ marks) zero t = subst (Contains (numbers_marked place (true ∷ marks))) (omega arith) (at_head (2 * place + 1) (numbers_marked (suc place) marks))
numbers_have place (false ∷ marks) zero t = absurd cc
numbers_have place (true ∷ marks) (suc i) t =
    subst (Contains (numbers_marked place (true ∷ marks))) (omega arith) (at_tail (2 * place + 1) (2 * (suc place + i) + 1) (numbers_marked (suc place) marks) (numbers_have (suc place) marks i t))
numbers_have place (false ∷ marks) (suc i) t = subst (Contains (numbers_marked (suc place) marks)) (omega arith) (numbers_have (suc place) marks i t)

numbers_only : (place : ℕ) (marks : List Bool) (k : ℕ) → Contains (numbers_marked place marks) k → (i : ℕ) × (k ≡ 2 * (place + i) + 1) × IsTrue (at marks i)
numbers_only place [] k c = absurd (let l = c.1 in omega arith)
numbers_only place (true ∷ marks) k (zero, l, e) = (0, omega arith, refl)
numbers_only place (true ∷ marks) k (suc j, l, e) = let r = numbers_only (suc place) marks k (j, omega arith, e) in let q = r.1 in (suc r.0, omega arith, r.2)
numbers_only place (false ∷ marks) k c = let r = numbers_only (suc place) marks k c in let q = r.1 in (suc r.0, omega arith, r.2)

numbers_above : (low place : ℕ) (marks : List Bool) → low < 2 * place + 1 → AllByRecursion (λ m. low < m) (numbers_marked place marks)
numbers_above low place [] h = tt
numbers_above low place (true ∷ marks) h = (h, numbers_above low (suc place) marks (omega arith))
numbers_above low place (false ∷ marks) h = numbers_above low (suc place) marks (omega arith)

pub numbers_ascend : (place : ℕ) (marks : List Bool) → IsAscending (numbers_marked place marks)
numbers_ascend place [] = tt
numbers_ascend place (true ∷ marks) = (numbers_above (2 * place + 1) (suc place) marks (omega arith), numbers_ascend (suc place) marks)
numbers_ascend place (false ∷ marks) = numbers_ascend (suc place) marks

-- they are the numbers of all that is marked, and of nothing else
pub numbers_are : (marks : List Bool) (k : ℕ) → Contains (numbers_marked 0 marks) k ↔ IsMarked marks k
numbers_are marks k = (
  λ c. let r = numbers_only 0 marks k c in
      let q = r.1 in
      let half : k / 2 ≡ r.0 = omega arith in
      at_marked marks k (omega arith) (subst (λ i. IsTrue (at marks i)) (sym half) r.2),
  λ m. let a = marked_at marks k m in
      let o = a.0.0 in
      let is : 2 * (0 + k / 2) + 1 ≡ k = omega arith in
      subst (Contains (numbers_marked 0 marks)) is (numbers_have 0 marks (k / 2) a.1),
)
