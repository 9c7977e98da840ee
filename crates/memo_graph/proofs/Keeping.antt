-- What a look-up and a fill keep.
use Rattle.std.proofs.Common.{◌≡◌, ◌≢◌, ℕ, zero, suc, ◌+◌, ◌<◌, ◌≤◌, true, false}
use Rattle.std.proofs.Common.{List, [], ◌∷◌, ◌++◌, length, take, Option, None, Some, IsSome}
use Rattle.std.proofs.Common.{refl, ap, sym, subst, ◌∙◌, arith}
use Rattle.std.proofs.Common.{Contains, ◌⊎◌, inl, inr}
use Rattle.std.specs.List.{AllByRecursion}
use Rattle.std.proofs.lemmas.List.Elements.{All-contains, All-contains_itself, All-weaker}
use Rattle.std.proofs.lemmas.List.Elements.{All-from_recursion, recursion_from_All}
use Rattle.std.proofs.lemmas.List.{take_all, length-take, take_at}
use Rattle.solid_base.specs.declared.classes.Verdict.{Verdict}
use Rattle.memo_graph.specs.declared.key.Key.{Key}
use Rattle.memo_graph.specs.Memos.{Entry, IsMemo, EachOnce, same_key, verdict_of}
use Rattle.memo_graph.specs.Memos.{without, in_front, promoted, filled}
use Rattle.memo_graph.proofs.Keys.{same_key_exact, same_key_self, different_keys}
use Rattle.memo_graph.proofs.Entries.{without-none, verdict-without, verdict-without_other}
use Rattle.memo_graph.proofs.Entries.{once-without, once-take}
use Rattle.memo_graph.proofs.Entries.{length-without, length-without_held}

-- ---- a look-up
verdicts_by : (k q : Key) (es : List Entry) (o : Option Verdict) → verdict_of k es ≡ o
    → verdict_of q (in_front k o es) ≡ verdict_of q es
verdicts_by k q es None h = refl
verdicts_by k q es (Some v) h = (elim (same_key q k)
    as (λ y. same_key q k ≡ y → verdict_of q (in_front k (Some v) es) ≡ verdict_of q es) [
      | true ↦ λ t.
          let is : q ≡ k = (same_key_exact q k).0 t in
          rw t (sym h ∙ ap (λ j. verdict_of j es) (sym is))
      | false ↦ λ t. rw t (verdict-without_other k q es (λ is. absurd (
          let self : same_key q k ≡ true = (same_key_exact q k).1 (sym is) in cc)))
    ]) refl

pub verdicts-promoted : (k q : Key) (es : List Entry)
    → verdict_of q (promoted k es) ≡ verdict_of q es
unfolding promoted
verdicts-promoted k q es = verdicts_by k q es (verdict_of k es) refl

length_by : (k : Key) (es : List Entry) (o : Option Verdict) → EachOnce es → verdict_of k es ≡ o
    → length (in_front k o es) ≡ length es
length_by k es None o h = refl
length_by k es (Some v) o h = omega (arith, length-without_held k es v o h)

pub length-promoted : (k : Key) (es : List Entry) → EachOnce es
    → length (promoted k es) ≡ length es
unfolding promoted
length-promoted k es o = length_by k es (verdict_of k es) o refl

once_by : (k : Key) (es : List Entry) (o : Option Verdict) → EachOnce es
    → EachOnce (in_front k o es)
once_by k es None o = o
once_by k es (Some v) o = (verdict-without k es, once-without k es o)

pub memo-promoted : (k : Key) (es : List Entry) (most : ℕ)
    → IsMemo (record { entries = es; capacity = most })
    → IsMemo (record { entries = promoted k es; capacity = most })
unfolding promoted
memo-promoted k es most m = record {
  some = m.some;
  within = subst (λ n. n ≤ most) (sym (length_by k es (verdict_of k es) m.once refl)) m.within;
  once = once_by k es (verdict_of k es) m.once;
}

all-without : (P : Entry → Type 0) (k : Key) (es : List Entry) → AllByRecursion P es
    → AllByRecursion P (without k es)
all-without P k [] a = a
all-without P k (e ∷ es) a = (elim (same_key k e.0)
    as (λ y. same_key k e.0 ≡ y → AllByRecursion P (without k (e ∷ es))) [
      | true ↦ λ t. rw t (all-without P k es a.1)
      | false ↦ λ t. rw t (a.0, all-without P k es a.1)
    ]) refl

-- what holds of all entries holds of the one that is found
all-verdict : (P : Entry → Type 0) (k : Key) (es : List Entry) (v : Verdict)
    → AllByRecursion P es → verdict_of k es ≡ Some v → P (k, v)
all-verdict P k [] v a h = absurd cc
all-verdict P k (e ∷ es) v a h = (elim (same_key k e.0)
    as (λ y. same_key k e.0 ≡ y → P (k, v)) [
      | true ↦ λ t.
          let is : k ≡ e.0 = (same_key_exact k e.0).0 t in
          let h' = rw t at h in
          let value : e.1 ≡ v = cc in
          let whole : e ≡ (k, v) = λ i. (sym is i, value i) in
          subst P whole a.0
      | false ↦ λ t. all-verdict P k es v a.1 (rw t at h)
    ]) refl

all_by : (P : Entry → Type 0) (k : Key) (es : List Entry) (o : Option Verdict)
    → AllByRecursion P es → verdict_of k es ≡ o → AllByRecursion P (in_front k o es)
all_by P k es None a h = a
all_by P k es (Some v) a h = (all-verdict P k es v a h, all-without P k es a)

pub all-promoted : (P : Entry → Type 0) (k : Key) (es : List Entry) → AllByRecursion P es
    → AllByRecursion P (promoted k es)
unfolding promoted
all-promoted P k es a = all_by P k es (verdict_of k es) a refl

-- ---- a fill
all-take : (P : Entry → Type 0) (n : ℕ) (es : List Entry) → AllByRecursion P es
    → AllByRecursion P (take n es)
all-take P zero es a = tt
all-take P (suc n) [] a = a
all-take P (suc n) (e ∷ es) a = (a.0, all-take P n es a.1)

pub all-filled : (P : Entry → Type 0) (most : ℕ) (k : Key) (v : Verdict) (es : List Entry)
    → P (k, v) → AllByRecursion P es → AllByRecursion P (filled most k v es)
unfolding filled
all-filled P most k v es p a = all-take P most ((k, v) ∷ without k es) (p, all-without P k es a)

pub memo-filled : (k : Key) (v : Verdict) (es : List Entry) (most : ℕ)
    → IsMemo (record { entries = es; capacity = most })
    → IsMemo (record { entries = filled most k v es; capacity = most })
unfolding filled
memo-filled k v es most m = record {
  some = m.some;
  within = grind (arith, length-take most ((k, v) ∷ without k es));
  once = once-take most ((k, v) ∷ without k es) (verdict-without k es, once-without k es m.once);
}

pub verdict-filled : (most : ℕ) (k : Key) (v : Verdict) (es : List Entry) → 0 < most
    → verdict_of k (filled most k v es) ≡ Some v
unfolding filled
verdict-filled zero k v es l = absurd (omega arith)
verdict-filled (suc most) k v es l = rw (same_key_self k) refl

some-take : (n : ℕ) (q : Key) (es : List Entry) (v : Verdict)
    → verdict_of q (take n es) ≡ Some v → verdict_of q es ≡ Some v
some-take zero q es v h = absurd cc
some-take (suc n) q [] v h = absurd cc
some-take (suc n) q (e ∷ es) v h = (elim (same_key q e.0)
    as (λ y. same_key q e.0 ≡ y → verdict_of q (e ∷ es) ≡ Some v) [
      | true ↦ λ s. rw s (rw s at h)
      | false ↦ λ s. rw s (some-take n q es v (rw s at h))
    ]) refl

-- after the entry of another key a key is held as without that entry
other-in_front : (k q : Key) (v : Verdict) (es : List Entry) → k ≢ q
    → verdict_of q ((k, v) ∷ without k es) ≡ verdict_of q es
other-in_front k q v es n =
    let other : same_key q k ≡ false = different_keys q k (λ s. n (sym s)) in
    rw other (verdict-without_other k q es n)

pub no-other-filled : (most : ℕ) (k q : Key) (v w : Verdict) (es : List Entry) → k ≢ q
    → verdict_of q (filled most k v es) ≡ Some w → verdict_of q es ≡ Some w
unfolding filled
no-other-filled most k q v w es n h =
    sym (other-in_front k q v es n) ∙ some-take most q ((k, v) ∷ without k es) w h

-- where all fit, none is dropped
pub fits-filled : (most : ℕ) (k : Key) (v : Verdict) (es : List Entry)
    → length (without k es) < most → filled most k v es ≡ (k, v) ∷ without k es
unfolding filled
fits-filled most k v es l = take_all most ((k, v) ∷ without k es) (omega (arith, l))

pub room-filled : (most : ℕ) (k q : Key) (v : Verdict) (es : List Entry) → k ≢ q
    → length es < most → verdict_of q (filled most k v es) ≡ verdict_of q es
room-filled most k q v es n l =
    let less : length (without k es) < most = omega (arith, length-without k es) in
    ap (verdict_of q) (fits-filled most k v es less) ∙ other-in_front k q v es n

pub held_by : (most : ℕ) (k : Key) (es : List Entry) (o : Option Verdict) → verdict_of k es ≡ o
    → EachOnce es → length es ≤ most → IsSome o → length (without k es) < most
held_by most k es None h o l i = absurd cc
held_by most k es (Some w) h o l i = omega (arith, length-without_held k es w o h)

pub held-filled : (most : ℕ) (k q : Key) (v : Verdict) (es : List Entry) → EachOnce es
    → length es ≤ most → IsSome (verdict_of k es) → k ≢ q
    → verdict_of q (filled most k v es) ≡ verdict_of q es
held-filled most k q v es o l i n =
    let less = held_by most k es (verdict_of k es) refl o l i in
    ap (verdict_of q) (fits-filled most k v es less) ∙ other-in_front k q v es n

pub full-filled : (most : ℕ) (k : Key) (v : Verdict) (front : List Entry) (last : Entry)
    → length front + 1 ≡ most → verdict_of k (front ++ last ∷ []) ≡ None
    → filled most k v (front ++ last ∷ []) ≡ (k, v) ∷ front
unfolding filled
full-filled most k v front last l h =
    ap (λ es. take most ((k, v) ∷ es)) (without-none k (front ++ last ∷ []) h)
    ∙ take_at ((k, v) ∷ front) (last ∷ []) most (omega (arith, l))

-- ---- single entries
pub none_new : (k : Key) (es : List Entry) (e : Entry) → Contains (promoted k es) e
    → Contains es e
none_new k es e = All-contains (Contains es) (promoted k es) e (All-from_recursion _ _
    (all-promoted (Contains es) k es (recursion_from_All _ _ (All-contains_itself es))))

-- the entry that a fill brings, or one of before
abbrev pub IsNewOrOld : Entry → List Entry → Entry → Type 0
IsNewOrOld new es e = (e ≡ new) ⊎ Contains es e

pub one_new : (most : ℕ) (k : Key) (v : Verdict) (es : List Entry) (e : Entry)
    → Contains (filled most k v es) e → IsNewOrOld (k, v) es e
one_new most k v es e =
    let olds = All-weaker (Contains es) (IsNewOrOld (k, v) es) (λ _ c. inr c) es
    (All-contains_itself es) in
    All-contains (IsNewOrOld (k, v) es) (filled most k v es) e (All-from_recursion _ _
    (all-filled (IsNewOrOld (k, v) es) most k v es (inl refl) (recursion_from_All _ _ olds)))
