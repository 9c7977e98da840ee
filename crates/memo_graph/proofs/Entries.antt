-- What stands among the entries without a key, and at their front.
use Rattle.std.proofs.Common.{◌≡◌, ◌≢◌, ℕ, zero, suc, ◌+◌, ◌≤◌, true, false, cond}
use Rattle.std.proofs.Common.{List, [], ◌∷◌, length, take, None, Some}
use Rattle.std.proofs.Common.{refl, ap, sym, subst, ◌∙◌, arith}
use Rattle.solid_base.specs.declared.classes.Verdict.{Verdict}
use Rattle.memo_graph.specs.declared.key.Key.{Key}
use Rattle.memo_graph.specs.Memos.{Entry, same_key, verdict_of, without, EachOnce}
use Rattle.memo_graph.proofs.Keys.{same_key_exact, different_keys}

-- where a key isn't held, nothing goes with it
pub without-none : (k : Key) (es : List Entry) → verdict_of k es ≡ None → without k es ≡ es
without-none k [] h = refl
without-none k (e ∷ es) h = (elim (same_key k e.0)
    as (λ y. same_key k e.0 ≡ y → without k (e ∷ es) ≡ e ∷ es) [
      | true ↦ λ t. absurd (let h' = rw t at h in cc)
      | false ↦ λ t. rw t (ap (λ rest. e ∷ rest) (without-none k es (rw t at h)))
    ]) refl

-- afterwards the key isn't held
pub verdict-without : (k : Key) (es : List Entry) → verdict_of k (without k es) ≡ None
verdict-without k [] = refl
verdict-without k (e ∷ es) = (elim (same_key k e.0)
    as (λ y. same_key k e.0 ≡ y → verdict_of k (without k (e ∷ es)) ≡ None) [
      | true ↦ λ t. rw t (verdict-without k es)
      | false ↦ λ t. rw (t, t) (verdict-without k es)
    ]) refl

-- other keys keep their verdicts
pub verdict-without_other : (k q : Key) (es : List Entry) → k ≢ q
    → verdict_of q (without k es) ≡ verdict_of q es
verdict-without_other k q [] n = refl
verdict-without_other k q (e ∷ es) n = (elim (same_key k e.0)
    as (λ y. same_key k e.0 ≡ y → verdict_of q (without k (e ∷ es)) ≡ verdict_of q (e ∷ es)) [
      | true ↦ λ t.
          let is : k ≡ e.0 = (same_key_exact k e.0).0 t in
          let other : same_key q e.0 ≡ false = different_keys q e.0 (λ s. n (is ∙ sym s)) in
          rw (t, other) (verdict-without_other k q es n)
      | false ↦ λ t. rw t
          (ap (cond (same_key q e.0) (Some e.1)) (verdict-without_other k q es n))
    ]) refl

-- a key that isn't held isn't held in a part
pub none-without : (k q : Key) (es : List Entry) → verdict_of q es ≡ None
    → verdict_of q (without k es) ≡ None
none-without k q [] h = refl
none-without k q (e ∷ es) h = (elim (same_key q e.0)
    as (λ y. same_key q e.0 ≡ y → verdict_of q (without k (e ∷ es)) ≡ None) [
      | true ↦ λ s. absurd (let h' = rw s at h in cc)
      | false ↦ λ s. (elim (same_key k e.0)
          as (λ y. same_key k e.0 ≡ y → verdict_of q (without k (e ∷ es)) ≡ None) [
            | true ↦ λ t. rw t (none-without k q es (rw s at h))
            | false ↦ λ t. rw (t, s) (none-without k q es (rw s at h))
          ]) refl
    ]) refl

pub none-take : (n : ℕ) (q : Key) (es : List Entry) → verdict_of q es ≡ None
    → verdict_of q (take n es) ≡ None
none-take zero q es h = refl
none-take (suc n) q [] h = refl
none-take (suc n) q (e ∷ es) h = (elim (same_key q e.0)
    as (λ y. same_key q e.0 ≡ y → verdict_of q (take (suc n) (e ∷ es)) ≡ None) [
      | true ↦ λ s. absurd (let h' = rw s at h in cc)
      | false ↦ λ s. rw s (none-take n q es (rw s at h))
    ]) refl

-- no key stands twice in a part
pub once-without : (k : Key) (es : List Entry) → EachOnce es → EachOnce (without k es)
once-without k [] o = o
once-without k (e ∷ es) o = (elim (same_key k e.0)
    as (λ y. same_key k e.0 ≡ y → EachOnce (without k (e ∷ es))) [
      | true ↦ λ t. rw t (once-without k es o.1)
      | false ↦ λ t. rw t (none-without k e.0 es o.0, once-without k es o.1)
    ]) refl

pub once-take : (n : ℕ) (es : List Entry) → EachOnce es → EachOnce (take n es)
once-take zero es o = tt
once-take (suc n) [] o = o
once-take (suc n) (e ∷ es) o = (none-take n e.0 es o.0, once-take n es o.1)

pub length-without : (k : Key) (es : List Entry) → length (without k es) ≤ length es
length-without k [] = omega arith
length-without k (e ∷ es) = (elim (same_key k e.0)
    as (λ y. same_key k e.0 ≡ y → length (without k (e ∷ es)) ≤ length (e ∷ es)) [
      | true ↦ λ t. rw t (omega (arith, length-without k es))
      | false ↦ λ t. rw t (omega (arith, length-without k es))
    ]) refl

-- a key that is held stands once: without it there is one entry fewer
pub length-without_held : (k : Key) (es : List Entry) (v : Verdict) → EachOnce es
    → verdict_of k es ≡ Some v → length (without k es) + 1 ≡ length es
length-without_held k [] v o h = absurd cc
length-without_held k (e ∷ es) v o h = (elim (same_key k e.0)
    as (λ y. same_key k e.0 ≡ y → length (without k (e ∷ es)) + 1 ≡ length (e ∷ es)) [
      | true ↦ λ t.
          let is : k ≡ e.0 = (same_key_exact k e.0).0 t in
          let none : verdict_of k es ≡ None = subst (λ q. verdict_of q es ≡ None) (sym is) o.0 in
          rw (t, without-none k es none) (omega arith)
      | false ↦ λ t.
          let rest = length-without_held k es v o.1 (rw t at h) in
          rw t (omega (arith, rest))
    ]) refl
