-- What `promote` and `put` of `lru` make of a memo's entries.
use Rattle.std.proofs.Common.{◌≡◌, ℕ, zero, suc, ◌-◌, true, false}
use Rattle.std.proofs.Common.{List, [], ◌∷◌, Option, None, Some}
use Rattle.std.proofs.Common.{refl, ap, sym, subst, arith}
use Rattle.std.proofs.Common.{Result, Ok, Err, OnOk, OnErr}
use Rattle.std.specs.Map.{lookup_entry, remove_entry}
use Rattle.std.proofs.lemmas.List.{take_all}
use Rattle.lru.specs.LruCache as lru
use Rattle.lru.specs.LruCache.{lru_cache, put_entries}
use Rattle.solid_base.specs.declared.classes.Verdict.{Verdict}
use Rattle.memo_graph.specs.declared.key.Key.{Key}
use Rattle.memo_graph.specs.Memos.{Entry, memo_facts, IsMemo, EachOnce, same_key, verdict_of}
use Rattle.memo_graph.specs.Memos.{without, in_front, promoted, filled}
use Rattle.memo_graph.proofs.Keys.{same_key_exact}
use Rattle.memo_graph.proofs.Entries.{without-none}
use Rattle.memo_graph.proofs.Keeping.{held_by}

module _ (k : Key) where
  entry_none : (es : List Entry) → verdict_of k es ≡ None → lookup_entry (same_key k) es ≡ None
  entry_none [] h = refl
  entry_none (e ∷ es) h = (elim (same_key k e.0)
      as (λ y. same_key k e.0 ≡ y → lookup_entry (same_key k) (e ∷ es) ≡ None) [
        | true ↦ λ t. absurd (let h' = rw t at h in cc)
        | false ↦ λ t. rw t (entry_none es (rw t at h))
      ]) refl

  entry_some : (es : List Entry) (v : Verdict) → verdict_of k es ≡ Some v
      → lookup_entry (same_key k) es ≡ Some (k, v)
  entry_some [] v h = absurd cc
  entry_some (e ∷ es) v h = (elim (same_key k e.0)
      as (λ y. same_key k e.0 ≡ y → lookup_entry (same_key k) (e ∷ es) ≡ Some (k, v)) [
        | true ↦ λ t.
            let is : k ≡ e.0 = (same_key_exact k e.0).0 t in
            let h' = rw t at h in
            let value : e.1 ≡ v = cc in
            rw t (λ i. Some (sym is i, value i))
        | false ↦ λ t. rw t (entry_some es v (rw t at h))
      ]) refl

  remove_once : (es : List Entry) → EachOnce es → remove_entry (same_key k) es ≡ without k es
  remove_once [] o = refl
  remove_once (e ∷ es) o = (elim (same_key k e.0)
      as (λ y. same_key k e.0 ≡ y → remove_entry (same_key k) (e ∷ es) ≡ without k (e ∷ es)) [
        | true ↦ λ t.
            let is : k ≡ e.0 = (same_key_exact k e.0).0 t in
            let none : verdict_of k es ≡ None = subst (λ q. verdict_of q es ≡ None) (sym is) o.0 in
            rw (t, without-none k es none) refl
        | false ↦ λ t. rw t (ap (λ rest. e ∷ rest) (remove_once es o.1))
      ]) refl

  promoted_by : (es : List Entry) (o : Option Verdict) → EachOnce es → verdict_of k es ≡ o
      → lru.promoted (same_key k) es ≡ in_front k o es
  promoted_by es None o h = rw (entry_none es h) refl
  promoted_by es (Some v) o h = rw (entry_some es v h) (rw (remove_once es o) refl)

  pub after_promote : (es : List Entry) → EachOnce es
      → lru.promoted (same_key k) es ≡ promoted k es
  unfolding promoted
  after_promote es o = promoted_by es (verdict_of k es) o refl

  filled_by : (most : ℕ) (v : Verdict) (es : List Entry) (o : Option Verdict)
      → IsMemo (memo_facts es most) → verdict_of k es ≡ o
      → put_entries same_key (lru_cache es most) k v ≡ filled most k v es
  unfolding filled
  filled_by zero v es o m h = absurd (let l = m.some in omega (arith, l))
  filled_by (suc most) v es None m h =
      let one : suc most - 1 ≡ most = omega arith in
      rw (entry_none es h, one, without-none k es h) refl
  filled_by (suc most) v es (Some w) m h =
      let less = held_by (suc most) k es (verdict_of k es) refl m.once m.within (rw h refl) in
      rw (entry_some es w h, remove_once es m.once)
      (sym (take_all (suc most) ((k, v) ∷ without k es) (omega (arith, less))))

  pub after_put : (most : ℕ) (v : Verdict) (es : List Entry) → IsMemo (memo_facts es most)
      → put_entries same_key (lru_cache es most) k v ≡ filled most k v es
  after_put most v es m = filled_by most v es (verdict_of k es) m refl

-- ---- what is known of a result that may be an error
pub on_ok : {A B : Type 0} {P Q : Type 0} (r : Result A B) → OnOk r P → (P → Q) → OnOk r Q
on_ok (Ok x) p f = f p
on_ok (Err x) p f = p

pub either : {A B : Type 0} {P Q R : Type 0} (r : Result A B) → OnOk r P → OnErr r Q
    → (P → R) → (Q → R) → R
either (Ok x) p q f g = f p
either (Err x) p q f g = g q
