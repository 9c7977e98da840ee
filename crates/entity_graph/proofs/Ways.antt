-- What places reach, and that nothing in an order is on a cycle.
use Rattle.std.proofs.Common.{ℕ, zero, suc, ◌<◌, ◌≤◌, inl, inr, List, [], get_or, length, sym, subst, arith}
use Rattle.std.proofs.lemmas.Bool.{cases_lt}
use Rattle.std.proofs.Math.ListN.{get_or-eq_default}
use Rattle.entity_graph.specs.Order.{Names, Goes, stay, go, Before, IsOrder, Rings}

pub goes_then : (refs : List (List ℕ)) (a b c : ℕ) → Goes refs a b → Goes refs b c → Goes refs a c
goes_then refs a b c stay h = h
goes_then refs a b c (go {c = d} r w) h = go r (goes_then refs d b c w h)

pub before_later : (order : List ℕ) (i j e : ℕ) → i ≤ j → Before order i e → Before order j e
before_later order i j e h b = record { at = b.at; below = (let k = b.below in omega arith); is = b.is }

goes_before : (refs : List (List ℕ)) (order : List ℕ) → IsOrder refs order → (i e k : ℕ) → i ≤ length order → Before order i e → Goes refs e k → Before order i k
goes_before refs order o i e k h b stay = b
goes_before refs order o i e k h b (go {c = c} r w) =
    let l = b.below in
    goes_before refs order o i c k h (before_later order b.at i c (omega arith) (o b.at c (omega arith) (subst (λ x. Names refs x c) (sym b.is) r))) w

-- what stands in the order is on no cycle
no_cycle : (refs : List (List ℕ)) (order : List ℕ) → IsOrder refs order → (n p c : ℕ) → p < n → p < length order → Names refs (get_or order p 0) c → Goes refs c (get_or order p 0) → ⊥
no_cycle refs order o zero p c h l r w = absurd (omega arith)
no_cycle refs order o (suc n) p c h l r w =
    let b = goes_before refs order o p c (get_or order p 0) (omega arith) (o p c l r) w in
    let k = b.below in
    no_cycle refs order o n b.at c (omega arith) (omega arith) (subst (λ x. Names refs x c) (sym b.is) r) (subst (λ x. Goes refs c x) (sym b.is) w)

-- and reaches none
pub no_ring : (refs : List (List ℕ)) (order : List ℕ) → IsOrder refs order → (e : ℕ) → Before order (length order) e → Rings refs e → ⊥
no_ring refs order o e b r =
    let k = goes_before refs order o (length order) e r.on (omega arith) b r.reached in
    no_cycle refs order o (suc k.at) k.at r.next (omega arith) k.below (subst (λ x. Names refs x r.next) (sym k.is) r.names) (subst (λ x. Goes refs r.next x) (sym k.is) r.back)

-- only a row names anything
pub names_in : (refs : List (List ℕ)) (e c : ℕ) → Names refs e c → e < length refs
names_in refs e c n = elim (cases_lt e (length refs)) [
  | inl l ↦ l
  | inr g ↦ absurd (let w = subst (λ (l : List ℕ). n.at < length l) (get_or-eq_default refs [] g) n.within in omega arith)
]

pub ring_in : (refs : List (List ℕ)) (e : ℕ) → Rings refs e → e < length refs
ring_in refs e r = first e r.on r.reached (names_in refs r.on r.next r.names) where
  first : (e k : ℕ) → Goes refs e k → k < length refs → e < length refs
  first e k stay h = h
  first e k (go {c = c} n w) h = names_in refs e c n
