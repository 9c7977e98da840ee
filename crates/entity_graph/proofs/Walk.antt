-- The state of a search, and what each of its turns does to it.
use Rattle.std.proofs.Common.{◌≡◌, ℕ, zero, suc, ◌+◌, ◌-◌, ◌<◌, ◌≤◌, ◌⊎◌, inl, inr, List, [], ◌∷◌, ◌++◌, get_or, set, length, refl, sym, ap, ◌∙◌, subst, arith, get_or-set_other, get_or-set_same, length-set, length-append, reverse}
use Rattle.std.proofs.lemmas.List.{get_or_append_left, reverse-append}
use Rattle.std.proofs.Math.Seq.{get_or-append_seam, set_out}
use Rattle.std.proofs.lemmas.Bool.{cases_lt, cases_eq}
use Rattle.entity_graph.specs.declared.search.Step.{Step}
use Rattle.entity_graph.specs.declared.search.Mark.{Mark}
use Rattle.entity_graph.specs.declared.search.Mark.TheVariants.{Unseen, OnWay, Done}
use Rattle.entity_graph.specs.Order.{refs_at, Names, Goes, stay, go, Before, IsOrder, Rings, Idle, mark_at}
use Rattle.entity_graph.proofs.Ways.{goes_then, before_later}

abbrev pub ref : List (List ℕ) → ℕ → ℕ → ℕ
ref refs e k = get_or (refs_at refs e) k 0

-- a step of the way leads to the row above it, and the references before are done
pub record Joint (refs : List (List ℕ)) (marks : List Mark) (s : Step) (c : ℕ) : Type 0 where
  pub node_in : s.node < length refs
  pub at : ℕ
  pub next : s.next ≡ at + 1
  pub within : at < length (refs_at refs s.node)
  pub is : ref refs s.node at ≡ c
  pub done : (k : ℕ) → k < at → mark_at marks (ref refs s.node k) ≡ Done

abbrev pub Chain : List (List ℕ) → List Mark → ℕ → List Step → Type 0
Chain refs marks c [] = Unit {0}
Chain refs marks c (s ∷ way) = Joint refs marks s c × Chain refs marks s.node way

abbrev pub InWay : ℕ → List Step → Type 0
InWay e [] = ⊥
InWay e (s ∷ way) = (e ≡ s.node) ⊎ InWay e way

pub record State (refs : List (List ℕ)) (marks : List Mark) (order : List ℕ) (node next : ℕ) (way : List Step) : Type 0 where
  pub size : length marks ≡ length refs
  pub node_in : node < length refs
  pub next_in : next ≤ length (refs_at refs node)
  pub done : (k : ℕ) → k < next → mark_at marks (ref refs node k) ≡ Done
  pub chain : Chain refs marks node way
  pub way_has : (e : ℕ) → mark_at marks e ≡ OnWay → (e ≡ node) ⊎ InWay e way
  pub ordered : IsOrder refs order
  pub inside : (i : ℕ) → i < length order → get_or order i 0 < length refs
  pub kept : (e : ℕ) → mark_at marks e ≡ Done → Before order (length order) e

-- ---- where the way leads

way_goes : (refs : List (List ℕ)) (marks : List Mark) (e c : ℕ) (way : List Step) → Chain refs marks c way → InWay e way → Goes refs e c
way_goes refs marks e c [] h i = absurd i
way_goes refs marks e c (s ∷ way) h (inl q) = subst (λ x. Goes refs x c) (sym q) (go (record { at = h.0.at; within = h.0.within; is = h.0.is }) stay)
way_goes refs marks e c (s ∷ way) h (inr i) = goes_then refs e s.node c (way_goes refs marks e s.node way h.1 i) (go (record { at = h.0.at; within = h.0.within; is = h.0.is }) stay)

-- the row at which the way begins
abbrev pub bottom : ℕ → List Step → ℕ
bottom c [] = c
bottom c (s ∷ way) = bottom s.node way

bottom_goes : (refs : List (List ℕ)) (marks : List Mark) (c : ℕ) (way : List Step) → Chain refs marks c way → Goes refs (bottom c way) c
bottom_goes refs marks c [] h = stay
bottom_goes refs marks c (s ∷ way) h = goes_then refs (bottom s.node way) s.node c (bottom_goes refs marks s.node way h.1) (go (record { at = h.0.at; within = h.0.within; is = h.0.is }) stay)

-- a reference to a row on the way closes a cycle
pub state_rings : (refs : List (List ℕ)) (marks : List Mark) (order : List ℕ) (node next c : ℕ) (way : List Step) → State refs marks order node next way → next < length (refs_at refs node) → ref refs node next ≡ c → mark_at marks c ≡ OnWay → Rings refs (bottom node way)
state_rings refs marks order node next c way s h q m = record {
  on = node;
  next = c;
  reached = bottom_goes refs marks node way s.chain;
  names = record { at = next; within = h; is = q };
  back = elim (s.way_has c m) [ inl e ↦ subst (λ x. Goes refs x node) (sym e) stay | inr i ↦ way_goes refs marks c node way s.chain i ];
}

-- ---- a reference to a row that is done

pub state_skip : (refs : List (List ℕ)) (marks : List Mark) (order : List ℕ) (node next : ℕ) (way : List Step) → State refs marks order node next way → next < length (refs_at refs node) → mark_at marks (ref refs node next) ≡ Done → State refs marks order node (next + 1) way
state_skip refs marks order node next way s h m = record {
  size = s.size;
  node_in = s.node_in;
  next_in = omega arith;
  done = λ k l. elim (cases_lt k next) [ inl a ↦ s.done k a | inr b ↦ (let e : k ≡ next = omega arith in ap (λ k. mark_at marks (ref refs node k)) e ∙ m) ];
  chain = s.chain;
  way_has = s.way_has;
  ordered = s.ordered;
  inside = s.inside;
  kept = s.kept;
}

-- ---- marks

chain_keeps : (refs : List (List ℕ)) (old new : List Mark) (c : ℕ) (way : List Step) → ((e : ℕ) → mark_at old e ≡ Done → mark_at new e ≡ Done) → Chain refs old c way → Chain refs new c way
chain_keeps refs old new c [] f h = tt
chain_keeps refs old new c (s ∷ way) f h = (
  record {
    node_in = h.0.node_in;
    at = h.0.at;
    next = h.0.next;
    within = h.0.within;
    is = h.0.is;
    done = λ k l. f (ref refs s.node k) (h.0.done k l);
  },
  chain_keeps refs old new s.node way f h.1,
)

set_other : (marks : List Mark) (c : ℕ) (v : Mark) (e : ℕ) → (e ≡ c → ⊥) → mark_at (set marks c v) e ≡ mark_at marks e
set_other marks c v e n = get_or-set_other marks c e v Unseen n

set_same : (marks : List Mark) (c : ℕ) (v : Mark) → c < length marks → mark_at (set marks c v) c ≡ v
set_same marks c v h = get_or-set_same marks c v Unseen h

-- a new mark on a row that wasn't seen changes no mark that isn't Unseen
on_way_keeps : (marks : List Mark) (c e : ℕ) (v : Mark) → mark_at marks c ≡ Unseen → (v ≡ Unseen → ⊥) → mark_at marks e ≡ v → mark_at (set marks c OnWay) e ≡ v
on_way_keeps marks c e v m n k = set_other marks c OnWay e (λ (x : e ≡ c). n (sym k ∙ ap (mark_at marks) x ∙ m)) ∙ k

not_done : (x : Mark) → x ≡ OnWay → x ≡ Done → ⊥
not_done x a b = absurd cc

pub done_seen : Done ≡ Unseen → ⊥
done_seen e = absurd cc

pub way_seen : OnWay ≡ Unseen → ⊥
way_seen e = absurd cc

-- ---- down to a row that wasn't seen

pub state_down : (refs : List (List ℕ)) (marks : List Mark) (order : List ℕ) (node next c : ℕ) (way : List Step) → State refs marks order node next way → next < length (refs_at refs node) → ref refs node next ≡ c → c < length refs → mark_at marks c ≡ Unseen
    → State refs (set marks c OnWay) order c 0 (record { node = node; next = next + 1 } ∷ way)
state_down refs marks order node next c way s h q i m =
    let new = set marks c OnWay in
    let inside : c < length marks = omega (arith, s.size) in
    let at_c : mark_at new c ≡ OnWay = set_same marks c OnWay inside in
    record {
      size = length-set marks c OnWay ∙ s.size;
      node_in = i;
      next_in = omega arith;
      done = λ k l. absurd (omega arith);
      chain = (
        record {
          node_in = s.node_in;
          at = next;
          next = refl;
          within = h;
          is = q;
          done = λ k l. on_way_keeps marks c (ref refs node k) Done m done_seen (s.done k l);
        },
        chain_keeps refs marks new node way (λ e k. on_way_keeps marks c e Done m done_seen k) s.chain,
      );
      way_has = λ e k. elim (cases_eq e c) [
        | inl x ↦ inl x
        | inr n ↦ inr (s.way_has e (sym (set_other marks c OnWay e n) ∙ k))
      ];
      ordered = s.ordered;
      inside = s.inside;
      kept = λ e k. elim (cases_eq e c) [
        | inl x ↦ absurd (not_done (mark_at new e) (ap (mark_at new) x ∙ at_c) k)
        | inr n ↦ s.kept e (sym (set_other marks c OnWay e n) ∙ k)
      ];
    }

-- ---- up from a row whose references are all done

set_done : (marks : List Mark) (node e : ℕ) → node < length marks → mark_at marks e ≡ Done → mark_at (set marks node Done) e ≡ Done
set_done marks node e h m = elim (cases_eq e node) [
  | inl x ↦ ap (mark_at (set marks node Done)) x ∙ set_same marks node Done h
  | inr n ↦ set_other marks node Done e n ∙ m
]

before_more : (order : List ℕ) (node i e : ℕ) → i ≤ length order → Before order i e → Before (order ++ (node ∷ [])) i e
before_more order node i e h b = record { at = b.at; below = b.below; is = get_or_append_left order (node ∷ []) 0 b.at (let k = b.below in omega arith) ∙ b.is }

module _ (refs : List (List ℕ)) (marks : List Mark) (order : List ℕ) (node next : ℕ) (way : List Step) (s : State refs marks order node next way) (end : length (refs_at refs node) ≤ next) where
  end_ordered : IsOrder refs (order ++ (node ∷ []))
  end_ordered i c h r =
      let n = length-append order (node ∷ []) in
      elim (cases_lt i (length order)) [
        | inl l ↦ before_more order node i c (omega arith) (s.ordered i c l (subst (λ e. Names refs e c) (get_or_append_left order (node ∷ []) 0 i l) r))
        | inr g ↦ (
            let e : i ≡ length order = omega arith in
            let q : get_or (order ++ (node ∷ [])) i 0 ≡ node = ap (λ i. get_or (order ++ (node ∷ [])) i 0) e ∙ get_or-append_seam order node [] 0 in
            let t = subst (λ x. Names refs x c) q r in
            let w = t.within in
            before_later (order ++ (node ∷ [])) (length order) i c g (before_more order node (length order) c (omega arith) (s.kept c (ap (mark_at marks) (sym t.is) ∙ s.done t.at (omega arith))))
            )
      ]

  end_inside : (i : ℕ) → i < length (order ++ (node ∷ [])) → get_or (order ++ (node ∷ [])) i 0 < length refs
  end_inside i h =
      let n = length-append order (node ∷ []) in
      elim (cases_lt i (length order)) [
        | inl l ↦ subst (λ e. e < length refs) (sym (get_or_append_left order (node ∷ []) 0 i l)) (s.inside i l)
        | inr g ↦ (
            let e : i ≡ length order = omega arith in
            let q : get_or (order ++ (node ∷ [])) i 0 ≡ node = ap (λ i. get_or (order ++ (node ∷ [])) i 0) e ∙ get_or-append_seam order node [] 0 in
            subst (λ e. e < length refs) (sym q) s.node_in
            )
      ]

  end_kept : (e : ℕ) → mark_at (set marks node Done) e ≡ Done → Before (order ++ (node ∷ [])) (length (order ++ (node ∷ []))) e
  end_kept e m =
      let n = length-append order (node ∷ []) in
      elim (cases_eq e node) [
        | inl x ↦ record { at = length order; below = omega arith; is = get_or-append_seam order node [] 0 ∙ sym x }
        | inr d ↦ before_later (order ++ (node ∷ [])) (length order) (length (order ++ (node ∷ []))) e (omega arith) (before_more order node (length order) e (omega arith) (s.kept e (sym (set_other marks node Done e d) ∙ m)))
      ]

  end_way : (e : ℕ) → mark_at (set marks node Done) e ≡ OnWay → InWay e way
  end_way e m =
      let inside : node < length marks = (let z = s.size in let y = s.node_in in omega arith) in
      elim (cases_eq e node) [
        | inl x ↦ absurd (not_done (mark_at (set marks node Done) e) m (ap (mark_at (set marks node Done)) x ∙ set_same marks node Done inside))
        | inr d ↦ elim (s.way_has e (sym (set_other marks node Done e d) ∙ m)) [ inl x ↦ absurd (d x) | inr i ↦ i ]
      ]

pub state_end : (refs : List (List ℕ)) (marks : List Mark) (order : List ℕ) (node next : ℕ) → State refs marks order node next [] → length (refs_at refs node) ≤ next → Idle refs (set marks node Done) (order ++ (node ∷ []))
state_end refs marks order node next s end = record {
  size = length-set marks node Done ∙ s.size;
  none = end_way refs marks order node next [] s end;
  ordered = end_ordered refs marks order node next [] s end;
  inside = end_inside refs marks order node next [] s end;
  kept = end_kept refs marks order node next [] s end;
}

pub state_up : (refs : List (List ℕ)) (marks : List Mark) (order : List ℕ) (node next : ℕ) (t : Step) (way : List Step) → State refs marks order node next (t ∷ way) → length (refs_at refs node) ≤ next → State refs (set marks node Done) (order ++ (node ∷ [])) t.node t.next way
state_up refs marks order node next t way s end =
    let inside : node < length marks = (let z = s.size in let y = s.node_in in omega arith) in
    let l = s.chain.0 in
    record {
      size = length-set marks node Done ∙ s.size;
      node_in = l.node_in;
      next_in = (let a = l.next in let b = l.within in omega arith);
      done = λ k h. elim (cases_lt k l.at) [
        | inl a ↦ set_done marks node (ref refs t.node k) inside (l.done k a)
        | inr b ↦ (
            let n = l.next in let e : k ≡ l.at = omega arith in
            ap (λ k. mark_at (set marks node Done) (ref refs t.node k)) e ∙ ap (mark_at (set marks node Done)) l.is ∙ set_same marks node Done inside
            )
      ];
      chain = chain_keeps refs marks (set marks node Done) t.node way (λ e m. set_done marks node e inside m) s.chain.1;
      way_has = end_way refs marks order node next (t ∷ way) s end;
      ordered = end_ordered refs marks order node next (t ∷ way) s end;
      inside = end_inside refs marks order node next (t ∷ way) s end;
      kept = end_kept refs marks order node next (t ∷ way) s end;
    }

-- ---- the beginning

pub state_start : (refs : List (List ℕ)) (marks : List Mark) (order : List ℕ) (root : ℕ) → Idle refs marks order → root < length refs → mark_at marks root ≡ Unseen → State refs (set marks root OnWay) order root 0 []
state_start refs marks order root s h m =
    let z = s.size in
    let inside : root < length marks = omega arith in
    record {
      size = length-set marks root OnWay ∙ s.size;
      node_in = h;
      next_in = omega arith;
      done = λ k l. absurd (omega arith);
      chain = tt;
      way_has = λ e k. elim (cases_eq e root) [ inl x ↦ inl x | inr n ↦ absurd (s.none e (sym (set_other marks root OnWay e n) ∙ k)) ];
      ordered = s.ordered;
      inside = s.inside;
      kept = λ e k. elim (cases_eq e root) [
        | inl x ↦ absurd (not_done (mark_at (set marks root OnWay) e) (ap (mark_at (set marks root OnWay)) x ∙ set_same marks root OnWay inside) k)
        | inr n ↦ s.kept e (sym (set_other marks root OnWay e n) ∙ k)
      ];
    }

pub seen_set : (marks : List Mark) (c : ℕ) (v : Mark) (e : ℕ) → (v ≡ Unseen → ⊥) → (mark_at marks e ≡ Unseen → ⊥) → mark_at (set marks c v) e ≡ Unseen → ⊥
seen_set marks c v e n h k = elim (cases_eq e c) [
  | inl x ↦ elim (cases_lt c (length marks)) [
    | inl l ↦ n (sym (ap (mark_at (set marks c v)) x ∙ set_same marks c v l) ∙ k)
    | inr g ↦ h (sym (ap (λ (l : List Mark). mark_at l e) (set_out marks c v g)) ∙ k)
  ]
  | inr d ↦ h (sym (set_other marks c v e d) ∙ k)
]

pub seen_root : (marks : List Mark) (root e : ℕ) → root < length marks → (e ≡ root) ⊎ (mark_at marks e ≡ Unseen → ⊥) → mark_at (set marks root OnWay) e ≡ Unseen → ⊥
seen_root marks root e h (inl x) k = way_seen (sym (ap (mark_at (set marks root OnWay)) x ∙ set_same marks root OnWay h) ∙ k)
seen_root marks root e h (inr n) k = seen_set marks root OnWay e way_seen n k

-- ---- what is left to do

abbrev pub unseen : List Mark → List (List ℕ) → ℕ
unseen [] rs = 0
unseen (m ∷ ms) [] = 0
unseen (Unseen ∷ ms) (r ∷ rs) = length r + 2 + unseen ms rs
unseen (OnWay ∷ ms) (r ∷ rs) = unseen ms rs
unseen (Done ∷ ms) (r ∷ rs) = unseen ms rs

abbrev pub way_left : List (List ℕ) → List Step → ℕ
way_left refs [] = 0
way_left refs (s ∷ way) = length (refs_at refs s.node) - s.next + 1 + way_left refs way

unseen_seen : (marks : List Mark) (refs : List (List ℕ)) (c : ℕ) → c < length marks → length marks ≡ length refs → mark_at marks c ≡ Unseen → unseen (set marks c OnWay) refs + length (refs_at refs c) + 2 ≡ unseen marks refs
unseen_seen [] refs c h e m = absurd (omega arith)
unseen_seen (x ∷ marks) [] c h e m = absurd (omega arith)
unseen_seen (Unseen ∷ marks) (r ∷ refs) zero h e m = omega arith
unseen_seen (OnWay ∷ marks) (r ∷ refs) zero h e m = absurd cc
unseen_seen (Done ∷ marks) (r ∷ refs) zero h e m = absurd cc
unseen_seen (Unseen ∷ marks) (r ∷ refs) (suc c) h e m = let k = unseen_seen marks refs c (omega arith) (omega arith) m in omega arith
unseen_seen (OnWay ∷ marks) (r ∷ refs) (suc c) h e m = unseen_seen marks refs c (omega arith) (omega arith) m
unseen_seen (Done ∷ marks) (r ∷ refs) (suc c) h e m = unseen_seen marks refs c (omega arith) (omega arith) m

unseen_most : (marks : List Mark) (refs : List (List ℕ)) (c : ℕ) → unseen (set marks c Done) refs ≤ unseen marks refs
unseen_most [] refs c = omega arith
unseen_most (x ∷ marks) [] zero = omega arith
unseen_most (x ∷ marks) [] (suc c) = omega arith
unseen_most (Unseen ∷ marks) (r ∷ refs) zero = omega arith
unseen_most (OnWay ∷ marks) (r ∷ refs) zero = omega arith
unseen_most (Done ∷ marks) (r ∷ refs) zero = omega arith
unseen_most (Unseen ∷ marks) (r ∷ refs) (suc c) = let k = unseen_most marks refs c in omega arith
unseen_most (OnWay ∷ marks) (r ∷ refs) (suc c) = unseen_most marks refs c
unseen_most (Done ∷ marks) (r ∷ refs) (suc c) = unseen_most marks refs c

pub reverse_push : (path new : List Step) (t : Step) → new ≡ path ++ (t ∷ []) → reverse new ≡ t ∷ reverse path
reverse_push path new t e = ap reverse e ∙ reverse-append path (t ∷ [])

-- the measure falls
pub falls_down : (refs : List (List ℕ)) (marks : List Mark) (node next c : ℕ) (path new : List Step) → length marks ≡ length refs → next < length (refs_at refs node) → c < length refs → mark_at marks c ≡ Unseen → new ≡ path ++ (record { node = node; next = next + 1 } ∷ [])
    → unseen (set marks c OnWay) refs + (length (refs_at refs c) - 0) + 1 + way_left refs (reverse new) < unseen marks refs + (length (refs_at refs node) - next) + 1 + way_left refs (reverse path)
falls_down refs marks node next c path new z h i m e =
    let k = unseen_seen marks refs c (omega arith) z m in
    let w = ap (way_left refs) (reverse_push path new (record { node = node; next = next + 1 }) e) in
    omega arith

pub falls_up : (refs : List (List ℕ)) (marks : List Mark) (node next : ℕ) (path rest : List Step) (t : Step) → length (refs_at refs node) ≤ next → path ≡ rest ++ (t ∷ [])
    → unseen (set marks node Done) refs + (length (refs_at refs t.node) - t.next) + 1 + way_left refs (reverse rest) < unseen marks refs + (length (refs_at refs node) - next) + 1 + way_left refs (reverse path)
falls_up refs marks node next path rest t h e =
    let k = unseen_most marks refs node in
    let w = ap (way_left refs) (reverse_push rest path t e) in
    omega arith
