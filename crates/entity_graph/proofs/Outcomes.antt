-- Rows have at most one first fault, and none where their references obey the rules.
use Rattle.std.proofs.Common.{◌≡◌, ℕ, ◌<◌, ◌≤◌, inl, inr, List, [], ◌∷◌, ◌++◌, sym, ap, ◌∙◌, subst, arith}
use Rattle.std.proofs.lemmas.Bool.{cases_lt}
use Rattle.solid_base.specs.declared.entities.Entity.{Entity}
use Rattle.solid_base.specs.declared.references.Reference.{Reference}
use Rattle.solid_base.specs.References.{target, references_of, row_at}
use Rattle.solid_base.specs.Graph.{IsDangling, IsMisdirected, ReachesCycle, AreSound, depth_of, most_levels, weight_of, most_weight}
use Rattle.entity_graph.specs.declared.graph_faults.GraphFault.{GraphFault}
use Rattle.entity_graph.specs.declared.graph_faults.GraphFault.TheVariants as fault
use Rattle.entity_graph.specs.FirstFaults.{HasNo, ArePresent, AreDirected, IsFirst, IsFirstRow, IsFault}
use Rattle.entity_graph.specs.Rules.{HoldsOfNone}

module _ (bad : Reference → Type 0) where
  none_within : (front rest : List Reference) (r : Reference) → HoldsOfNone bad (front ++ r ∷ rest) → ¬ bad r
  none_within [] rest r h = h.0
  none_within (x ∷ front) rest r h = none_within front rest r h.1

  not_first : (rows : List Entity) (e to : ℕ) → HasNo bad rows e → IsFirst bad rows e to → ⊥
  not_first rows e to h f = none_within f.front f.rest f.named (subst (HoldsOfNone bad) f.stands h) f.holds

  same_named : (front other rest more : List Reference) (r s : Reference) → front ++ r ∷ rest ≡ other ++ s ∷ more → HoldsOfNone bad front → HoldsOfNone bad other → bad r → bad s → r ≡ s
  same_named [] [] rest more r s e h k a b = cc
  same_named [] (y ∷ other) rest more r s e h k a b = absurd (let q : r ≡ y = cc in k.0 (subst bad q a))
  same_named (x ∷ front) [] rest more r s e h k a b = absurd (let q : x ≡ s = cc in h.0 (subst bad (sym q) b))
  same_named (x ∷ front) (y ∷ other) rest more r s e h k a b = let t : front ++ r ∷ rest ≡ other ++ s ∷ more = cc in same_named front other rest more r s t h.1 k.1 a b

  same_first : (rows : List Entity) (e to d at : ℕ) → IsFirst bad rows e to → IsFirst bad rows d at → (e ≡ d) × (to ≡ at)
  same_first rows e to d at f g = (same, to_same) where
    same : e ≡ d
    same = elim (cases_lt e d) [
      | inl l ↦ absurd (not_first rows e to (g.earlier e l) f)
      | inr m ↦ elim (cases_lt d e) [ inl l ↦ absurd (not_first rows d at (f.earlier d l) g) | inr n ↦ omega arith ]
    ]

    to_same : to ≡ at
    to_same =
        let q : f.front ++ f.named ∷ f.rest ≡ g.front ++ g.named ∷ g.rest = sym f.stands ∙ ap (λ n. references_of (row_at rows n)) same ∙ g.stands in
        sym f.names ∙ ap target (same_named f.front g.front f.rest g.rest f.named g.named q f.before g.before f.holds g.holds) ∙ g.names

same_first_row : (bad : ℕ → Type 0) (e d : ℕ) → IsFirstRow bad e → IsFirstRow bad d → e ≡ d
same_first_row bad e d f g = elim (cases_lt e d) [
  | inl l ↦ absurd (g.earlier e l f.holds)
  | inr m ↦ elim (cases_lt d e) [ inl l ↦ absurd (f.earlier d l g.holds) | inr n ↦ omega arith ]
]

above : (m n : ℕ) → m < n → n ≤ m → ⊥
above m n h k = omega arith

module _ (rows : List Entity) where
  pub never_both : (f : GraphFault) → IsFault rows f → AreSound rows → ⊥
  never_both (fault.Memory e) h s = h
  never_both (fault.Dangling de to) h s = not_first (IsDangling rows) rows de to (s.present de) h
  never_both (fault.WrongTarget de to) h s = not_first (IsMisdirected rows) rows de to (s.directed de) h.1
  never_both (fault.Cycle de) h s = s.acyclic de h.2.holds
  never_both (fault.TooDeep de) h s = above most_levels (depth_of rows de) h.3.holds (s.shallow de)
  never_both (fault.TooHeavy de) h s = above most_weight (weight_of rows de) h.4.holds (s.light de)

  dangling_only : (de to : ℕ) → IsFirst (IsDangling rows) rows de to → ArePresent rows → ⊥
  dangling_only de to f p = not_first (IsDangling rows) rows de to (p de) f

  wrong_only : (de to : ℕ) → IsFirst (IsMisdirected rows) rows de to → AreDirected rows → ⊥
  wrong_only de to f p = not_first (IsMisdirected rows) rows de to (p de) f

  pub one_fault : (f g : GraphFault) → IsFault rows f → IsFault rows g → f ≡ g
  one_fault (fault.Memory e) g h k = absurd h
  one_fault (fault.Dangling a b) (fault.Memory e) h k = absurd k
  one_fault (fault.WrongTarget a b) (fault.Memory e) h k = absurd k
  one_fault (fault.Cycle a) (fault.Memory e) h k = absurd k
  one_fault (fault.TooDeep a) (fault.Memory e) h k = absurd k
  one_fault (fault.TooHeavy a) (fault.Memory e) h k = absurd k
  one_fault (fault.Dangling a b) (fault.Dangling c d) h k = let s = same_first (IsDangling rows) rows a b c d h k in let x = s.0 in let y = s.1 in cc
  one_fault (fault.Dangling a b) (fault.WrongTarget c d) h k = absurd (dangling_only a b h k.0)
  one_fault (fault.Dangling a b) (fault.Cycle c) h k = absurd (dangling_only a b h k.0)
  one_fault (fault.Dangling a b) (fault.TooDeep c) h k = absurd (dangling_only a b h k.0)
  one_fault (fault.Dangling a b) (fault.TooHeavy c) h k = absurd (dangling_only a b h k.0)
  one_fault (fault.WrongTarget a b) (fault.Dangling c d) h k = absurd (dangling_only c d k h.0)
  one_fault (fault.Cycle a) (fault.Dangling c d) h k = absurd (dangling_only c d k h.0)
  one_fault (fault.TooDeep a) (fault.Dangling c d) h k = absurd (dangling_only c d k h.0)
  one_fault (fault.TooHeavy a) (fault.Dangling c d) h k = absurd (dangling_only c d k h.0)
  one_fault (fault.WrongTarget a b) (fault.WrongTarget c d) h k = let s = same_first (IsMisdirected rows) rows a b c d h.1 k.1 in let x = s.0 in let y = s.1 in cc
  one_fault (fault.WrongTarget a b) (fault.Cycle c) h k = absurd (wrong_only a b h.1 k.1)
  one_fault (fault.WrongTarget a b) (fault.TooDeep c) h k = absurd (wrong_only a b h.1 k.1)
  one_fault (fault.WrongTarget a b) (fault.TooHeavy c) h k = absurd (wrong_only a b h.1 k.1)
  one_fault (fault.Cycle a) (fault.WrongTarget c d) h k = absurd (wrong_only c d k.1 h.1)
  one_fault (fault.TooDeep a) (fault.WrongTarget c d) h k = absurd (wrong_only c d k.1 h.1)
  one_fault (fault.TooHeavy a) (fault.WrongTarget c d) h k = absurd (wrong_only c d k.1 h.1)
  one_fault (fault.Cycle a) (fault.Cycle c) h k = ap (λ n. fault.Cycle n) (same_first_row (ReachesCycle rows) a c h.2 k.2)
  one_fault (fault.Cycle a) (fault.TooDeep c) h k = absurd (k.2 a h.2.holds)
  one_fault (fault.Cycle a) (fault.TooHeavy c) h k = absurd (k.2 a h.2.holds)
  one_fault (fault.TooDeep a) (fault.Cycle c) h k = absurd (h.2 c k.2.holds)
  one_fault (fault.TooHeavy a) (fault.Cycle c) h k = absurd (h.2 c k.2.holds)
  one_fault (fault.TooDeep a) (fault.TooDeep c) h k = ap (λ n. fault.TooDeep n) (same_first_row (λ e. most_levels < depth_of rows e) a c h.3 k.3)
  one_fault (fault.TooDeep a) (fault.TooHeavy c) h k = absurd (above most_levels (depth_of rows a) h.3.holds (k.3 a))
  one_fault (fault.TooHeavy a) (fault.TooDeep c) h k = absurd (above most_levels (depth_of rows c) k.3.holds (h.3 c))
  one_fault (fault.TooHeavy a) (fault.TooHeavy c) h k = ap (λ n. fault.TooHeavy n) (same_first_row (λ e. most_weight < weight_of rows e) a c h.4 k.4)
