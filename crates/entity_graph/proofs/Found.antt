-- What a search found: an order, or the first row that leads to a cycle.
use Rattle.std.proofs.Common.{◌≡◌, ℕ, ◌+◌, ◌*◌, sym, subst}
use Rattle.std.specs.Prelude.{Result, Ok, Err, IfOk, IfErr, MatchResult}
use Rattle.entity_graph.specs.declared.graph_faults.GraphFault.{GraphFault}
use Rattle.entity_graph.specs.declared.graph_faults.GraphFault.TheVariants as fault

module _ {A : Type 0} (found : Result A ℕ) (result : Result A GraphFault) where
  -- what is answered for what was found
  abbrev pub Answers : Type 0
  Answers = MatchResult found (λ order. result ≡ Ok order) (λ root. result ≡ Err (fault.Cycle (2 * root + 1)))

pub found_order : {A : Type 0} (P : A → Type 0) (Q : ℕ → Type 0) (found : Result A ℕ) (result : Result A GraphFault) → Answers found result → MatchResult found P Q → IfOk result P
found_order P Q (Ok order) result a m = subst (λ r. IfOk r P) (sym a) m
found_order P Q (Err root) result a m = subst (λ r. IfOk r P) (sym a) tt

pub found_root : {A : Type 0} (P : A → Type 0) (Q : ℕ → Type 0) (F : GraphFault → Type 0) (found : Result A ℕ) (result : Result A GraphFault) → Answers found result → MatchResult found P Q
    → ((root : ℕ) → Q root → F (fault.Cycle (2 * root + 1))) → IfErr result F
found_root P Q F (Ok order) result a m f = subst (λ r. IfErr r F) (sym a) tt
found_root P Q F (Err root) result a m f = subst (λ r. IfErr r F) (sym a) (f root m)

-- what was found has what follows from what it has
pub match_mapped : {A : Type 0} (P : A → Type 0) (Q : ℕ → Type 0) (R : A → Type 0) (S : ℕ → Type 0) (found : Result A ℕ) → ((order : A) → P order → R order) → ((root : ℕ) → Q root → S root)
    → MatchResult found P Q → MatchResult found R S
match_mapped P Q R S (Ok order) f g m = f order m
match_mapped P Q R S (Err root) f g m = g root m
