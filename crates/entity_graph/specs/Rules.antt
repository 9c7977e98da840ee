-- solidd's own: the rules on single references, and the first reference that breaks one.
use Rattle.std.specs.Prelude.{◌≡◌, ℕ, List, ◌∷◌, ◌++◌}
use Rattle.std.specs.List.{AllByRecursion}
use Rattle.solid_base.specs.declared.entities.Entity.{Entity}
use Rattle.solid_base.specs.declared.references.Reference.{Reference}
use Rattle.solid_base.specs.References.{target}
use Rattle.solid_base.specs.Graph.{IsDangling, IsMisdirected}
use Rattle.entity_graph.specs.declared.rules.Rule.{Rule}
use Rattle.entity_graph.specs.declared.rules.Rule.TheVariants as rule

-- a reference breaks a rule
abbrev pub Breaks : List Entity → Rule → Reference → Type 0
Breaks rows rule.Present r = IsDangling rows r
Breaks rows rule.Directed r = IsMisdirected rows r

-- a property holds of none of some references
abbrev pub HoldsOfNone : (Reference → Type 0) → List Reference → Type 0
HoldsOfNone bad rs = AllByRecursion (λ r. ¬ bad r) rs

-- the first of some references of which a property holds names a number
pub record IsFirstIn (bad : Reference → Type 0) (rs : List Reference) (to : ℕ) : Type 0 where
  pub front : List Reference
  pub named : Reference
  pub rest : List Reference
  pub stands : rs ≡ front ++ named ∷ rest
  pub before : HoldsOfNone bad front
  pub holds : bad named
  pub names : target named ≡ to
