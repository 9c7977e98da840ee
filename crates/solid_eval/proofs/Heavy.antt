-- Each solid of a model whose references obey the rules weighs at least 1.
use Rattle.std.proofs.Common.{◌≡◌, ℕ, zero, suc, ◌≤◌, ◌<◌, List, [], ◌∷◌, ◌++◌, map, length, refl, sym, ap, ◌∙◌, subst, arith, sum_by}
use Rattle.std.specs.List.{AllByRecursion}
use Rattle.std.proofs.lemmas.List.{length-map}
use Rattle.std.proofs.lemmas.List.Sums.{sum_by-cons}
use Rattle.solid_base.specs.declared.entities.Entity.{Entity}
use Rattle.solid_base.specs.declared.references.Reference.{Reference}
use Rattle.solid_base.specs.declared.references.Reference.TheVariants as reference
use Rattle.solid_base.specs.declared.solids.Item.{Item}
use Rattle.solid_base.specs.declared.solids.Item.TheVariants as item
use Rattle.solid_base.specs.declared.solids.Placed.{Placed}
use Rattle.solid_base.specs.declared.solids.Row.{Row}
use Rattle.solid_base.specs.declared.solids.Row.TheVariants as row
use Rattle.solid_base.specs.Graph.{IsDangling, IsMatrix, IsMisdirected, row_weight, weight_of, depth_of, AreSound}
use Rattle.solid_base.specs.Ranges.{IsLawfulRow}
use Rattle.solid_base.specs.References.{target, matrix_named, operands_of, items_of, matrices_of, references_of, references, row_at, Refers}
use Rattle.solid_base.specs.Trees.{Tree, operand, combination, IsPostOrder}
use Rattle.boolean_tree.specs.Verdicts.{operand_count}
use Rattle.boolean_tree.proofs.Counts.{operands_counted}
use Rattle.affine_pull.proofs.LawfulChains.{lawful-row}
use Rattle.entity_graph.proofs.Levels.{no_levels}
use Rattle.solid_eval.specs.Solids.{IsSolidRow}
use Rattle.solid_eval.proofs.Local.{all_named}
use Rattle.solid_eval.proofs.SameParts.{all_left, all_right}

-- ---- rows that weigh something: solids, and what isn't read
abbrev IsHeavy : Row → Type 0
IsHeavy row.Null = ⊥
IsHeavy (row.Opaque kind form matrix text) = Unit {0}
IsHeavy (row.Matrix form affine next) = ⊥
IsHeavy (row.Prim p matrix) = Unit {0}
IsHeavy (row.Tree items matrix) = Unit {0}
IsHeavy (row.Assembly items matrix) = Unit {0}
IsHeavy (row.Instance number matrix) = Unit {0}

solid_heavy : (r : Row) → IsSolidRow r → IsHeavy r
solid_heavy row.Null h = h
solid_heavy (row.Opaque kind form matrix text) h = tt
solid_heavy (row.Matrix form affine next) h = h
solid_heavy (row.Prim p matrix) h = tt
solid_heavy (row.Tree items matrix) h = tt
solid_heavy (row.Assembly items matrix) h = tt
solid_heavy (row.Instance number matrix) h = tt

named_heavy : (r : Row) → (r ≡ row.Null → ⊥) → ¬ IsMatrix r → IsHeavy r
named_heavy row.Null present directed = present refl
named_heavy (row.Opaque kind form matrix text) present directed = tt
named_heavy (row.Matrix form affine next) present directed = directed tt
named_heavy (row.Prim p matrix) present directed = tt
named_heavy (row.Tree items matrix) present directed = tt
named_heavy (row.Assembly items matrix) present directed = tt
named_heavy (row.Instance number matrix) present directed = tt

-- ---- lists of references
all_last : (P : Reference → Type 0) (a b : List Reference) → AllByRecursion P (a ++ b) → AllByRecursion P b
all_last P [] b h = h
all_last P (r ∷ a) b h = all_last P a b h.1

all_first : (P : Reference → Type 0) (a b : List Reference) → AllByRecursion P (a ++ b) → AllByRecursion P a
all_first P [] b h = tt
all_first P (r ∷ a) b h = (h.0, all_first P a b h.1)

every : (P : ℕ → Type 0) → ((c : ℕ) → P c) → (cs : List ℕ) → AllByRecursion P cs
every P f [] = tt
every P f (c ∷ cs) = (f c, every P f cs)

some_sum : (f : ℕ → ℕ) (ns : List ℕ) → 0 < length ns → AllByRecursion (λ n. 1 ≤ f n) ns → 1 ≤ sum_by f ns
some_sum f [] some h = absurd (omega (arith, some))
some_sum f (n ∷ ns) some h = omega (arith, sum_by-cons f n ns, h.0)

some_operand : (t : Tree) → 0 < operand_count t
some_operand (operand n) = omega arith
some_operand (combination o a b) = omega (arith, some_operand a)

operands_there : (items : List Item) → IsPostOrder items → 0 < length (map target (operands_of items))
operands_there items (t, is) =
    let counted = length-map (operands_of items) target ∙ ap (λ l. length (operands_of l)) is ∙ operands_counted t in
    omega (arith, counted, some_operand t)

items_there : (items : List Placed) → 0 < length items → 0 < length (map target (items_of items))
items_there [] some = absurd (omega (arith, some))
items_there (p ∷ items) some = omega arith

module _ (rows : List Entity) where
  abbrev IsPresent : Reference → Type 0
  IsPresent r = ¬ IsDangling rows r

  abbrev IsDirected : Reference → Type 0
  IsDirected r = ¬ IsMisdirected rows r

  -- a number weighs something, if its row does
  abbrev Weighs : ℕ → Type 0
  Weighs c = IsHeavy (row_at rows c) → 1 ≤ weight_of rows c

  abbrev AtLeastOne : ℕ → Type 0
  AtLeastOne c = 1 ≤ weight_of rows c

  child_heavy : (c : ℕ) → IsPresent (reference.Solid c) → IsDirected (reference.Solid c) → Weighs c → AtLeastOne c
  child_heavy c present directed h = h (named_heavy (row_at rows c) present directed)

  operands_heavy : (items : List Item) → AllByRecursion IsPresent (operands_of items) → AllByRecursion IsDirected (operands_of items)
      → AllByRecursion Weighs (map target (operands_of items)) → AllByRecursion AtLeastOne (map target (operands_of items))
  operands_heavy [] p d h = tt
  operands_heavy (item.Operand n ∷ items) p d h = (child_heavy n p.0 d.0 h.0, operands_heavy items p.1 d.1 h.1)
  operands_heavy (item.Join ∷ items) p d h = operands_heavy items p d h
  operands_heavy (item.Meet ∷ items) p d h = operands_heavy items p d h
  operands_heavy (item.Less ∷ items) p d h = operands_heavy items p d h

  items_heavy : (items : List Placed) → AllByRecursion IsPresent (items_of items) → AllByRecursion IsDirected (items_of items)
      → AllByRecursion Weighs (map target (items_of items)) → AllByRecursion AtLeastOne (map target (items_of items))
  items_heavy [] p d h = tt
  items_heavy (x ∷ items) p d h = (child_heavy x.item p.0 d.0 h.0, items_heavy items p.1 d.1 h.1)

  row_heavy : (r : Row) → IsLawfulRow r → AllByRecursion IsPresent (references_of r) → AllByRecursion IsDirected (references_of r) → AllByRecursion Weighs (references r)
      → IsHeavy r → 1 ≤ row_weight (weight_of rows) r
  unfolding references_of
  row_heavy row.Null l p d h heavy = absurd heavy
  row_heavy (row.Opaque kind form matrix text) l p d h heavy = omega arith
  row_heavy (row.Matrix form affine next) l p d h heavy = absurd heavy
  row_heavy (row.Prim q matrix) l p d h heavy = omega arith
  row_heavy (row.Tree items matrix) l p d h heavy =
      let m = matrix_named matrix in
      some_sum (weight_of rows) (map target (operands_of items)) (operands_there items l.2)
      (operands_heavy items (all_last IsPresent m (operands_of items) p) (all_last IsDirected m (operands_of items) d) (all_right Weighs m (operands_of items) h))
  row_heavy (row.Assembly items matrix) l p d h heavy =
      let m = matrix_named matrix in
      let its = items_of items in
      let ms = matrices_of items in
      some_sum (weight_of rows) (map target its) (items_there items l.0)
      (items_heavy items (all_first IsPresent its ms (all_last IsPresent m (its ++ ms) p)) (all_first IsDirected its ms (all_last IsDirected m (its ++ ms) d)) (all_left Weighs its ms (all_right Weighs m (its ++ ms) h)))
  row_heavy (row.Instance c matrix) l p d h heavy =
      let m = matrix_named matrix in
      child_heavy c (all_last IsPresent m (reference.Solid c ∷ []) p).0 (all_last IsDirected m (reference.Solid c ∷ []) d).0 (all_right Weighs m (reference.Solid c ∷ []) h).0

  module _ (lawful : AllByRecursion (λ (e : Entity). IsLawfulRow e.row) rows) (sound : AreSound rows) where
    heavy_within : (n e : ℕ) → depth_of rows e ≤ n → Weighs e
    heavy_within zero e deep = let s = (no_levels rows sound.shallow e).depth in absurd (omega (arith, deep, s))
    heavy_within (suc n) e deep =
        let s = no_levels rows sound.shallow e in
        let below : (c : ℕ) → Refers rows e c → Weighs c = λ c refers. heavy_within n c (omega (arith, s.falls c refers, deep)) in
        let one = row_heavy (row_at rows e) (lawful-row rows e lawful) (sound.present e) (sound.directed e) (all_named Weighs (references (row_at rows e)) below) in
        λ heavy. subst (λ n. 1 ≤ n) (sym s.weight) (one heavy)

    weighs : (e : ℕ) → Weighs e
    weighs e = heavy_within _ e (sound.shallow e)

    pub solid_weighs : (e : ℕ) → IsSolidRow (row_at rows e) → 1 ≤ weight_of rows e
    solid_weighs e solid = weighs e (solid_heavy (row_at rows e) solid)

    -- ---- what a row names, where it is known
    pub operands_weigh : (e matrix : ℕ) (items : List Item) → row_at rows e ≡ row.Tree items matrix → AllByRecursion AtLeastOne (map target (operands_of items))
    unfolding references_of
    operands_weigh e matrix items is =
        let m = matrix_named matrix in
        let p = subst (λ r. AllByRecursion IsPresent (references_of r)) is (sound.present e) in
        let d = subst (λ r. AllByRecursion IsDirected (references_of r)) is (sound.directed e) in
        operands_heavy items (all_last IsPresent m (operands_of items) p) (all_last IsDirected m (operands_of items) d) (every Weighs weighs (map target (operands_of items)))

    pub row_weighs : (e : ℕ) (r : Row) → row_at rows e ≡ r → weight_of rows e ≡ row_weight (weight_of rows) r
    row_weighs e r is = (no_levels rows sound.shallow e).weight ∙ ap (row_weight (weight_of rows)) is

    pub items_weigh : (e matrix : ℕ) (items : List Placed) → row_at rows e ≡ row.Assembly items matrix → AllByRecursion AtLeastOne (map target (items_of items))
    unfolding references_of
    items_weigh e matrix items is =
        let m = matrix_named matrix in
        let its = items_of items in
        let ms = matrices_of items in
        let p = subst (λ r. AllByRecursion IsPresent (references_of r)) is (sound.present e) in
        let d = subst (λ r. AllByRecursion IsDirected (references_of r)) is (sound.directed e) in
        items_heavy items (all_first IsPresent its ms (all_last IsPresent m (its ++ ms) p)) (all_first IsDirected its ms (all_last IsDirected m (its ++ ms) d)) (every Weighs weighs (map target its))
