use Rattle.std.proofs.Common.{rules, ◌≡◌, ◌-◌, ◌≤◌, ◌<◌, ℕ, List, map, sum_by, refl, sym, ◌∙◌, subst, arith}
use Rattle.std.specs.List.{AllByRecursion}
use Rattle.solid_base.specs.declared.geometry.Affine.{Affine}
use Rattle.solid_base.specs.declared.solids.Row.TheVariants as row
use Rattle.solid_base.specs.Graph.{AreSound, weight_of, depth_of}
use Rattle.solid_base.specs.References.{HasNumber, target, operands_of, row_at}
use Rattle.fixed_enclosure.specs.Places.{spans_of}
use Rattle.entity_graph.specs.Opaque.{ReachesOpaque}
use Rattle.solid_eval.specs.Passing.{Passes, item_weight, NamesEntity}
use Rattle.solid_eval.proofs.Heavy.{row_weighs}
use Rattle.solid_eval.proofs.PartsUses.{passed_holds, items_weight}
use Rattle.solid_eval.proofs.PassedParts.{operand_numbers, item_numbers, IsBelow, operands_below, items_below, child_below, found_in_tree, found_in_assembly, found_in_instance, found_here, no_place, no_unread, no_level}
use Rattle.solid_eval.proofs.places.+use_at.Goals as goal
use Rattle.solid_eval.proofs.places.+use_at.Goals.{in-Some+in-Null-1, in-Some+in-Opaque-1, in-Some+in-Matrix-1, in-None-1}

pub returns-then-levels-eq0-clause-found : goal.returns-then-levels-eq0-clause-found
returns-then-levels-eq0-clause-found t c =
    let sound = subst AreSound c.requires.graph c.obeys.ensures.sound in
    absurd (no_level c.args.rows.now c.requires.rows sound c.args.e c.args.levels c.requires.deep c.requires.read c.if-levels-eq0.true)

-- ---- a tree

pub operand_at-number-requires-clause-numbers : goal.operand_at-number-requires-clause-numbers
operand_at-number-requires-clause-numbers t c =
    let rows = c.args.rows.now in
    let items = c.in-Some-Tree.items in
    let sound = subst AreSound c.requires.graph c.obeys.ensures.sound in
    let is : row_at rows c.args.e ≡ row.Tree items c.in-Some-Tree.matrix = c.in-Some-Tree.ensures.or_null ∙ c.in-Some-Tree.field-0-is in
    subst (λ g. AllByRecursion (HasNumber g) (map target (operands_of items))) (sym c.requires.graph) (operand_numbers rows c.requires.rows sound c.args.e items c.in-Some-Tree.matrix is)

pub operand_at-number-requires-clause-within : goal.operand_at-number-requires-clause-within
operand_at-number-requires-clause-within t c =
    let rows = c.args.rows.now in
    let items = c.in-Some-Tree.items in
    let sound = subst AreSound c.requires.graph c.obeys.ensures.sound in
    let is : row_at rows c.args.e ≡ row.Tree items c.in-Some-Tree.matrix = c.in-Some-Tree.ensures.or_null ∙ c.in-Some-Tree.field-0-is in
    let weight : weight_of rows c.args.e ≡ sum_by (weight_of rows) (map target (operands_of items)) = row_weighs rows c.requires.rows sound c.args.e (row.Tree items c.in-Some-Tree.matrix) is in
    let within : c.args.k < sum_by (weight_of rows) (map target (operands_of items)) = omega (arith, weight, c.requires.within) in
    subst (λ g. c.args.k < sum_by (weight_of g) (map target (operands_of items))) (sym c.requires.graph) within

pub use_at-requires : goal.use_at-requires
use_at-requires t c =
    let rows = c.args.rows.now in
    let items = c.in-Some-Tree.items in
    let n = c.operand_at-number.result.0 in
    let rest = c.operand_at-number.result.1 in
    let sound = subst AreSound c.requires.graph c.obeys.ensures.sound in
    let is : row_at rows c.args.e ≡ row.Tree items c.in-Some-Tree.matrix = c.in-Some-Tree.ensures.or_null ∙ c.in-Some-Tree.field-0-is in
    let passes : Passes (weight_of rows) (map target (operands_of items)) c.args.k n rest = subst (λ g. Passes (weight_of g) (map target (operands_of items)) c.args.k n rest) c.requires.graph c.operand_at-number.ensures in
    let part = passed_holds (weight_of rows) (IsBelow rows c.requires.rows sound c.args.e c.args.levels c.requires.deep c.requires.read) (map target (operands_of items)) c.args.k n rest
    (operands_below rows c.requires.rows sound c.args.e c.args.levels c.requires.deep c.requires.read items c.in-Some-Tree.matrix is) passes in
    let deep : depth_of rows n ≤ c.args.levels - 1 = part.less in
    let read : (k : ℕ) → ¬ ReachesOpaque rows n k = part.reads in
    let within : rest < weight_of rows n = passes.within in
    search rules

pub returns-in-Some-Tree-clause-found : goal.returns-in-Some-Tree-clause-found
returns-in-Some-Tree-clause-found t c =
    let rows = c.args.rows.now in
    let items = c.in-Some-Tree.items in
    let n = c.operand_at-number.result.0 in
    let rest = c.operand_at-number.result.1 in
    let sound = subst AreSound c.requires.graph c.obeys.ensures.sound in
    let is : row_at rows c.args.e ≡ row.Tree items c.in-Some-Tree.matrix = c.in-Some-Tree.ensures.or_null ∙ c.in-Some-Tree.field-0-is in
    let passes : Passes (weight_of rows) (map target (operands_of items)) c.args.k n rest = subst (λ g. Passes (weight_of g) (map target (operands_of items)) c.args.k n rest) c.requires.graph c.operand_at-number.ensures in
    found_in_tree rows c.requires.rows sound c.args.e c.args.levels c.requires.deep c.requires.read items c.in-Some-Tree.matrix c.args.k n rest c.use_at.result.0 (spans_of c.args.at.now) (spans_of c.pull_chain-back.result)
    (spans_of c.use_at.result.1) is c.pull_chain-back.ensures.value passes c.use_at.ensures.found

-- ---- an assembly

pub item_at-rest-requires-clause-numbers : goal.item_at-rest-requires-clause-numbers
item_at-rest-requires-clause-numbers t c =
    let rows = c.args.rows.now in
    let items = c.in-Some-Assembly.items in
    let sound = subst AreSound c.requires.graph c.obeys.ensures.sound in
    let is : row_at rows c.args.e ≡ row.Assembly items c.in-Some-Assembly.matrix = c.in-Some-Assembly.ensures.or_null ∙ c.in-Some-Assembly.field-0-is in
    subst (λ g. AllByRecursion (NamesEntity g) items) (sym c.requires.graph) (item_numbers rows c.requires.rows sound c.args.e items c.in-Some-Assembly.matrix is)

pub item_at-rest-requires-clause-within : goal.item_at-rest-requires-clause-within
item_at-rest-requires-clause-within t c =
    let rows = c.args.rows.now in
    let items = c.in-Some-Assembly.items in
    let sound = subst AreSound c.requires.graph c.obeys.ensures.sound in
    let is : row_at rows c.args.e ≡ row.Assembly items c.in-Some-Assembly.matrix = c.in-Some-Assembly.ensures.or_null ∙ c.in-Some-Assembly.field-0-is in
    let weight = row_weighs rows c.requires.rows sound c.args.e (row.Assembly items c.in-Some-Assembly.matrix) is ∙ sym (items_weight rows items) in
    let within = subst (λ n. c.args.k < n) weight c.requires.within in
    subst (λ g. c.args.k < sum_by (item_weight g) items) (sym c.requires.graph) within

pub use_at-requires-in-Some-Assembly : goal.use_at-requires-in-Some-Assembly
use_at-requires-in-Some-Assembly t c =
    let rows = c.args.rows.now in
    let items = c.in-Some-Assembly.items in
    let p = c.item_at-rest.result.0 in
    let rest = c.item_at-rest.result.1 in
    let sound = subst AreSound c.requires.graph c.obeys.ensures.sound in
    let is : row_at rows c.args.e ≡ row.Assembly items c.in-Some-Assembly.matrix = c.in-Some-Assembly.ensures.or_null ∙ c.in-Some-Assembly.field-0-is in
    let passes : Passes (item_weight rows) items c.args.k p rest = subst (λ g. Passes (item_weight g) items c.args.k p rest) c.requires.graph c.item_at-rest.ensures in
    let part = passed_holds (item_weight rows) (λ p. IsBelow rows c.requires.rows sound c.args.e c.args.levels c.requires.deep c.requires.read p.item) items c.args.k p rest
    (items_below rows c.requires.rows sound c.args.e c.args.levels c.requires.deep c.requires.read items c.in-Some-Assembly.matrix is) passes in
    let deep : depth_of rows p.item ≤ c.args.levels - 1 = part.less in
    let read : (k : ℕ) → ¬ ReachesOpaque rows p.item k = part.reads in
    let within : rest < weight_of rows p.item = passes.within in
    search rules

pub returns-in-Some-Assembly-clause-found : goal.returns-in-Some-Assembly-clause-found
returns-in-Some-Assembly-clause-found t c =
    let rows = c.args.rows.now in
    let items = c.in-Some-Assembly.items in
    let p = c.item_at-rest.result.0 in
    let rest = c.item_at-rest.result.1 in
    let sound = subst AreSound c.requires.graph c.obeys.ensures.sound in
    let is : row_at rows c.args.e ≡ row.Assembly items c.in-Some-Assembly.matrix = c.in-Some-Assembly.ensures.or_null ∙ c.in-Some-Assembly.field-0-is in
    let passes : Passes (item_weight rows) items c.args.k p rest = subst (λ g. Passes (item_weight g) items c.args.k p rest) c.requires.graph c.item_at-rest.ensures in
    found_in_assembly rows c.requires.rows sound c.args.e c.args.levels c.requires.deep c.requires.read items c.in-Some-Assembly.matrix c.args.k rest c.use_at-in-Some-Assembly.result.0 p (spans_of c.args.at.now)
    (spans_of c.pull_chain-back-in-Some-Assembly.result) (spans_of c.pull_chain-there.result) (spans_of c.use_at-in-Some-Assembly.result.1) is c.pull_chain-back-in-Some-Assembly.ensures.value c.pull_chain-there.ensures.value passes
    c.use_at-in-Some-Assembly.ensures.found

-- ---- an instance

pub use_at-requires-in-Some-Instance : goal.use_at-requires-in-Some-Instance
use_at-requires-in-Some-Instance t c =
    let rows = c.args.rows.now in
    let child = c.in-Some-Instance.child in
    let sound = subst AreSound c.requires.graph c.obeys.ensures.sound in
    let is : row_at rows c.args.e ≡ row.Instance child c.in-Some-Instance.matrix = c.in-Some-Instance.ensures.or_null ∙ c.in-Some-Instance.field-0-is in
    let part = child_below rows c.requires.rows sound c.args.e c.args.levels c.requires.deep c.requires.read child c.in-Some-Instance.matrix is in
    let weight : weight_of rows c.args.e ≡ weight_of rows child = row_weighs rows c.requires.rows sound c.args.e (row.Instance child c.in-Some-Instance.matrix) is in
    let deep : depth_of rows child ≤ c.args.levels - 1 = part.less in
    let read : (k : ℕ) → ¬ ReachesOpaque rows child k = part.reads in
    let within : c.args.k < weight_of rows child = omega (arith, weight, c.requires.within) in
    search rules

pub returns-in-Some-Instance-clause-found : goal.returns-in-Some-Instance-clause-found
returns-in-Some-Instance-clause-found t c =
    let rows = c.args.rows.now in
    let child = c.in-Some-Instance.child in
    let sound = subst AreSound c.requires.graph c.obeys.ensures.sound in
    let is : row_at rows c.args.e ≡ row.Instance child c.in-Some-Instance.matrix = c.in-Some-Instance.ensures.or_null ∙ c.in-Some-Instance.field-0-is in
    found_in_instance rows c.requires.rows sound c.args.e c.args.levels c.requires.deep c.requires.read child c.in-Some-Instance.matrix c.args.k c.use_at-in-Some-Instance.result.0 (spans_of c.args.at.now)
    (spans_of c.pull_chain-back-in-Some-Instance.result) (spans_of c.use_at-in-Some-Instance.result.1) is c.pull_chain-back-in-Some-Instance.ensures.value c.use_at-in-Some-Instance.ensures.found

-- ---- a primitive

pub returns-in-Some-Prim-clause-found : goal.returns-in-Some-Prim-clause-found
returns-in-Some-Prim-clause-found t c =
    let sound = subst AreSound c.requires.graph c.obeys.ensures.sound in
    found_here c.args.rows.now c.requires.rows sound c.args.e c.args.levels c.requires.deep c.requires.read _ _ c.args.k (spans_of c.args.at.now)
    (c.in-Some-Prim.ensures.or_null ∙ c.in-Some-Prim.field-0-is) c.requires.within

-- ---- what is no solid

pub returns-in-None-clause-found : goal.returns-in-None-clause-found
returns-in-None-clause-found t c =
    let rows = c.args.rows.now in
    let e = c.args.e in
    let sound = subst AreSound c.requires.graph c.obeys.ensures.sound in
    let null : row_at rows e ≡ row.Null → ⊥ = λ is. no_place rows c.requires.rows sound e c.args.levels c.requires.deep c.requires.read row.Null c.args.k is refl c.requires.within in
    let matrix : (form next : ℕ) (affine : Affine) → row_at rows e ≡ row.Matrix form affine next → ⊥ =
    λ form next affine is. no_place rows c.requires.rows sound e c.args.levels c.requires.deep c.requires.read (row.Matrix form affine next) c.args.k is refl c.requires.within in
    let unread : (kind form matrix : ℕ) (text : List ℕ) → row_at rows e ≡ row.Opaque kind form matrix text → ⊥ = λ kind form matrix text is. no_unread rows c.requires.rows sound e c.args.levels c.requires.deep c.requires.read kind form matrix text is in
    elim c.in-None-1.branch [
      | in-Some+in-Null-1 w ↦ search rules
      | in-Some+in-Opaque-1 w ↦ search rules
      | in-Some+in-Matrix-1 w ↦ search rules
      | in-None-1 w ↦ search rules
    ]
