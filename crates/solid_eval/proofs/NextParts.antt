-- The next part of a level, and the level of an entity of which all uses are left.
use Rattle.std.proofs.Common.{◌≡◌, ℕ, zero, suc, ◌≤◌, ◌<◌, List, [], ◌∷◌, ◌++◌, MatchOption, map, drop, flat_map, refl, sym, ap, ◌∙◌, subst, arith, append-nil}
use Rattle.std.specs.List.{AllByRecursion}
use Rattle.solid_base.specs.declared.entities.Entity.{Entity}
use Rattle.solid_base.specs.declared.references.Reference.TheVariants as reference
use Rattle.solid_base.specs.declared.solids.Item.{Item}
use Rattle.solid_base.specs.declared.solids.Item.TheVariants as item
use Rattle.solid_base.specs.declared.solids.Placed.{Placed}
use Rattle.solid_base.specs.declared.solids.Row.{Row}
use Rattle.solid_base.specs.declared.solids.Row.TheVariants as row
use Rattle.solid_base.specs.Graph.{depth_of, row_weight, weight_of, AreSound}
use Rattle.solid_base.specs.Ranges.{IsLawfulRow}
use Rattle.solid_base.specs.References.{here, target, operands_of, items_of, row_at}
use Rattle.fixed_enclosure.specs.Places.{Span3, spans_of}
use Rattle.affine_pull.specs.Chains.{chain_of, spans_through}
use Rattle.affine_pull.proofs.LawfulChains.{lawful-row}
use Rattle.affine_pull.proofs.Levels.{chain-none}
use Rattle.entity_graph.specs.Opaque.{ReachesOpaque}
use Rattle.entity_graph.proofs.Levels.{no_levels}
use Rattle.solid_eval.specs.declared.level_stack.Level.{Level}
use Rattle.solid_eval.specs.Solids.{solid_of, IsSolidRow}
use Rattle.solid_eval.specs.Uses.{Use, uses}
use Rattle.solid_eval.specs.Walking.{uses_from, level_uses, IsPart, own_matrix}
use Rattle.solid_eval.proofs.Heavy.{operands_weigh, items_weigh, row_weighs, solid_weighs}
use Rattle.solid_eval.proofs.PartsUses.{operand_uses, items_uses, item_uses, united_uses, row_uses}
use Rattle.solid_eval.proofs.PassedParts.{IsBelow, operands_below, items_below, child_below}

-- ---- what holds of all holds of those from a place on
later_operands : (P : ℕ → Type 0) (k : ℕ) (items : List Item) → AllByRecursion P (map target (operands_of items)) → AllByRecursion P (map target (operands_of (drop k items)))
later_operands P zero items h = h
later_operands P (suc k) [] h = tt
later_operands P (suc k) (item.Operand n ∷ items) h = later_operands P k items h.1
later_operands P (suc k) (item.Join ∷ items) h = later_operands P k items h
later_operands P (suc k) (item.Meet ∷ items) h = later_operands P k items h
later_operands P (suc k) (item.Less ∷ items) h = later_operands P k items h

later_items : (P : Placed → Type 0) (k : ℕ) (items : List Placed) → AllByRecursion P items → AllByRecursion P (drop k items)
later_items P zero items h = h
later_items P (suc k) [] h = tt
later_items P (suc k) (p ∷ items) h = later_items P k items h.1

each_item : (P : ℕ → Type 0) (items : List Placed) → AllByRecursion P (map target (items_of items)) → AllByRecursion (λ (p : Placed). P p.item) items
each_item P [] h = tt
each_item P (p ∷ items) h = (h.0, each_item P items h.1)

after_child : (f : ℕ → List Use) (k n : ℕ) → 0 < k → flat_map f (drop k (n ∷ [])) ≡ []
after_child f zero n some = absurd (omega (arith, some))
after_child f (suc zero) n some = refl
after_child f (suc (suc k)) n some = refl

-- no matrix carries no place
pub unmoved : (rows : List Entity) (l : Level) (matrix : ℕ) → matrix ≡ 0 → spans_of l.at ≡ spans_through (chain_of rows matrix) (spans_of l.at)
unmoved rows l matrix none =
    ap (λ chain. spans_through chain (spans_of l.at)) (sym (chain-none rows) ∙ ap (chain_of rows) (sym none))

-- an entity is the one use of itself
abbrev pub IsUsedItself : List Entity → ℕ → Type 0
IsUsedItself rows e = (s : Span3) → uses (solid_of rows e) s ≡ record { number = e; spans = s } ∷ []

-- the uses of an entity are those of its operands, items or child, over the spans after a matrix
abbrev pub IsOpenedBy : List Entity → ℕ → ℕ → Type 0
IsOpenedBy rows e matrix = (s : Span3) → uses (solid_of rows e) s ≡ uses_from rows (row_at rows e) 0 (spans_through (chain_of rows matrix) s)

module _ (rows : List Entity) (lawful : AllByRecursion (λ (e : Entity). IsLawfulRow e.row) rows) (sound : AreSound rows) where
  -- ---- the next part
  module _ (l : Level) (reads : (k : ℕ) → ¬ ReachesOpaque rows l.e k) where
    abbrev Below : ℕ → Type 0
    Below = IsBelow rows lawful sound l.e (depth_of rows l.e) (omega arith) reads

    less_deep : (c : ℕ) → Below c → depth_of rows c < depth_of rows l.e
    less_deep c h = let one = (no_levels rows sound.shallow l.e).depth in omega (arith, one, h.less)

    on_level : (r : Row) (k : ℕ) → row_at rows l.e ≡ r → uses_from rows (row_at rows l.e) k (spans_of l.at) ≡ uses_from rows r k (spans_of l.at)
    on_level r k is = ap (λ r. uses_from rows r k (spans_of l.at)) is

    pub operand_next : (items : List Item) (matrix n next : ℕ) → row_at rows l.e ≡ row.Tree items matrix → operands_of (drop l.index items) ≡ reference.Solid n ∷ operands_of (drop next items)
        → IsPart rows l (record { number = n; matrix = 0; next = next })
    operand_next items matrix n next is stands =
        let f = operand_uses (solid_of rows) (spans_of l.at) in
        let below = (subst (λ os. AllByRecursion Below (map target os)) stands
        (later_operands Below l.index items (operands_below rows lawful sound l.e (depth_of rows l.e) (omega arith) reads items matrix is))).0 in
        let heavy = (subst (λ os. AllByRecursion (λ c. 1 ≤ weight_of rows c) (map target os)) stands
        (later_operands (λ c. 1 ≤ weight_of rows c) l.index items (operands_weigh rows lawful sound l.e matrix items is))).0 in
        record {
          first = on_level (row.Tree items matrix) l.index is ∙ ap (λ os. flat_map f (map target os)) stands ∙ ap (λ s. uses (solid_of rows n) s ++ flat_map f (map target (operands_of (drop next items)))) (unmoved rows l 0 refl)
              ∙ ap (λ us. uses (solid_of rows n) (spans_through (chain_of rows 0) (spans_of l.at)) ++ us) (sym (on_level (row.Tree items matrix) next is));
          less = less_deep n below;
          reads = below.reads;
          weighs = heavy;
        }

    pub operands_ended : (items : List Item) (matrix : ℕ) → row_at rows l.e ≡ row.Tree items matrix → operands_of (drop l.index items) ≡ [] → level_uses rows l ≡ []
    operands_ended items matrix is none =
        on_level (row.Tree items matrix) l.index is ∙ ap (λ os. flat_map (operand_uses (solid_of rows) (spans_of l.at)) (map target os)) none

    pub item_next : (items : List Placed) (matrix next : ℕ) (p : Placed) → row_at rows l.e ≡ row.Assembly items matrix → drop l.index items ≡ p ∷ drop next items
        → IsPart rows l (record { number = p.item; matrix = p.matrix; next = next })
    item_next items matrix next p is stands =
        let f = item_uses (solid_of rows) (chain_of rows) (spans_of l.at) in
        let below = (subst (AllByRecursion (λ (p : Placed). Below p.item)) stands
        (later_items (λ (p : Placed). Below p.item) l.index items (items_below rows lawful sound l.e (depth_of rows l.e) (omega arith) reads items matrix is))).0 in
        let heavy = (subst (AllByRecursion (λ (p : Placed). 1 ≤ weight_of rows p.item)) stands
        (later_items (λ (p : Placed). 1 ≤ weight_of rows p.item) l.index items (each_item (λ c. 1 ≤ weight_of rows c) items (items_weigh rows lawful sound l.e matrix items is)))).0 in
        record {
          first = on_level (row.Assembly items matrix) l.index is ∙ ap (flat_map f) stands ∙ ap (λ us. f p ++ us) (sym (on_level (row.Assembly items matrix) next is));
          less = less_deep p.item below;
          reads = below.reads;
          weighs = heavy;
        }

    pub items_ended : (items : List Placed) (matrix : ℕ) → row_at rows l.e ≡ row.Assembly items matrix → drop l.index items ≡ [] → level_uses rows l ≡ []
    items_ended items matrix is none =
        on_level (row.Assembly items matrix) l.index is ∙ ap (flat_map (item_uses (solid_of rows) (chain_of rows) (spans_of l.at))) none

    pub child_next : (n matrix : ℕ) → row_at rows l.e ≡ row.Instance n matrix → l.index ≡ 0 → IsPart rows l (record { number = n; matrix = 0; next = 1 })
    child_next n matrix is none =
        let f = operand_uses (solid_of rows) (spans_of l.at) in
        let heavy = solid_weighs rows lawful sound l.e (subst IsSolidRow (sym is) tt) in
        let below = child_below rows lawful sound l.e (depth_of rows l.e) (omega arith) reads n matrix is in
        record {
          first = on_level (row.Instance n matrix) l.index is ∙ ap (λ k. flat_map f (drop k (n ∷ []))) none ∙ ap (λ s. uses (solid_of rows n) s ++ []) (unmoved rows l 0 refl)
              ∙ ap (λ us. uses (solid_of rows n) (spans_through (chain_of rows 0) (spans_of l.at)) ++ us) (sym (on_level (row.Instance n matrix) 1 is));
          less = less_deep n below;
          reads = below.reads;
          weighs = subst (λ w. 1 ≤ w) (row_weighs rows lawful sound l.e (row.Instance n matrix) is) heavy;
        }

    pub child_ended : (n matrix : ℕ) → row_at rows l.e ≡ row.Instance n matrix → 0 < l.index → level_uses rows l ≡ []
    child_ended n matrix is past =
        on_level (row.Instance n matrix) l.index is ∙ after_child (operand_uses (solid_of rows) (spans_of l.at)) l.index n past

  -- ---- all uses of an entity
  tree_opened : (e : ℕ) (items : List Item) (matrix : ℕ) → row_at rows e ≡ row.Tree items matrix → IsOpenedBy rows e matrix
  tree_opened e items matrix is s =
      let lawfully = subst IsLawfulRow is (lawful-row rows e lawful) in
      let back = spans_through (chain_of rows matrix) s in
      row_uses rows e (row.Tree items matrix) s sound is
      ∙ items_uses (solid_of rows) items back lawfully.2
      ∙ sym (ap (λ r. uses_from rows r 0 back) is)

  assembly_opened : (e : ℕ) (items : List Placed) (matrix : ℕ) → row_at rows e ≡ row.Assembly items matrix → IsOpenedBy rows e matrix
  assembly_opened e items matrix is s =
      let back = spans_through (chain_of rows matrix) s in
      row_uses rows e (row.Assembly items matrix) s sound is
      ∙ united_uses (solid_of rows) (chain_of rows) items back
      ∙ sym (ap (λ r. uses_from rows r 0 back) is)

  instance_opened : (e n matrix : ℕ) → row_at rows e ≡ row.Instance n matrix → IsOpenedBy rows e matrix
  instance_opened e n matrix is s =
      let back = spans_through (chain_of rows matrix) s in
      row_uses rows e (row.Instance n matrix) s sound is
      ∙ sym (append-nil (uses (solid_of rows n) back))
      ∙ sym (ap (λ r. uses_from rows r 0 back) is)

  -- what is no solid and isn't unread weighs nothing
  weightless : (e : ℕ) (r : Row) → row_at rows e ≡ r → row_weight (weight_of rows) r ≡ 0 → 1 ≤ weight_of rows e → ⊥
  weightless e r is none weighs = let weight = row_weighs rows lawful sound e r is in omega (arith, weight, none, weighs)

  pub own_uses : (e : ℕ) (r : Row) → ((k : ℕ) → ¬ ReachesOpaque rows e k) → 1 ≤ weight_of rows e → row_at rows e ≡ r → MatchOption (own_matrix r) (IsUsedItself rows e) (IsOpenedBy rows e)
  own_uses e row.Null reads weighs is = absurd (weightless e row.Null is refl weighs)
  own_uses e (row.Opaque kind form matrix text) reads weighs is = absurd (reads e (here, rw is tt))
  own_uses e (row.Matrix form affine next) reads weighs is = absurd (weightless e (row.Matrix form affine next) is refl weighs)
  own_uses e (row.Prim p matrix) reads weighs is = λ s. row_uses rows e (row.Prim p matrix) s sound is
  own_uses e (row.Tree items matrix) reads weighs is = tree_opened e items matrix is
  own_uses e (row.Assembly items matrix) reads weighs is = assembly_opened e items matrix is
  own_uses e (row.Instance n matrix) reads weighs is = instance_opened e n matrix is
