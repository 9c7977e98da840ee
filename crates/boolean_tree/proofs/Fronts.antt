-- Which items a tree can begin with.
use Rattle.std.proofs.Common.{◌≡◌, ℕ, ◌-◌, List, [], ◌∷◌, ◌++◌, length, take, Ok, Err, refl, sym, ap, ◌∙◌, append_assoc, length-append, arith, flat_map}
use Rattle.std.proofs.Math.Seq.{take-append_seam}
use Rattle.std.proofs.lemmas.List.{append-nil}
use Rattle.solid_base.specs.declared.solids.Item.{Item}
use Rattle.solid_base.specs.declared.solids.Item.TheVariants as item
use Rattle.solid_base.specs.Trees.{union, Tree, operand, combination, item_of, post_order, IsPostOrder, IsFront}
use Rattle.boolean_tree.specs.Faults.{LacksOperands, LeavesOthers}
use Rattle.boolean_tree.proofs.Readings.{reading, reading-post_order, reading-short, reading-others}

-- what is read as a tree is read as no fault
not_both : (items : List Item) (n : ℕ) → reading items [] 2 ≡ Err n → ¬ IsPostOrder items
not_both items n fault (t, e) = let both : Ok t ≡ Err n = sym (reading-post_order t) ∙ ap (λ xs. reading xs [] 2) (sym e) ∙ fault in cc

-- the union of a tree with those after it
abbrev union_of : Tree → List Tree → Tree
union_of t [] = t
union_of t (u ∷ us) = combination union t (union_of u us)

-- a tree begins with whole trees: their union does
trees_begin : (t : Tree) (us : List Tree) → (rest : List Item) × (flat_map post_order (t ∷ us) ++ rest ≡ post_order (union_of t us))
trees_begin t [] = ([], append-nil (flat_map post_order (t ∷ [])) ∙ append-nil (post_order t))
trees_begin t (u ∷ us) =
    let more = trees_begin u us in
    let others = flat_map post_order (u ∷ us) in
    let glue : (post_order t ++ others) ++ (more.0 ++ item.Join ∷ []) ≡ post_order t ++ (others ++ more.0) ++ item.Join ∷ [] = simp append_assoc in
    (more.0 ++ item.Join ∷ [], glue ∙ ap (λ items. post_order t ++ items ++ item.Join ∷ []) more.1)

-- a tree begins with any whole trees, one after the other
trees_are_front : (ts : List Tree) → IsFront (flat_map post_order ts)
trees_are_front [] = (item.Operand 0 ∷ [], (operand 0, refl))
trees_are_front (t ∷ us) = let more = trees_begin t us in (more.0, (union_of t us, more.1))

-- a tree begins with the items before an operation that lacks operands
pub before_is_front : (n : ℕ) (items : List Item) → LacksOperands n items → IsFront (take (n - 2) items)
before_is_front n items h =
    let trees = flat_map post_order h.trees in
    let long : n - 2 ≡ length trees = omega (arith, h.place) in
    let cut : take (n - 2) items ≡ trees = rw (long, h.spelt) (take-append_seam trees (item_of h.operation ∷ h.rest)) in
    rw cut (trees_are_front h.trees)

-- no tree begins with those and the operation
pub with_it_is_none : (n : ℕ) (items : List Item) → LacksOperands n items → ¬ IsFront (take (n - 1) items)
with_it_is_none n items h (rest, tree) =
    let trees = flat_map post_order h.trees in
    let front : List Item = trees ++ item_of h.operation ∷ [] in
    let long : n - 1 ≡ length front = omega (arith, h.place, length-append trees (item_of h.operation ∷ [])) in
    let whole : items ≡ front ++ h.rest = h.spelt ∙ sym (append_assoc trees (item_of h.operation ∷ []) h.rest) in
    let cut : take (n - 1) items ≡ front = rw (long, whole) (take-append_seam front h.rest) in
    let other : LacksOperands n (take (n - 1) items ++ rest) = record {
      trees = h.trees;
      operation = h.operation;
      rest = rest;
      few = h.few;
      spelt = ap (λ xs. xs ++ rest) cut ∙ append_assoc trees (item_of h.operation ∷ []) rest;
      place = h.place;
    } in
    not_both (take (n - 1) items ++ rest) n (reading-short n (take (n - 1) items ++ rest) other) tree

pub others_are_front : (items : List Item) → LeavesOthers items → IsFront items
others_are_front items h = rw h.spelt (trees_are_front h.trees)

pub others_are_no_tree : (items : List Item) → LeavesOthers items → ¬ IsPostOrder items
others_are_no_tree items h tree = not_both items 1 (reading-others items h) tree
