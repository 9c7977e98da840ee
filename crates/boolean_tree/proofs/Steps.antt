-- Items read so far that are whole trees, and what the next item makes of them.
use Rattle.std.proofs.Common.{◌≡◌, ◌≢◌, ◌⊎◌, inl, inr, ℕ, suc, ◌+◌, ◌-◌, ◌<◌, ◌≤◌, List, [], ◌∷◌, ◌++◌, length, take, drop, get_or, reverse, refl, sym, ap, ◌∙◌, add-one, append_assoc, arith, flat_map}
use Rattle.std.proofs.Math.Seq.{take-suc, drop-cons}
use Rattle.std.proofs.lemmas.Grind.{flat_map-append}
use Rattle.std.proofs.lemmas.List.{append-nil, reverse-append, length-reverse, take_all, take-append-drop, length-take-le}
use Rattle.solid_base.specs.declared.solids.Item.{Item}
use Rattle.solid_base.specs.declared.solids.Item.TheVariants as item
use Rattle.solid_base.specs.Trees.{Operation, union, intersection, difference, Tree, operand, combination, item_of, post_order, IsPostOrder}
use Rattle.boolean_tree.specs.Faults.{LacksOperands, LeavesOthers}

-- the first items, so many, are so many whole trees, of which the last one comes first here
pub record AreTrees (items : List Item) (at count : ℕ) : Type 0 where
  pub trees : List Tree
  pub number : length trees ≡ count
  pub spelt : take at items ≡ flat_map post_order (reverse trees)

-- a tree more
one_more : (t : Tree) (ts : List Tree) → flat_map post_order (reverse (t ∷ ts)) ≡ flat_map post_order (reverse ts) ++ post_order t
one_more t ts =
    let last : reverse (t ∷ ts) ≡ reverse ts ++ t ∷ [] = reverse-append (t ∷ []) ts in
    ap (flat_map post_order) last ∙ flat_map-append post_order (reverse ts) (t ∷ []) ∙ ap (λ items. flat_map post_order (reverse ts) ++ items) (append-nil (post_order t))

-- before the first item stands no tree
pub no_items : (items : List Item) → AreTrees items 0 0
no_items items = record { trees = []; number = refl; spelt = refl }

-- the first items with the next one
next : (items : List Item) (at : ℕ) (d : Item) (i : Item) → at < length items → get_or items at d ≡ i → take (at + 1) items ≡ take at items ++ i ∷ []
next items at d i room is = rw add-one (take-suc items at d room ∙ ap (λ x. take at items ++ x ∷ []) is)

-- an operand is a tree more
pub operand_next : (items : List Item) (at count : ℕ) (d : Item) (e : ℕ) → at < length items → get_or items at d ≡ item.Operand e → AreTrees items at count → AreTrees items (at + 1) (count + 1)
operand_next items at count d e room is h = record {
  trees = operand e ∷ h.trees;
  number = omega (arith, h.number);
  spelt = next items at d (item.Operand e) room is ∙ ap (λ front. front ++ item.Operand e ∷ []) h.spelt ∙ sym (one_more (operand e) h.trees);
}

-- the last two trees and an operation are one tree
combined : (o : Operation) (b a : Tree) (ts : List Tree) → flat_map post_order (reverse (b ∷ a ∷ ts)) ++ item_of o ∷ [] ≡ flat_map post_order (reverse (combination o a b ∷ ts))
combined o b a ts =
    let front = flat_map post_order (reverse ts) in
    let two : flat_map post_order (reverse (b ∷ a ∷ ts)) ≡ (front ++ post_order a) ++ post_order b = one_more b (a ∷ ts) ∙ ap (λ items. items ++ post_order b) (one_more a ts) in
    let glue : ((front ++ post_order a) ++ post_order b) ++ item_of o ∷ [] ≡ front ++ (post_order a ++ post_order b ++ item_of o ∷ []) = simp append_assoc in
    ap (λ items. items ++ item_of o ∷ []) two ∙ glue ∙ sym (one_more (combination o a b) ts)

-- two trees or more, and an operation after them
operation_on : (items : List Item) (at count : ℕ) (o : Operation) (ts : List Tree) → take (at + 1) items ≡ flat_map post_order (reverse ts) ++ item_of o ∷ [] → length ts ≡ count → 2 ≤ count → AreTrees items (at + 1) (count - 1)
operation_on items at count o [] spelt number two = absurd (omega (arith, number, two))
operation_on items at count o (b ∷ []) spelt number two = absurd (omega (arith, number, two))
operation_on items at count o (b ∷ a ∷ ts) spelt number two = record {
  trees = combination o a b ∷ ts;
  number = omega (arith, number, two);
  spelt = spelt ∙ combined o b a ts;
}

-- an item that is no operand is an operation
pub operation_of : (i : Item) → (i ≡ item.Join) ⊎ ((i ≡ item.Meet) ⊎ (i ≡ item.Less)) → (o : Operation) × (i ≡ item_of o)
operation_of i (inl e) = (union, e)
operation_of i (inr (inl e)) = (intersection, e)
operation_of i (inr (inr e)) = (difference, e)

pub not_operand : (i : Item) → ((e : ℕ) → i ≡ item.Operand e → ⊥) → (o : Operation) × (i ≡ item_of o)
not_operand (item.Operand e) h = absurd (h e refl)
not_operand item.Join h = (union, refl)
not_operand item.Meet h = (intersection, refl)
not_operand item.Less h = (difference, refl)

-- an operation leaves one tree in place of two
pub operation_next : (items : List Item) (at count : ℕ) (d : Item) (o : Operation) → at < length items → get_or items at d ≡ item_of o → 2 ≤ count → AreTrees items at count → AreTrees items (at + 1) (count - 1)
operation_next items at count d o room is two h =
    operation_on items at count o h.trees (next items at d (item_of o) room is ∙ ap (λ front. front ++ item_of o ∷ []) h.spelt) h.number two

-- an operation with fewer than two trees before it
pub lacks : (items : List Item) (at count : ℕ) (d : Item) (o : Operation) → at < length items → get_or items at d ≡ item_of o → count < 2 → AreTrees items at count → LacksOperands (at + 2) items
lacks items at count d o room is few h =
    let cut : items ≡ take at items ++ item_of o ∷ drop (at + 1) items =
    rw add-one (sym (take-append-drop at items) ∙ ap (λ rest. take at items ++ rest) (drop-cons items at d room ∙ ap (λ i. i ∷ drop (suc at) items) is)) in
    let long : length (flat_map post_order (reverse h.trees)) ≡ at = rw (sym h.spelt) (length-take-le at items (omega (arith, room))) in
    record {
      trees = reverse h.trees;
      operation = o;
      rest = drop (at + 1) items;
      few = omega (arith, few, h.number, length-reverse h.trees);
      spelt = cut ∙ ap (λ front. front ++ item_of o ∷ drop (at + 1) items) h.spelt;
      place = omega (arith, long);
    }

-- after the last item the trees are all of the list
all_spelt : (items : List Item) (at count : ℕ) → length items ≤ at → (h : AreTrees items at count) → items ≡ flat_map post_order (reverse h.trees)
all_spelt items at count done h = sym (take_all at items done) ∙ h.spelt

only_tree : (items : List Item) (ts : List Tree) → items ≡ flat_map post_order (reverse ts) → length ts ≡ 1 → IsPostOrder items
only_tree items [] spelt one = absurd (omega (arith, one))
only_tree items (t ∷ []) spelt one = (t, spelt ∙ append-nil (post_order t))
only_tree items (t ∷ u ∷ ts) spelt one = absurd (omega (arith, one))

-- one tree at the end is the list's
pub one_left : (items : List Item) (at count : ℕ) → length items ≤ at → count ≡ 1 → AreTrees items at count → IsPostOrder items
one_left items at count done one h = only_tree items h.trees (all_spelt items at count done h) (h.number ∙ one)

-- none or several trees at the end
pub others_left : (items : List Item) (at count : ℕ) → length items ≤ at → count ≢ 1 → AreTrees items at count → LeavesOthers items
others_left items at count done other h = record {
  trees = reverse h.trees;
  not_one = λ e. other (sym h.number ∙ sym (length-reverse h.trees) ∙ e);
  spelt = all_spelt items at count done h;
}
