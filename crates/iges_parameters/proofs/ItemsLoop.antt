-- Items of a tree read one after the other, as a loop does.
use Rattle.std.proofs.Common.{◌≡◌, ◌≢◌, ℕ, suc, ◌+◌, ◌-◌, ◌<◌, ◌≤◌, List, [], ◌∷◌, ◌++◌, length, false, ◌==◌, Result, Ok, Err, refl, sym, ◌∙◌, arith}
use Rattle.solid_base.specs.declared.solids.Item.{Item}
use Rattle.iges_parameters.specs.declared.faults.RowFault.{RowFault}
use Rattle.iges_parameters.specs.declared.faults.RowFault.TheVariants as fault
use Rattle.solid_base.specs.Outcomes.{◌>>=◌}
use Rattle.iges_parameters.specs.Rules.{Place}
use Rattle.boolean_tree.specs.Spelling.{trees_of_items}
use Rattle.iges_parameters.specs.Lists.{item_at, items_from}

-- one item is taken
one_taken : (count at : ℕ) (before : List Item) (p : Place) → at < count → items_from (count - at) before p ≡ (item_at before p >>= λ i. items_from (count - (at + 1)) (before ++ i.0 ∷ []) i.1)
unfolding items_from
one_taken count at before p more = let k : count - at ≡ suc (count - (at + 1)) = omega (arith, more) in rw k refl

pub goes_on : (count at : ℕ) (before : List Item) (p q : Place) (i : Item) (total : Result (List Item × Place) RowFault) → at < count → item_at before p ≡ Ok (i, q)
    → items_from (count - at) before p ≡ total → items_from (count - (at + 1)) (before ++ i ∷ []) q ≡ total
goes_on count at before p q i total more h so_far =
    let next : items_from (count - at) before p ≡ items_from (count - (at + 1)) (before ++ i ∷ []) q = one_taken count at before p more ∙ rw h refl in
    sym next ∙ so_far

pub ends : (f : RowFault) (count at : ℕ) (before : List Item) (p : Place) (total : Result (List Item × Place) RowFault) → at < count → item_at before p ≡ Err f
    → items_from (count - at) before p ≡ total → total ≡ Err f
ends f count at before p total more h so_far = sym so_far ∙ one_taken count at before p more ∙ rw h refl

pub is_done : (count at : ℕ) (before : List Item) (p : Place) (total : Result (List Item × Place) RowFault) → count ≤ at → length (trees_of_items before) ≡ 1
    → items_from (count - at) before p ≡ total → total ≡ Ok (before, p)
unfolding items_from
is_done count at before p total all one so_far =
    let k : count - at ≡ 0 = omega (arith, all) in
    let e : items_from (count - at) before p ≡ Ok (before, p) = rw (k, one) refl in
    sym so_far ∙ e

pub is_left : (count at : ℕ) (before : List Item) (p : Place) (total : Result (List Item × Place) RowFault) → count ≤ at → length (trees_of_items before) ≢ 1
    → items_from (count - at) before p ≡ total → total ≡ Err (fault.BadPostfix 1)
unfolding items_from
is_left count at before p total all other so_far =
    let k : count - at ≡ 0 = omega (arith, all) in
    let t : (length (trees_of_items before) == 1) ≡ false = grind (arith, other) in
    let e : items_from (count - at) before p ≡ Err (fault.BadPostfix 1) = rw (k, t) refl in
    sym so_far ∙ e
