-- Boolean trees and assemblies: records whose first parameter says how many items follow.
use Rattle.std.specs.Prelude.{ℕ, zero, suc, ◌+◌, List, [], ◌∷◌, ◌++◌, cond, ◌==◌, nat_lt, length}
use Rattle.std.specs.Prelude.{replicate, Result, Ok, Err, ℤ, pos, negsuc, unsigned_abs}
use Rattle.solid_base.specs.declared.solids.Item.{Item}
use Rattle.solid_base.specs.declared.solids.Item.TheVariants as item
use Rattle.solid_base.specs.declared.solids.Placed.{Placed}
use Rattle.boolean_tree.specs.Spelling.{trees_of_items}
use Rattle.iges_parameters.specs.declared.faults.RowFault.{RowFault}
use Rattle.iges_parameters.specs.declared.faults.RowFault.TheVariants as fault
use Rattle.solid_base.specs.Outcomes.{◌>>=◌}
use Rattle.iges_parameters.specs.Rules.{Place, token_at, whole_of, numbers_by, parameter}
use Rattle.iges_parameters.specs.Tables.{list_rules, number, number_or_none}

-- how many items a record says, and the place after
unfoldable pub count_at : Place → Result (ℕ × Place) RowFault
count_at p = numbers_by list_rules p >>= λ ns. Ok (unsigned_abs (parameter ns.0 1), ns.1)

-- ---- Boolean trees (IGES 5.3, type 180)

-- the operation with this number: 1 is the union, 2 the intersection, 3 the difference
abbrev pub operation_with : ℕ → ℕ → Result Item RowFault
operation_with index n =
    cond (n == 1) (Ok item.Join)
    (cond (n == 2) (Ok item.Meet) (cond (n == 3) (Ok item.Less) (Err (fault.BadPostfix index))))

-- the item with this number after these: below 0 it is an operand, else an operation, before which
-- two trees stand at least
unfoldable pub item_with : ℕ → List Item → ℤ → Result Item RowFault
item_with index before (negsuc n) = Ok (item.Operand (n + 1))
item_with index before (pos n) =
    cond (nat_lt (length (trees_of_items before)) 2) (Err (fault.BadPostfix index))
    (operation_with index n)

-- the next item after these, and the place after it
unfoldable pub item_at : List Item → Place → Result (Item × Place) RowFault
item_at before p =
    token_at p >>= λ t. whole_of p.index t.0 >>= λ n. item_with p.index before n >>= λ i.
    Ok (i, t.1)

-- so many items more after these, and the place after them; after the last one tree is left, else
-- the number of items is at fault
unfoldable pub items_from : ℕ → List Item → Place → Result (List Item × Place) RowFault
items_from zero before p =
    cond (length (trees_of_items before) == 1) (Ok (before, p)) (Err (fault.BadPostfix 1))
items_from (suc n) before p = item_at before p >>= λ i. items_from n (before ++ i.0 ∷ []) i.1

-- the items of a tree, and the place after it
unfoldable pub tree_at : Place → Result (List Item × Place) RowFault
tree_at p = count_at p >>= λ n. items_from n.0 [] n.1

-- ---- assemblies (IGES 5.3, type 184; that the matrices stand after all items is solidd's own)

-- an item and its matrix, by their numbers
abbrev pub placed : ℤ → ℤ → Placed
placed entity matrix = record { item = unsigned_abs entity; matrix = unsigned_abs matrix }

-- items and their matrices, one by one
abbrev pub placed_all : List ℤ → List ℤ → List Placed
placed_all [] matrices = []
placed_all (e ∷ entities) [] = []
placed_all (e ∷ entities) (m ∷ matrices) = placed e m ∷ placed_all entities matrices

-- so many items and then so many matrices, and the place after them
unfoldable pub placed_at : ℕ → Place → Result (List Placed × Place) RowFault
placed_at n p =
    numbers_by (replicate n number) p >>= λ es.
    numbers_by (replicate n number_or_none) es.1 >>= λ ms.
    Ok (placed_all es.0 ms.0, ms.1)

-- the items of an assembly, and the place after it
unfoldable pub assembly_at : Place → Result (List Placed × Place) RowFault
assembly_at p = count_at p >>= λ n. placed_at n.0 n.1
