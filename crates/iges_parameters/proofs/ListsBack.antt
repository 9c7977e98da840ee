-- Boolean trees and assemblies that are written read back.
use Rattle.std.proofs.Common.{◌≡◌, ℕ, zero, suc, ◌+◌, ◌<◌, ◌≤◌, List, [], ◌∷◌, ◌++◌, length, map, fold, replicate, Bool, false, cond, nat_lt, ◌==◌, Option, Some, Result, Ok, Err, ℤ, pos, unsigned_abs, refl, sym, ap, subst, ◌∙◌, append_assoc, length-append, arith}
use Rattle.std.specs.List.{AllByRecursion}
use Rattle.std.proofs.lemmas.Bool.Decides.{nat_tests}
use Rattle.std.proofs.lemmas.List.{map-append}
use Rattle.solid_base.specs.declared.entities.Token.{Token}
use Rattle.solid_base.specs.declared.solids.Item.{Item}
use Rattle.solid_base.specs.declared.solids.Item.TheVariants as item
use Rattle.solid_base.specs.declared.solids.Placed.{Placed}
use Rattle.solid_base.specs.Ranges.{IsLawfulItem, IsLawfulPlaced, most_whole}
use Rattle.solid_base.specs.Trees.{Operation, union, intersection, difference, Tree, operand, combination, item_of, post_order, IsPostOrder}
use Rattle.iges_parameters.specs.declared.faults.RowFault.{RowFault}
use Rattle.iges_parameters.specs.declared.faults.RowFault.TheVariants as fault
use Rattle.solid_base.specs.Outcomes.{◌>>=◌}
use Rattle.iges_parameters.specs.Rules.{Place, token_at, numbers_by, has_size, parameter}
use Rattle.iges_parameters.specs.Tables.{list_rules, number, number_or_none}
use Rattle.boolean_tree.specs.Spelling.{with_item, trees_of_items}
use Rattle.boolean_tree.proofs.Spelling.{fold_joined, fold_tree}
use Rattle.iges_parameters.specs.Lists.{count_at, item_with, item_at, items_from, tree_at, placed_all, placed_at, assembly_at}
use Rattle.iges_parameters.specs.Writing.{whole, number_of_item, tokens_by}
use Rattle.iges_parameters.proofs.NumbersBack.{ReadsTo, AreSuited, whole_again, numbers_again}

-- ---- counts
list_suited : (count : ℕ) → 0 < count → count ≤ most_whole → AreSuited list_rules (pos count ∷ []) []
unfolding list_rules has_size
list_suited count some most = (most, (grind (arith, nat_tests), tt))

count_token : (count : ℕ) → tokens_by list_rules (pos count ∷ []) ≡ whole (pos count) ∷ []
unfolding list_rules tokens_by
count_token count = refl

count_again : (count index : ℕ) (fs : List (Option Token)) → 0 < count → count ≤ most_whole → ReadsTo (count_at (record { index = index; fields = Some (whole (pos count)) ∷ fs })) count fs
unfolding count_at
count_again count index fs some most =
    let (after, more) = numbers_again list_rules (pos count ∷ []) [] index fs (list_suited count some most) in
    let fields : map Some (tokens_by list_rules (pos count ∷ [])) ++ fs ≡ Some (whole (pos count)) ∷ fs = ap (λ (ts : List Token). map Some ts ++ fs) (count_token count) in (
      after,
      ap (λ (xs : List (Option Token)). numbers_by list_rules (record { index = index; fields = xs }) >>= λ ns. Ok (unsigned_abs (parameter ns.0 1), ns.1)) (sym fields)
          ∙ ap (λ (r : Result (List ℤ × Place) RowFault). r >>= λ ns. Ok (unsigned_abs (parameter ns.0 1), ns.1)) more,
    )

-- ---- Boolean trees
trees_after : (items : List Item) (t : Tree) → trees_of_items (items ++ post_order t) ≡ t ∷ trees_of_items items
unfolding trees_of_items
trees_after items t = fold_joined items (post_order t) [] ∙ fold_tree t (fold with_item [] items)

abbrev item_token : Item → Token
item_token i = whole (number_of_item i)

pub item_number : (i : Item) → IsLawfulItem i → unsigned_abs (number_of_item i) ≤ most_whole
item_number (item.Operand zero) h = omega arith
item_number (item.Operand (suc entity)) h = h.1
item_number item.Join h = omega arith
item_number item.Meet h = omega arith
item_number item.Less h = omega arith

-- before an operation two trees stand at least
abbrev HasOperands : List Item → Item → Type 0
HasOperands before (item.Operand entity) = Unit {0}
HasOperands before item.Join = 2 ≤ length (trees_of_items before)
HasOperands before item.Meet = 2 ≤ length (trees_of_items before)
HasOperands before item.Less = 2 ≤ length (trees_of_items before)

enough : (n : ℕ) → 2 ≤ n → nat_lt n 2 ≡ false
enough n h = grind (arith, nat_tests)

item_known : (index : ℕ) (before : List Item) (i : Item) → IsLawfulItem i → HasOperands before i → item_with index before (number_of_item i) ≡ Ok i
unfolding item_with
item_known index before (item.Operand zero) h two = absurd (let some = h.0 in omega arith)
item_known index before (item.Operand (suc entity)) h two = let size : entity + 1 ≡ suc entity = omega arith in ap (λ (n : ℕ). Ok (item.Operand n)) size
item_known index before item.Join h two = ap (λ (b : Bool). cond b (Err (fault.BadPostfix index)) (Ok item.Join)) (enough (length (trees_of_items before)) two)
item_known index before item.Meet h two = ap (λ (b : Bool). cond b (Err (fault.BadPostfix index)) (Ok item.Meet)) (enough (length (trees_of_items before)) two)
item_known index before item.Less h two = ap (λ (b : Bool). cond b (Err (fault.BadPostfix index)) (Ok item.Less)) (enough (length (trees_of_items before)) two)

item_again : (index : ℕ) (before : List Item) (i : Item) (fs : List (Option Token)) → IsLawfulItem i → HasOperands before i
    → item_at before (record { index = index; fields = Some (item_token i) ∷ fs }) ≡ Ok (i, record { index = index + 1; fields = fs })
unfolding item_at token_at
item_again index before i fs h two =
    let place : Place = record { index = index + 1; fields = fs } in
    ap (λ (r : Result ℤ RowFault). r >>= λ n. item_with index before n >>= λ x. Ok (x, place)) (whole_again index (number_of_item i) (item_number i h))
    ∙ ap (λ (r : Result Item RowFault). r >>= λ x. Ok (x, place)) (item_known index before i h two)

abbrev places : ℕ → List Item → List (Option Token) → Place
places index items fs = record { index = index; fields = map Some (map item_token items) ++ fs }

-- one item is read, and the others from there on
item_step : (more index : ℕ) (before : List Item) (i : Item) (fs : List (Option Token)) → IsLawfulItem i → HasOperands before i
    → items_from (suc more) before (record { index = index; fields = Some (item_token i) ∷ fs }) ≡ items_from more (before ++ i ∷ []) (record { index = index + 1; fields = fs })
unfolding items_from
item_step more index before i fs h two = ap (λ (r : Result (Item × Place) RowFault). r >>= λ x. items_from more (before ++ x.0 ∷ []) x.1) (item_again index before i fs h two)

operands_of : (o : Operation) (before : List Item) → 2 ≤ length (trees_of_items before) → HasOperands before (item_of o)
operands_of union before h = h
operands_of intersection before h = h
operands_of difference before h = h

lawful_of : (o : Operation) → IsLawfulItem (item_of o)
lawful_of union = tt
lawful_of intersection = tt
lawful_of difference = tt

all_front : (xs ys : List Item) → AllByRecursion IsLawfulItem (xs ++ ys) → AllByRecursion IsLawfulItem xs
all_front [] ys h = tt
all_front (x ∷ xs) ys h = (h.0, all_front xs ys h.1)

all_back : (xs ys : List Item) → AllByRecursion IsLawfulItem (xs ++ ys) → AllByRecursion IsLawfulItem ys
all_back [] ys h = h
all_back (x ∷ xs) ys h = all_back xs ys h.1

fields_joined : (xs ys : List Item) (fs : List (Option Token)) → map Some (map item_token (xs ++ ys)) ++ fs ≡ map Some (map item_token xs) ++ (map Some (map item_token ys) ++ fs)
fields_joined xs ys fs =
    ap (λ (ts : List Token). map Some ts ++ fs) (map-append item_token xs ys) ∙ ap (λ (os : List (Option Token)). os ++ fs) (map-append Some (map item_token xs) (map item_token ys))
    ∙ append_assoc (map Some (map item_token xs)) (map Some (map item_token ys)) fs

-- the items of a tree are read, and the others from there on
tree_step : (t : Tree) (more index : ℕ) (before : List Item) (fs : List (Option Token)) → AllByRecursion IsLawfulItem (post_order t)
    → (after : ℕ) × (items_from (length (post_order t) + more) before (places index (post_order t) fs) ≡ items_from more (before ++ post_order t) (record { index = after; fields = fs }))
tree_step (operand entity) more index before fs h =
    let count : length (post_order (operand entity)) + more ≡ suc more = omega arith in
    (index + 1, ap (λ (n : ℕ). items_from n before (places index (post_order (operand entity)) fs)) count ∙ item_step more index before (item.Operand entity) fs h.0 tt)
tree_step (combination o a b) more index before fs h =
    let last : List Item = item_of o ∷ [] in
    let right : List Item = post_order b ++ last in
    let nested : (post_order a ++ post_order b) ++ last ≡ post_order a ++ right = append_assoc (post_order a) (post_order b) last in
    let both = all_front (post_order a ++ post_order b) last h in
    let after_left : List (Option Token) = map Some (map item_token right) ++ fs in
    let after_right : List (Option Token) = Some (item_token (item_of o)) ∷ fs in
    let count : length (post_order a ++ right) + more ≡ length (post_order a) + (length (post_order b) + suc more) = omega (arith, length-append (post_order a) right, length-append (post_order b) last) in
    let (i, left_read) = tree_step a (length (post_order b) + suc more) index before after_left (all_front (post_order a) (post_order b) both) in
    let (j, right_read) = tree_step b (suc more) i (before ++ post_order a) after_right (all_back (post_order a) (post_order b) both) in
    let all : List Item = (before ++ post_order a) ++ post_order b in
    let trees : trees_of_items all ≡ b ∷ a ∷ trees_of_items before = trees_after (before ++ post_order a) b ∙ ap (λ (ts : List Tree). b ∷ ts) (trees_after before a) in
    let two : 2 ≤ length (trees_of_items all) = subst (λ (ts : List Tree). 2 ≤ length ts) (sym trees) (let n : 2 ≤ length (b ∷ a ∷ trees_of_items before) = omega arith in n) in
    let glue : all ++ last ≡ before ++ (post_order a ++ right) = append_assoc (before ++ post_order a) (post_order b) last ∙ append_assoc before (post_order a) right in (
      j + 1,
      ap (λ (xs : List Item). items_from (length xs + more) before (places index xs fs)) nested
          ∙ ap (λ (n : ℕ). items_from n before (places index (post_order a ++ right) fs)) count
          ∙ ap (λ (os : List (Option Token)). items_from (length (post_order a) + (length (post_order b) + suc more)) before (record { index = index; fields = os })) (fields_joined (post_order a) right fs)
          ∙ left_read
          ∙ ap (λ (os : List (Option Token)). items_from (length (post_order b) + suc more) (before ++ post_order a) (record { index = i; fields = os })) (fields_joined (post_order b) last fs)
          ∙ right_read
          ∙ item_step more j all (item_of o) fs (lawful_of o) (operands_of o all two)
          ∙ ap (λ (xs : List Item). items_from more xs (record { index = j + 1; fields = fs })) (glue ∙ ap (λ (xs : List Item). before ++ xs) (sym nested)),
    )

items_done : (items : List Item) (p : Place) → length (trees_of_items items) ≡ 1 → items_from 0 items p ≡ Ok (items, p)
unfolding items_from
items_done items p one = ap (λ (n : ℕ). cond (n == 1) (Ok (items, p)) (Err (fault.BadPostfix 1))) one

no_trees : length (trees_of_items []) ≡ 0
unfolding trees_of_items
no_trees = refl

one_tree : (t : Tree) → length (trees_of_items (post_order t)) ≡ 1
one_tree t = ap (λ (ts : List Tree). length ts) (trees_after [] t) ∙ (let n : length (t ∷ trees_of_items []) ≡ 1 = omega (arith, no_trees) in n)

pub some_items : (t : Tree) → 0 < length (post_order t)
some_items (operand entity) = omega arith
some_items (combination o a b) = let n = length-append (post_order a ++ post_order b) (item_of o ∷ []) in omega (arith, n)

pub tree_again : (items : List Item) (index : ℕ) (fs : List (Option Token)) → length items ≤ most_whole → AllByRecursion IsLawfulItem items → IsPostOrder items
    → ReadsTo (tree_at (record { index = index; fields = Some (whole (pos (length items))) ∷ (map Some (map item_token items) ++ fs) })) items fs
unfolding tree_at
tree_again items index fs most lawful tree =
    let t = tree.0 in
    let is = tree.1 in
    let some : 0 < length items = subst (λ (xs : List Item). 0 < length xs) (sym is) (some_items t) in
    let (i, counted) = count_again (length items) index (map Some (map item_token items) ++ fs) some most in
    let (j, read) = tree_step t 0 i [] fs (subst (λ (xs : List Item). AllByRecursion IsLawfulItem xs) is lawful) in
    let count : length (post_order t) + 0 ≡ length (post_order t) = omega arith in
    let place : Place = record { index = j; fields = fs } in (
      j,
      ap (λ (r : Result (ℕ × Place) RowFault). r >>= λ n. items_from n.0 [] n.1) counted
          ∙ ap (λ (xs : List Item). items_from (length xs) [] (places i xs fs)) is
          ∙ ap (λ (n : ℕ). items_from n [] (places i (post_order t) fs)) (sym count)
          ∙ read ∙ items_done (post_order t) place (one_tree t) ∙ ap (λ (xs : List Item). Ok (xs, place)) (sym is),
    )

-- ---- assemblies
abbrev item_numbers : List Placed → List ℤ
item_numbers items = map (λ p. pos p.item) items

abbrev matrix_numbers : List Placed → List ℤ
matrix_numbers items = map (λ p. pos p.matrix) items

items_suited : (items : List Placed) (before : List ℤ) → AllByRecursion IsLawfulPlaced items → AreSuited (replicate (length items) number) (item_numbers items) before
unfolding has_size
items_suited [] before h = tt
items_suited (p ∷ items) before h = (h.0.0, (refl, items_suited items (before ++ pos p.item ∷ []) h.1))

matrices_suited : (items : List Placed) (before : List ℤ) → AllByRecursion IsLawfulPlaced items → AreSuited (replicate (length items) number_or_none) (matrix_numbers items) before
unfolding has_size
matrices_suited [] before h = tt
matrices_suited (p ∷ items) before h = (h.0.1, (refl, matrices_suited items (before ++ pos p.matrix ∷ []) h.1))

item_tokens : (items : List Placed) → tokens_by (replicate (length items) number) (item_numbers items) ≡ map (λ p. whole (pos p.item)) items
unfolding tokens_by
item_tokens [] = refl
item_tokens (p ∷ items) = ap (λ (ts : List Token). whole (pos p.item) ∷ ts) (item_tokens items)

matrix_tokens : (items : List Placed) → tokens_by (replicate (length items) number_or_none) (matrix_numbers items) ≡ map (λ p. whole (pos p.matrix)) items
unfolding tokens_by
matrix_tokens [] = refl
matrix_tokens (p ∷ items) = ap (λ (ts : List Token). whole (pos p.matrix) ∷ ts) (matrix_tokens items)

placed_again : (items : List Placed) → placed_all (item_numbers items) (matrix_numbers items) ≡ items
placed_again [] = refl
placed_again (p ∷ items) = ap (λ (ps : List Placed). p ∷ ps) (placed_again items)

pub assembly_again : (items : List Placed) (index : ℕ) (fs : List (Option Token)) → 0 < length items → length items ≤ most_whole → AllByRecursion IsLawfulPlaced items
    → ReadsTo (assembly_at (record { index = index; fields = Some (whole (pos (length items))) ∷ (map Some (map (λ p. whole (pos p.item)) items ++ map (λ p. whole (pos p.matrix)) items) ++ fs) })) items fs
unfolding assembly_at placed_at
assembly_again items index fs some most lawful =
    let n = length items in
    let es : List Token = map (λ p. whole (pos p.item)) items in
    let ms : List Token = map (λ p. whole (pos p.matrix)) items in
    let after : List (Option Token) = map Some ms ++ fs in
    let cut : map Some (es ++ ms) ++ fs ≡ map Some es ++ after = ap (λ (os : List (Option Token)). os ++ fs) (map-append Some es ms) ∙ append_assoc (map Some es) (map Some ms) fs in
    let (i, counted) = count_again n index (map Some (es ++ ms) ++ fs) some most in
    let (j, entities) = numbers_again (replicate n number) (item_numbers items) [] i after (items_suited items [] lawful) in
    let (k, matrices) = numbers_again (replicate n number_or_none) (matrix_numbers items) [] j fs (matrices_suited items [] lawful) in
    let place : Place = record { index = k; fields = fs } in
    let more : List ℤ → Place → Result (List Placed × Place) RowFault = λ xs p. numbers_by (replicate n number_or_none) p >>= λ ys. Ok (placed_all xs ys.0, ys.1) in (
      k,
      ap (λ (r : Result (ℕ × Place) RowFault). r >>= λ m. placed_at m.0 m.1) counted
          ∙ ap (λ (os : List (Option Token)). numbers_by (replicate n number) (record { index = i; fields = os }) >>= λ xs. more xs.0 xs.1) (cut ∙ ap (λ (ts : List Token). map Some ts ++ after) (sym (item_tokens items)))
          ∙ ap (λ (r : Result (List ℤ × Place) RowFault). r >>= λ xs. more xs.0 xs.1) entities
          ∙ ap (λ (ts : List Token). more (item_numbers items) (record { index = j; fields = map Some ts ++ fs })) (sym (matrix_tokens items))
          ∙ ap (λ (r : Result (List ℤ × Place) RowFault). r >>= λ ys. Ok (placed_all (item_numbers items) ys.0, ys.1)) matrices
          ∙ ap (λ (ps : List Placed). Ok (ps, place)) (placed_again items),
    )
