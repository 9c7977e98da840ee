-- A list read item by item, with the trees at hand: one answer to each list, so what it says of a tree or a fault can't be said of another.
use Rattle.std.proofs.Common.{◌≡◌, ◌≢◌, ◌↔◌, inl, inr, ℕ, ◌+◌, ◌<◌, List, [], ◌∷◌, ◌++◌, length, Option, Some, None, Result, Ok, Err, MatchOption, refl, sym, ap, subst, ◌∙◌, append_assoc, length-append, arith, flat_map}
use Rattle.std.proofs.lemmas.List.{append-nil}
use Rattle.solid_base.specs.declared.solids.Item.{Item}
use Rattle.solid_base.specs.declared.solids.Item.TheVariants as item
use Rattle.solid_base.specs.Trees.{Operation, union, intersection, difference, Tree, operand, combination, item_of, post_order, IsPostOrder}
use Rattle.boolean_tree.specs.Faults.{LacksOperands, LeavesOthers, IsFault}

-- the trees after the last item: one, or a fault at parameter 1
abbrev ending : List Tree → Result Tree ℕ
ending [] = Err 1
ending (t ∷ []) = Ok t
ending (t ∷ u ∷ ts) = Err 1

-- an operation takes the last two trees, or is at fault
abbrev combined : Operation → (List Tree → ℕ → Result Tree ℕ) → List Tree → ℕ → Result Tree ℕ
combined operation go [] index = Err index
combined operation go (b ∷ []) index = Err index
combined operation go (b ∷ a ∷ ts) index = go (combination operation a b ∷ ts) (index + 1)

-- the tree that the items spell, or the parameter at fault, where these trees are at hand, the last one first, and the next item is this parameter
unfoldable pub reading : List Item → List Tree → ℕ → Result Tree ℕ
reading [] ts index = ending ts
reading (item.Operand e ∷ items) ts index = reading items (operand e ∷ ts) (index + 1)
reading (item.Join ∷ items) ts index = combined union (reading items) ts index
reading (item.Meet ∷ items) ts index = combined intersection (reading items) ts index
reading (item.Less ∷ items) ts index = combined difference (reading items) ts index

-- an operation, whichever it is
reading-item_of : (o : Operation) (items : List Item) (ts : List Tree) (index : ℕ) → reading (item_of o ∷ items) ts index ≡ combined o (reading items) ts index
unfolding reading
reading-item_of union items ts index = refl
reading-item_of intersection items ts index = refl
reading-item_of difference items ts index = refl

-- a tree's items leave that tree
reading-tree : (t : Tree) (rest : List Item) (ts : List Tree) (index : ℕ) → reading (post_order t ++ rest) ts index ≡ reading rest (t ∷ ts) (index + length (post_order t))
unfolding reading
reading-tree (operand e) rest ts index = refl
reading-tree (combination o a b) rest ts index =
    let cut : (post_order a ++ post_order b ++ item_of o ∷ []) ++ rest ≡ post_order a ++ (post_order b ++ item_of o ∷ rest) = simp append_assoc in
    let left = reading-tree a (post_order b ++ item_of o ∷ rest) ts index in
    let right = reading-tree b (item_of o ∷ rest) (a ∷ ts) (index + length (post_order a)) in
    let last = reading-item_of o rest (b ∷ a ∷ ts) (index + length (post_order a) + length (post_order b)) in
    let count : index + length (post_order a) + length (post_order b) + 1 ≡ index + length (post_order a ++ post_order b ++ item_of o ∷ []) =
    omega (arith, length-append (post_order a ++ post_order b) (item_of o ∷ []), length-append (post_order a) (post_order b)) in
    ap (λ items. reading items ts index) cut ∙ left ∙ right ∙ last ∙ ap (λ n. reading rest (combination o a b ∷ ts) n) count

-- these trees at hand and then those, one after the other
abbrev pushed : List Tree → List Tree → List Tree
pushed [] ts = ts
pushed (u ∷ us) ts = pushed us (u ∷ ts)

length-pushed : (us ts : List Tree) → length (pushed us ts) ≡ length us + length ts
length-pushed [] ts = omega arith
length-pushed (u ∷ us) ts = omega (arith, length-pushed us (u ∷ ts))

-- the items of trees leave those trees
reading-trees : (us : List Tree) (rest : List Item) (ts : List Tree) (index : ℕ)
    → reading (flat_map post_order us ++ rest) ts index ≡ reading rest (pushed us ts) (index + length (flat_map post_order us))
reading-trees [] rest ts index = ap (λ n. reading rest ts n) (omega arith)
reading-trees (u ∷ us) rest ts index =
    let cut : (post_order u ++ flat_map post_order us) ++ rest ≡ post_order u ++ (flat_map post_order us ++ rest) = append_assoc (post_order u) (flat_map post_order us) rest in
    let one = reading-tree u (flat_map post_order us ++ rest) ts index in
    let more = reading-trees us rest (u ∷ ts) (index + length (post_order u)) in
    let count : index + length (post_order u) + length (flat_map post_order us) ≡ index + length (post_order u ++ flat_map post_order us) = omega (arith, length-append (post_order u) (flat_map post_order us)) in
    ap (λ items. reading items ts index) cut ∙ one ∙ more ∙ ap (λ n. reading rest (pushed us (u ∷ ts)) n) count

-- a tree's own list is read as that tree
pub reading-post_order : (t : Tree) → reading (post_order t) [] 2 ≡ Ok t
unfolding reading
reading-post_order t = ap (λ items. reading items [] 2) (sym (append-nil (post_order t))) ∙ reading-tree t [] [] 2

-- fewer than two trees are too few for an operation
few_trees : (us : List Tree) (o : Operation) (rest : List Item) (index : ℕ) → length us < 2 → combined o (reading rest) (pushed us []) index ≡ Err index
few_trees [] o rest index few = refl
few_trees (t ∷ []) o rest index few = refl
few_trees (t ∷ u ∷ us) o rest index few = absurd (omega (arith, few))

-- an operation that lacks operands is read as a fault at its parameter
pub reading-short : (n : ℕ) (items : List Item) → LacksOperands n items → reading items [] 2 ≡ Err n
reading-short n items h =
    let ts = h.trees in
    let index : ℕ = 2 + length (flat_map post_order ts) in
    let front = reading-trees ts (item_of h.operation ∷ h.rest) [] 2 in
    let last = reading-item_of h.operation h.rest (pushed ts []) index in
    let place : index ≡ n = omega (arith, h.place) in
    ap (λ items. reading items [] 2) h.spelt ∙ front ∙ last ∙ few_trees ts h.operation h.rest index h.few ∙ ap (λ k. Err k) place

-- none or several trees are a fault at the end
not_one_tree : (us : List Tree) → length us ≢ 1 → ending us ≡ Err 1
not_one_tree [] other = refl
not_one_tree (t ∷ []) other = absurd (other refl)
not_one_tree (t ∷ u ∷ us) other = refl

-- none or several whole trees are read as a fault at parameter 1
pub reading-others : (items : List Item) → LeavesOthers items → reading items [] 2 ≡ Err 1
unfolding reading
reading-others items h =
    let ts = h.trees in
    let whole : items ≡ flat_map post_order ts ++ [] = h.spelt ∙ sym (append-nil (flat_map post_order ts)) in
    let all = reading-trees ts [] [] 2 in
    let same : length (pushed ts []) ≡ length ts = omega (arith, length-pushed ts []) in
    ap (λ items. reading items [] 2) whole ∙ all ∙ not_one_tree (pushed ts []) (λ one. h.not_one (sym same ∙ one))

reading-fault : (n : ℕ) (items : List Item) → IsFault n items → reading items [] 2 ≡ Err n
reading-fault n items (inl h) = reading-short n items h
reading-fault n items (inr h) = reading-others items h.1 ∙ ap (λ k. Err k) (sym h.0)

-- the answer that a reading gives
abbrev answer_of : Result Tree ℕ → Option ℕ
answer_of (Ok t) = None
answer_of (Err n) = Some n

answer-tree : (items : List Item) → IsPostOrder items → answer_of (reading items [] 2) ≡ None
answer-tree items (t, e) = ap (λ xs. answer_of (reading xs [] 2)) e ∙ ap (λ r. answer_of r) (reading-post_order t)

answer-fault : (n : ℕ) (items : List Item) → IsFault n items → answer_of (reading items [] 2) ≡ Some n
answer-fault n items h = ap (λ r. answer_of r) (reading-fault n items h)

-- what an answer says of the items
abbrev pub Says : List Item → Option ℕ → Type 0
Says items answer = MatchOption answer (IsPostOrder items) (λ n. IsFault n items)

-- an answer that says what holds is the reading's
said : (items : List Item) (answer : Option ℕ) → Says items answer → answer_of (reading items [] 2) ≡ answer
said items None h = answer-tree items h
said items (Some n) h = answer-fault n items h

-- an answer that says what holds is the only one
pub says_exactly : (items : List Item) (answer : Option ℕ) → Says items answer → ((answer ≡ None) ↔ IsPostOrder items) × ((n : ℕ) → (answer ≡ Some n) ↔ IsFault n items)
says_exactly items answer h =
    let tree : answer ≡ None → IsPostOrder items = λ e. subst (Says items) e h in
    let fault : (n : ℕ) → answer ≡ Some n → IsFault n items = λ n e. subst (Says items) e h in
    ((tree, λ spelt. sym (said items answer h) ∙ answer-tree items spelt), λ n. (fault n, λ broken. sym (said items answer h) ∙ answer-fault n items broken))

-- the tree of a reading, or this one where there is none
abbrev tree_of : Result Tree ℕ → Tree → Tree
tree_of (Ok t) other = t
tree_of (Err n) other = other

-- two trees with one list are one tree
pub one_tree_only : (t u : Tree) → post_order t ≡ post_order u → t ≡ u
one_tree_only t u same =
    let both : Ok t ≡ Ok u = sym (reading-post_order t) ∙ ap (λ items. reading items [] 2) same ∙ reading-post_order u in
    ap (λ r. tree_of r t) both
