-- A stack of verdicts as it stands, item by item.
use Rattle.std.proofs.Common.{◌≡◌, ◌↔◌, ℕ, ◌+◌, ◌≤◌, ◌<◌, inl, inr, List, [], ◌∷◌, ◌++◌, Option, None, Some, IsSome, MatchOption, length, reverse, get_or, drop, subst, refl, sym, ap, ◌∙◌, arith, append_assoc, length-append, append-nil}
use Rattle.std.specs.List.{AllByRecursion}
use Rattle.std.proofs.lemmas.List.{reverse-append, reverse-reverse, drop_more, drop-drop, length-drop}
use Rattle.std.proofs.lemmas.Bool.{cases_lt}
use Rattle.std.proofs.Math.ListN.{drop_of_length-le}
use Rattle.solid_base.specs.declared.classes.Verdict.{Verdict}
use Rattle.solid_base.specs.declared.solids.Item.{Item}
use Rattle.solid_base.specs.declared.solids.Item.TheVariants as item
use Rattle.solid_base.specs.Classes.{IsVerdict}
use Rattle.solid_base.specs.Stack.{Stack}
use Rattle.solid_base.specs.Trees.{Operation, union, intersection, difference, Tree, operand, combination, item_of, post_order}
use Rattle.solid_base.specs.References.{operands_of}
use Rattle.boolean_tree.specs.Stacks.{TakesTwo, StackBecomes}
use Rattle.boolean_tree.specs.Verdicts.{verdict_of, operand_count, first, folded}
use Rattle.boolean_tree.proofs.Counts.{operands_counted}
use Rattle.boolean_tree.proofs.Leaves.{all_joined, all_front, all_rest}

-- ---- ends of lists

reverse-two : (s : List Verdict) (a b : Verdict) → reverse (s ++ a ∷ b ∷ []) ≡ b ∷ a ∷ reverse s
reverse-two s a b = reverse-append s (a ∷ b ∷ [])

-- the last two of two equal lists
pub last_two : (s t : List Verdict) (x y a b : Verdict) → s ++ x ∷ y ∷ [] ≡ t ++ a ∷ b ∷ [] → (s ≡ t) × (x ≡ a) × (y ≡ b)
last_two s t x y a b e =
    let r : y ∷ x ∷ reverse s ≡ b ∷ a ∷ reverse t = sym (reverse-two s x y) ∙ ap reverse e ∙ reverse-two t a b in
    let p : reverse s ≡ reverse t = cc in (sym (reverse-reverse s) ∙ ap reverse p ∙ reverse-reverse t, cc, cc)

-- the last one of two equal lists
pub last_one : (s t : List Verdict) (x y : Verdict) → s ++ x ∷ [] ≡ t ++ y ∷ [] → (s ≡ t) × (x ≡ y)
last_one s t x y e =
    let r : x ∷ reverse s ≡ y ∷ reverse t = sym (reverse-append s (x ∷ [])) ∙ ap reverse e ∙ reverse-append t (y ∷ []) in
    let p : reverse s ≡ reverse t = cc in (sym (reverse-reverse s) ∙ ap reverse p ∙ reverse-reverse t, cc)

-- two taken one by one
pub taken_two : (old middle low : List Verdict) (x y : Verdict) → old ≡ middle ++ y ∷ [] → middle ≡ low ++ x ∷ [] → old ≡ low ++ x ∷ y ∷ []
taken_two old middle low x y one two = one ∙ ap (λ l. l ++ y ∷ []) two ∙ append_assoc low (x ∷ []) (y ∷ [])

-- what is left of a stack of which two were taken and one was put back
pub replaced : (old low new below : List Verdict) (x y r a b v : Verdict) → old ≡ low ++ x ∷ y ∷ [] → new ≡ low ++ r ∷ [] → old ≡ below ++ a ∷ b ∷ [] → (x ≡ a → y ≡ b → r ≡ v) → new ≡ below ++ v ∷ []
replaced old low new below x y r a b v taken put whole is =
    let k = last_two low below x y a b (sym taken ∙ whole) in
    put ∙ ap (λ v. low ++ v ∷ []) (is k.1 k.2) ∙ ap (λ s. s ++ v ∷ []) k.0

-- and each of its verdicts keeps its form
pub replaced_kept : (old low new : List Verdict) (x y r : Verdict) → old ≡ low ++ x ∷ y ∷ [] → new ≡ low ++ r ∷ [] → (IsVerdict x → IsVerdict y → IsVerdict r) → AllByRecursion IsVerdict old → AllByRecursion IsVerdict new
replaced_kept old low new x y r taken put kept all =
    let h = subst (AllByRecursion IsVerdict) taken all in
    let two = all_rest low (x ∷ y ∷ []) h in
    subst (AllByRecursion IsVerdict) (sym put) (all_joined low (r ∷ []) (all_front low (x ∷ y ∷ []) h) (kept two.0 two.1.0, tt))

-- ---- a tree's own list

-- an operation, whichever it is
pub takes_two : (o : Operation) (after : List Verdict) (items : List Item) (leaves stack : List Verdict) → StackBecomes after (item_of o ∷ items) leaves stack → TakesTwo o (StackBecomes after items leaves) stack
takes_two union after items leaves stack h = h
takes_two intersection after items leaves stack h = h
takes_two difference after items leaves stack h = h

becomes_operation : (o : Operation) (after : List Verdict) (items : List Item) (leaves stack : List Verdict) → TakesTwo o (StackBecomes after items leaves) stack → StackBecomes after (item_of o ∷ items) leaves stack
becomes_operation union after items leaves stack h = h
becomes_operation intersection after items leaves stack h = h
becomes_operation difference after items leaves stack h = h

-- an operand pushes the first leaf
becomes_operand : (after : List Verdict) (entity : ℕ) (items : List Item) (leaves stack : List Verdict) → 1 ≤ length leaves → StackBecomes after items (drop 1 leaves) (stack ++ first leaves ∷ []) → StackBecomes after (item.Operand entity ∷ items) leaves stack
becomes_operand after entity items [] stack some h = absurd (omega (arith, some))
becomes_operand after entity items (v ∷ leaves) stack some h = h

-- a tree's list pushes the tree's verdict
becomes_tree : (t : Tree) (after : List Verdict) (items : List Item) (leaves stack : List Verdict) → operand_count t ≤ length leaves
    → StackBecomes after items (drop (operand_count t) leaves) (stack ++ folded t leaves ∷ []) → StackBecomes after (post_order t ++ items) leaves stack
becomes_tree (operand entity) after items leaves stack some h = becomes_operand after entity items leaves stack some h
becomes_tree (combination o a b) after items leaves stack some h =
    let rest = drop (operand_count a) leaves in
    let left = folded a leaves in
    let right = folded b rest in
    let cut : post_order a ++ (post_order b ++ item_of o ∷ items) ≡ (post_order a ++ post_order b ++ item_of o ∷ []) ++ items = simp append_assoc in
    let all : drop (operand_count a + operand_count b) leaves ≡ drop (operand_count b) rest = sym (drop-drop (operand_count b) (operand_count a) leaves) in
    let two : TakesTwo o (StackBecomes after items (drop (operand_count b) rest)) ((stack ++ left ∷ []) ++ right ∷ []) = record {
      below = stack;
      left = left;
      right = right;
      stands = append_assoc stack (left ∷ []) (right ∷ []);
      goes_on = subst (λ l. StackBecomes after items l (stack ++ verdict_of o left right ∷ [])) all h;
    } in
    let last = becomes_operation o after items (drop (operand_count b) rest) ((stack ++ left ∷ []) ++ right ∷ []) two in
    let second = becomes_tree b after (item_of o ∷ items) rest (stack ++ left ∷ []) (omega (arith, some, length-drop (operand_count a) leaves)) last in
    subst (λ l. StackBecomes after l leaves stack) cut (becomes_tree a after (post_order b ++ item_of o ∷ items) leaves stack (omega (arith, some)) second)

-- a tree's list, with a verdict to each operand, adds the tree's verdict and nothing else
pub becomes_alone : (t : Tree) (leaves stack : List Verdict) → length leaves ≡ operand_count t → StackBecomes (stack ++ folded t leaves ∷ []) (post_order t) leaves stack
becomes_alone t leaves stack each =
    let after = stack ++ folded t leaves ∷ [] in
    let none : [] ≡ drop (operand_count t) leaves = sym (drop_of_length-le leaves (omega (arith, each))) in
    let end : StackBecomes after [] (drop (operand_count t) leaves) after = subst (λ l. StackBecomes after [] l after) none refl in
    subst (λ l. StackBecomes after l leaves stack) (append-nil (post_order t)) (becomes_tree t after [] leaves stack (omega (arith, each)) end)

-- ---- one stack alone is left
same_two : (o : Operation) (P Q : List Verdict → Type 0) (after other stack : List Verdict) → ((s : List Verdict) → P s → Q s → after ≡ other) → TakesTwo o P stack → TakesTwo o Q stack → after ≡ other
same_two o P Q after other stack go p q =
    let k = last_two q.below p.below q.left q.right p.left p.right (sym q.stands ∙ p.stands) in
    let v : q.below ++ verdict_of o q.left q.right ∷ [] ≡ p.below ++ verdict_of o p.left p.right ∷ [] =
    ap (λ s. s ++ verdict_of o q.left q.right ∷ []) k.0 ∙ ap (λ a. p.below ++ verdict_of o a q.right ∷ []) k.1 ∙ ap (λ b. p.below ++ verdict_of o p.left b ∷ []) k.2 in
    go (p.below ++ verdict_of o p.left p.right ∷ []) p.goes_on (subst Q v q.goes_on)

same_after : (items : List Item) (after other leaves stack : List Verdict) → StackBecomes after items leaves stack → StackBecomes other items leaves stack → after ≡ other
same_after [] after other [] stack h g = h ∙ sym g
same_after [] after other (v ∷ leaves) stack h g = absurd h
same_after (item.Operand entity ∷ items) after other [] stack h g = absurd h
same_after (item.Operand entity ∷ items) after other (v ∷ leaves) stack h g = same_after items after other leaves (stack ++ v ∷ []) h g
same_after (item.Join ∷ items) after other leaves stack h g = same_two union _ _ after other stack (same_after items after other leaves) h g
same_after (item.Meet ∷ items) after other leaves stack h g = same_two intersection _ _ after other stack (same_after items after other leaves) h g
same_after (item.Less ∷ items) after other leaves stack h g = same_two difference _ _ after other stack (same_after items after other leaves) h g

pub becomes_exactly : (t : Tree) (leaves stack after : List Verdict) → length leaves ≡ operand_count t → StackBecomes after (post_order t) leaves stack ↔ (after ≡ stack ++ folded t leaves ∷ [])
becomes_exactly t leaves stack after each =
    let own = becomes_alone t leaves stack each in
    (λ h. same_after (post_order t) after (stack ++ folded t leaves ∷ []) leaves stack h own, λ is. subst (λ s. StackBecomes s (post_order t) leaves stack) (sym is) own)

-- a verdict more
pub pushed_length : (stack new : List Verdict) (v : Verdict) → new ≡ stack ++ v ∷ [] → length new ≡ length stack + 1
pushed_length stack new v put = ap length put ∙ length-append stack (v ∷ [])

-- ---- for a walk along a list that is at a place: the rest, from here, gives the whole

-- all items of a list add the verdict on the tree that they spell
pub whole : (its items : List Item) (leaves stack : List Verdict) → its ≡ items → length leaves ≡ length (operands_of items) → (t : Tree) → items ≡ post_order t → StackBecomes (stack ++ folded t leaves ∷ []) its leaves stack
whole its items leaves stack same each t is =
    let alone = becomes_alone t leaves stack (each ∙ ap (λ l. length (operands_of l)) is ∙ operands_counted t) in
    subst (λ l. StackBecomes (stack ++ folded t leaves ∷ []) l leaves stack) (sym (same ∙ is)) alone

module _ (items : List Item) (place : ℕ) (d : Item) (inside : place < length items) (after leaves stack : List Verdict) (h : StackBecomes after (drop place items) leaves stack) where
  -- the next item stands first in the rest
  pub at_item : (i : Item) → get_or items place d ≡ i → StackBecomes after (i ∷ drop (place + 1) items) leaves stack
  at_item i is = subst (λ l. StackBecomes after l leaves stack) (drop_more items place d inside ∙ ap (λ x. x ∷ drop (place + 1) items) is) h

  pub at_operation : (o : Operation) → get_or items place d ≡ item_of o → TakesTwo o (StackBecomes after (drop (place + 1) items) leaves) stack
  at_operation o is = takes_two o after (drop (place + 1) items) leaves stack (at_item (item_of o) is)

  -- an operation has two sides
  pub two_there : (o : Operation) → get_or items place d ≡ item_of o → 2 ≤ length stack
  two_there o is = let p = at_operation o is in omega (arith, ap length p.stands, length-append p.below (p.left ∷ p.right ∷ []))

  -- and what it makes of them takes their place
  pub operation_next : (o : Operation) (new : List Verdict) → get_or items place d ≡ item_of o
      → ((below : List Verdict) (a b : Verdict) → stack ≡ below ++ a ∷ b ∷ [] → new ≡ below ++ verdict_of o a b ∷ []) → StackBecomes after (drop (place + 1) items) leaves new
  operation_next o new is taken =
      let p = at_operation o is in subst (StackBecomes after (drop (place + 1) items) leaves) (sym (taken p.below p.left p.right p.stands)) p.goes_on

  -- one verdict stands where two stood
  pub joined_length : (o : Operation) (new : List Verdict) → get_or items place d ≡ item_of o
      → ((below : List Verdict) (a b : Verdict) → stack ≡ below ++ a ∷ b ∷ [] → new ≡ below ++ verdict_of o a b ∷ []) → length new + 1 ≡ length stack
  joined_length o new is taken =
      let p = at_operation o is in
      let v = verdict_of o p.left p.right in
      omega (arith, ap length (taken p.below p.left p.right p.stands), length-append p.below (v ∷ []), ap length p.stands, length-append p.below (p.left ∷ p.right ∷ []))

-- after the last item the stack is what it was to become
pub at_end : (items : List Item) (place : ℕ) (after leaves stack : List Verdict) → length items ≤ place → StackBecomes after (drop place items) leaves stack → after ≡ stack
at_end items place after leaves stack done h = ended leaves (subst (λ l. StackBecomes after l leaves stack) (drop_of_length-le items done) h) where
  ended : (leaves : List Verdict) → StackBecomes after [] leaves stack → after ≡ stack
  ended [] h = h
  ended (v ∷ leaves) h = absurd h

-- an operand has a leaf, where those after so many are left
leaf_first : (after : List Verdict) (entity : ℕ) (rest : List Item) (leaves stack : List Verdict) (next : ℕ) → StackBecomes after (item.Operand entity ∷ rest) (drop next leaves) stack → next < length leaves
leaf_first after entity rest leaves stack next h = elim (cases_lt next (length leaves)) [
  | inl l ↦ l
  | inr g ↦ absurd (subst (λ l. StackBecomes after (item.Operand entity ∷ rest) l stack) (drop_of_length-le leaves g) h)
]

module _ (items : List Item) (place : ℕ) (d : Item) (inside : place < length items) (after leaves stack : List Verdict) (next : ℕ) (h : StackBecomes after (drop place items) (drop next leaves) stack)
    (entity : ℕ) (is : get_or items place d ≡ item.Operand entity) where
  pub leaf_there : next < length leaves
  leaf_there = leaf_first after entity (drop (place + 1) items) leaves stack next (at_item items place d inside after (drop next leaves) stack h (item.Operand entity) is)

  -- and it is pushed
  pub operand_next : (e : Verdict) (new : List Verdict) → new ≡ stack ++ get_or leaves next e ∷ [] → StackBecomes after (drop (place + 1) items) (drop (next + 1) leaves) new
  operand_next e new put =
      let rest = drop (place + 1) items in
      let first = at_item items place d inside after (drop next leaves) stack h (item.Operand entity) is in
      subst (StackBecomes after rest (drop (next + 1) leaves)) (sym put) (subst (λ l. StackBecomes after (item.Operand entity ∷ rest) l stack) (drop_more leaves next e leaf_there) first)

-- ---- the end of a list

-- there is a last verdict to take off
pub last_there : (base stack new : List Verdict) (v : Verdict) (last : Option Verdict) (P Q : Type 0) → base ++ v ∷ [] ≡ stack → MatchOption last ((stack ≡ []) × P) (λ w. (stack ≡ new ++ w ∷ []) × Q) → IsSome last
last_there base stack new v (Some w) P Q h is = refl
last_there base stack new v None P Q h is = absurd (omega (arith, ap length (h ∙ is.0), length-append base (v ∷ [])))

-- and that one is taken off
pub taken_off : (base stack new : List Verdict) (v w : Verdict) → base ++ v ∷ [] ≡ stack → stack ≡ new ++ w ∷ [] → (w ≡ v) × (new ≡ base)
taken_off base stack new v w h last = let k = last_one new base w v (sym last ∙ sym h) in (k.1, k.0)

-- two stacks with one list and as much room
pub same_stack : (new base : Stack Verdict) → new.list ≡ base.list → new.spare ≡ base.spare → new ≡ base
same_stack new base list spare = ap (λ l. record { list = l; spare = new.spare }) list ∙ ap (λ n. record { list = base.list; spare = n }) spare
