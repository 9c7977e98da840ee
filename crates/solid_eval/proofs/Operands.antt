-- The stack of verdicts on a Boolean tree's operands, item by item, where each verdict is taken from a state.
use Rattle.std.proofs.Common.{◌≡◌, ℕ, suc, ◌+◌, ◌≤◌, ◌<◌, List, [], ◌∷◌, ◌++◌, length, get_or, drop, subst, refl, sym, ap, ◌∙◌, append_assoc, append-nil}
use Rattle.std.proofs.Math.ListN.{drop_of_length-le}
use Rattle.std.proofs.Math.Seq.{drop-append_seam}
use Rattle.std.proofs.lemmas.List.{drop_more}
use Rattle.solid_base.specs.declared.classes.Verdict.{Verdict}
use Rattle.solid_base.specs.declared.geometry.Affine.{Affine}
use Rattle.solid_base.specs.declared.references.Reference.{Reference}
use Rattle.solid_base.specs.declared.solids.Item.{Item}
use Rattle.solid_base.specs.declared.solids.Item.TheVariants as item
use Rattle.solid_base.specs.declared.solids.Primitive.{Primitive}
use Rattle.solid_base.specs.References.{target, operands_of}
use Rattle.solid_base.specs.Trees.{Operation, Tree, operand, combination, item_of, post_order, IsPostOrder}
use Rattle.fixed_enclosure.specs.Places.{Span3}
use Rattle.boolean_tree.specs.Stacks.{StackBecomes}
use Rattle.boolean_tree.specs.Verdicts.{verdict_of, operand_count, folded}
use Rattle.boolean_tree.proofs.Counts.{operands_of-append, operands_of-operation, operands_counted}
use Rattle.boolean_tree.proofs.Spelling.{spelt_alone}
use Rattle.boolean_tree.proofs.Stacks.{whole, two_there, operation_next, at_end}
use Rattle.solid_eval.specs.Solids.{Solid, last_solid, tree_solid, solid_of_items}
use Rattle.solid_eval.specs.Taking.{taken_from}

-- what a tree's own list spells is the solid of the tree
pub spelt_tree : (child : ℕ → Solid) (t : Tree) → solid_of_items child (post_order t) ≡ tree_solid child t
spelt_tree child t = ap (last_solid child) (spelt_alone t)

pub spelt_list : (child : ℕ → Solid) (items : List Item) → (h : IsPostOrder items) → solid_of_items child items ≡ tree_solid child h.0
spelt_list child items (t, is) = ap (solid_of_items child) is ∙ spelt_tree child t

-- the operands of a combination are those of its sides
pub both_operands : (o : Operation) (a b : Tree) → operands_of (post_order (combination o a b)) ≡ operands_of (post_order a) ++ operands_of (post_order b)
both_operands o a b =
    let sides = post_order a ++ post_order b in
    operands_of-append sides (item_of o ∷ []) ∙ ap (λ l. operands_of sides ++ l) (operands_of-operation o []) ∙ append-nil (operands_of sides) ∙ operands_of-append (post_order a) (post_order b)

module _ (S : Type 0) (take : ℕ → List Affine → Primitive → Span3 → S → Verdict × S) (child : ℕ → Solid) (at : Span3) where
  abbrev asked : ℕ → S → Verdict × S
  asked n s = taken_from take (child n) at s

  -- the verdicts on some operands, and the state after them
  abbrev pub verdicts_on : List Reference → S → List Verdict
  verdicts_on [] s = []
  verdicts_on (r ∷ references) s = (asked (target r) s).0 ∷ verdicts_on references (asked (target r) s).1

  abbrev pub state_after : List Reference → S → S
  state_after [] s = s
  state_after (r ∷ references) s = state_after references (asked (target r) s).1

  verdicts_joined : (a b : List Reference) (s : S) → verdicts_on (a ++ b) s ≡ verdicts_on a s ++ verdicts_on b (state_after a s)
  verdicts_joined [] b s = refl
  verdicts_joined (r ∷ a) b s = ap (λ l. (asked (target r) s).0 ∷ l) (verdicts_joined a b (asked (target r) s).1)

  states_joined : (a b : List Reference) (s : S) → state_after (a ++ b) s ≡ state_after b (state_after a s)
  states_joined [] b s = refl
  states_joined (r ∷ a) b s = states_joined a b (asked (target r) s).1

  verdicts_counted : (references : List Reference) (s : S) → length (verdicts_on references s) ≡ length references
  verdicts_counted [] s = refl
  verdicts_counted (r ∷ references) s = ap suc (verdicts_counted references (asked (target r) s).1)

  -- a tree's operands leave the state that its solid leaves
  tree_state : (t : Tree) (s : S) → state_after (operands_of (post_order t)) s ≡ (taken_from take (tree_solid child t) at s).1
  tree_state (operand n) s = refl
  tree_state (combination o a b) s =
      let right = operands_of (post_order b) in
      ap (λ l. state_after l s) (both_operands o a b) ∙ states_joined (operands_of (post_order a)) right s ∙ ap (state_after right) (tree_state a s) ∙ tree_state b (taken_from take (tree_solid child a) at s).1

  -- and the verdict folded from those on them is that on the tree's solid
  tree_folded : (t : Tree) (s : S) (more : List Verdict) → folded t (verdicts_on (operands_of (post_order t)) s ++ more) ≡ (taken_from take (tree_solid child t) at s).0
  tree_folded (operand n) s more = refl
  tree_folded (combination o a b) s more =
      let lefts = operands_of (post_order a) in
      let rights = operands_of (post_order b) in
      let middle = state_after lefts s in
      let left = verdicts_on lefts s in
      let right = verdicts_on rights middle in
      let first = (taken_from take (tree_solid child a) at s).0 in
      let all : verdicts_on (operands_of (post_order (combination o a b))) s ++ more ≡ left ++ (right ++ more) =
      ap (λ l. verdicts_on l s ++ more) (both_operands o a b) ∙ ap (λ l. l ++ more) (verdicts_joined lefts rights s) ∙ append_assoc left right more in
      let long : length left ≡ operand_count a = verdicts_counted lefts s ∙ operands_counted a in
      let rest : drop (operand_count a) (left ++ (right ++ more)) ≡ right ++ more = ap (λ n. drop n (left ++ (right ++ more))) (sym long) ∙ drop-append_seam left (right ++ more) in
      ap (folded (combination o a b)) all
      ∙ ap (λ v. verdict_of o v (folded b (drop (operand_count a) (left ++ (right ++ more))))) (tree_folded a s (right ++ more))
      ∙ ap (λ l. verdict_of o first (folded b l)) rest
      ∙ ap (verdict_of o first) (tree_folded b middle more)
      ∙ ap (λ x. verdict_of o first (taken_from take (tree_solid child b) at x).0) (tree_state a s)

  -- the rest of a list from a place and a state becomes this stack and that state
  abbrev pub Rest : List Verdict → S → List Item → S → List Verdict → Type 0
  Rest after last rest s stack = StackBecomes after rest (verdicts_on (operands_of rest) s) stack × (state_after (operands_of rest) s ≡ last)

  -- all items of a list add the verdict on the solid that they spell
  pub all_items : (its items : List Item) (base : List Verdict) (s : S) → its ≡ items → IsPostOrder items
      → Rest (base ++ (taken_from take (solid_of_items child items) at s).0 ∷ []) (taken_from take (solid_of_items child items) at s).1 its s base
  all_items its items base s same h =
      let leaves = verdicts_on (operands_of its) s in
      let each = verdicts_counted (operands_of its) s ∙ ap (λ l. length (operands_of l)) same in
      let solid : tree_solid child h.0 ≡ solid_of_items child items = sym (spelt_list child items h) in
      let tree : folded h.0 leaves ≡ (taken_from take (solid_of_items child items) at s).0 =
      ap (λ l. folded h.0 (verdicts_on (operands_of l) s)) (same ∙ h.1) ∙ ap (folded h.0) (sym (append-nil (verdicts_on (operands_of (post_order h.0)) s))) ∙ tree_folded h.0 s []
      ∙ ap (λ x. (taken_from take x at s).0) solid in
      let state : state_after (operands_of its) s ≡ (taken_from take (solid_of_items child items) at s).1 =
      ap (λ l. state_after (operands_of l) s) (same ∙ h.1) ∙ tree_state h.0 s ∙ ap (λ x. (taken_from take x at s).1) solid in
      (subst (λ v. StackBecomes (base ++ v ∷ []) its leaves base) tree (whole its items leaves base same each h.0 h.1), state)

  module _ (items : List Item) (place : ℕ) (d : Item) (inside : place < length items) (after : List Verdict) (last s : S) (stack : List Verdict) (h : Rest after last (drop place items) s stack) where
    first : (i : Item) → get_or items place d ≡ i → Rest after last (i ∷ drop (place + 1) items) s stack
    first i is = subst (λ l. Rest after last l s stack) (drop_more items place d inside ∙ ap (λ x. x ∷ drop (place + 1) items) is) h

    -- an operand's verdict is pushed
    pub operand_pushed : (number : ℕ) (v : Verdict) (t : S) (new : List Verdict) → get_or items place d ≡ item.Operand number → v ≡ (taken_from take (child number) at s).0 → t ≡ (taken_from take (child number) at s).1
        → new ≡ stack ++ v ∷ [] → Rest after last (drop (place + 1) items) t new
    operand_pushed number v t new is value state put =
        let rest = drop (place + 1) items in
        subst (λ x. Rest after last rest x new) (sym state) (subst (Rest after last rest (asked number s).1) (sym (put ∙ ap (λ w. stack ++ w ∷ []) value)) (first (item.Operand number) is))

    -- an operation has two sides
    pub sides_there : (o : Operation) → get_or items place d ≡ item_of o → 2 ≤ length stack
    sides_there o is = two_there items place d inside after (verdicts_on (operands_of (drop place items)) s) stack h.0 o is

    -- and takes them
    pub operation_applied : (o : Operation) (new : List Verdict) → get_or items place d ≡ item_of o
        → ((below : List Verdict) (a b : Verdict) → stack ≡ below ++ a ∷ b ∷ [] → new ≡ below ++ verdict_of o a b ∷ []) → Rest after last (drop (place + 1) items) s new
    operation_applied o new is taken =
        let rest = drop (place + 1) items in
        let same : operands_of (drop place items) ≡ operands_of rest = ap operands_of (drop_more items place d inside ∙ ap (λ x. x ∷ rest) is) ∙ operands_of-operation o rest in
        let next = operation_next items place d inside after (verdicts_on (operands_of (drop place items)) s) stack h.0 o new is taken in
        (subst (λ l. StackBecomes after rest (verdicts_on l s) new) same next, subst (λ l. state_after l s ≡ last) same h.1)

  -- after the last item the stack ends in the verdict on the whole
  pub all_done : (items : List Item) (place : ℕ) (after : List Verdict) (last s : S) (stack : List Verdict) → length items ≤ place → Rest after last (drop place items) s stack → (after ≡ stack) × (s ≡ last)
  all_done items place after last s stack done h =
      (at_end items place after (verdicts_on (operands_of (drop place items)) s) stack done h.0, subst (λ l. state_after (operands_of l) s ≡ last) (drop_of_length-le items done) h.1)
