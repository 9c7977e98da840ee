-- BadPostfix is the fault of a number that is no item, or of an operation that lacks operands.
use Rattle.std.proofs.Common.{◌≡◌, ◌⊎◌, inl, inr, ℕ, zero, suc, ◌+◌, ◌<◌, List, [], ◌∷◌, ◌++◌, length, Bool, true, false, cond, ◌==◌, nat_lt, Result, Ok, Err, ℤ, pos, negsuc, refl, sym, ap, subst, ◌∙◌, arith, length-append}
use Rattle.std.proofs.Math.Seq.{get_or-append_seam}
use Rattle.solid_base.specs.declared.solids.Item.{Item}
use Rattle.solid_base.specs.declared.solids.Item.TheVariants as item
use Rattle.solid_base.specs.Trees.{Operation, union, intersection, difference, item_of}
use Rattle.boolean_tree.specs.Faults.{LacksOperands}
use Rattle.boolean_tree.proofs.Steps.{lacks}
use Rattle.iges_parameters.specs.declared.faults.RowFault.{RowFault}
use Rattle.iges_parameters.specs.declared.faults.RowFault.TheVariants as fault
use Rattle.solid_base.specs.Outcomes.{◌>>=◌}
use Rattle.boolean_tree.specs.Spelling.{trees_of_items}
use Rattle.iges_parameters.specs.Lists.{operation_with, item_with}
use Rattle.iges_parameters.specs.Writing.{number_of_item}
use Rattle.iges_parameters.specs.RecordFaults.{IsNoItem}
use Rattle.iges_parameters.proofs.TreesLawful.{AreRead, in_front}

-- ---- steps

-- a step failed, or the next one did
pub bind_err : {A B : Type 0} (r : Result A RowFault) (f : A → Result B RowFault) (e : RowFault) → r >>= f ≡ Err e → (r ≡ Err e) ⊎ ((x : A) × (r ≡ Ok x) × (f x ≡ Err e))
bind_err (Ok x) f e h = inr (x, refl, h)
bind_err (Err g) f e h = inl (let same : g ≡ e = cc in ap (λ (z : RowFault). Err z) same)

-- ---- one item

-- what a number is
number_kind : (n : ℕ) → (n ≡ 0) ⊎ ((3 < n) ⊎ ((o : Operation) × (pos n ≡ number_of_item (item_of o))))
number_kind zero = inl refl
number_kind (suc zero) = inr (inr (union, refl))
number_kind (suc (suc zero)) = inr (inr (intersection, refl))
number_kind (suc (suc (suc zero))) = inr (inr (difference, refl))
number_kind (suc (suc (suc (suc n)))) = inr (inl (omega arith))

is_below : (n k : ℕ) → nat_lt n k ≡ true → n < k
is_below n k h = grind arith

-- an operation that lacks operands
too_few : (before : List Item) (o : Operation) → AreRead before → length (trees_of_items before) < 2 → LacksOperands (length before + 2) (before ++ item_of o ∷ [])
too_few before o read few =
    let room : length before < length (before ++ item_of o ∷ []) = omega (arith, length-append before (item_of o ∷ [])) in
    lacks (before ++ item_of o ∷ []) (length before) (length (trees_of_items before)) (item_of o) o room (get_or-append_seam before (item_of o) [] (item_of o)) few
    (in_front before (item_of o ∷ []) (length (trees_of_items before)) read.trees)

postfix_same : {A : Type 0} (index k : ℕ) → ◌≡◌ {A = Result A RowFault} (Err (fault.BadPostfix index)) (Err (fault.BadPostfix k)) → index ≡ k
postfix_same index k h = cc

no_operation : (n : ℕ) → (n == 1) ≡ false → (n == 2) ≡ false → (n == 3) ≡ false → (n ≡ 0) ⊎ (3 < n)
no_operation zero p q r = inl refl
no_operation (suc zero) p q r = cc
no_operation (suc (suc zero)) p q r = cc
no_operation (suc (suc (suc zero))) p q r = cc
no_operation (suc (suc (suc (suc n)))) p q r = inr (omega arith)

operation_wrong : (index n k : ℕ) → operation_with index n ≡ Err (fault.BadPostfix k) → (index ≡ k) × ((n ≡ 0) ⊎ (3 < n))
operation_wrong index n k h = go (n == 1) (n == 2) (n == 3) refl refl refl h where
  go : (a b c : Bool) → (n == 1) ≡ a → (n == 2) ≡ b → (n == 3) ≡ c
      → cond a (Ok item.Join) (cond b (Ok item.Meet) (cond c (Ok item.Less) (Err (fault.BadPostfix index)))) ≡ Err (fault.BadPostfix k) → (index ≡ k) × ((n ≡ 0) ⊎ (3 < n))
  go true b c p q r e = cc
  go false true c p q r e = cc
  go false false true p q r e = cc
  go false false false p q r e = (postfix_same {A = Item} index k e, no_operation n p q r)

no_number : (before : List Item) (index n : ℕ) → (n ≡ 0) ⊎ (3 < n) → IsNoItem index before (pos n)
no_number before index n (inl e) = inl (ap (λ (k : ℕ). pos k) e)
no_number before index n (inr more) = inr (inl (grind (arith, more)))

pub item_wrong : (index k : ℕ) (before : List Item) (n : ℤ) → item_with index before n ≡ Err (fault.BadPostfix k) → AreRead before → index ≡ length before + 2 → (index ≡ k) × IsNoItem k before n
unfolding item_with
item_wrong index k before (negsuc n) h read place = cc
item_wrong index k before (pos n) h read place = go (nat_lt (length (trees_of_items before)) 2) refl h where
  lacking : index ≡ k → length (trees_of_items before) < 2 → IsNoItem k before (pos n)
  lacking same few =
      elim (number_kind n) [
        | inl e ↦ no_number before k n (inl e)
        | inr (inl more) ↦ no_number before k n (inr more)
        | inr (inr (o, is)) ↦ inr (inr (o, is, subst (λ (m : ℕ). LacksOperands m (before ++ item_of o ∷ [])) (sym place ∙ same) (too_few before o read few)))
      ]

  go : (v : Bool) → nat_lt (length (trees_of_items before)) 2 ≡ v → cond v (Err (fault.BadPostfix index)) (operation_with index n) ≡ Err (fault.BadPostfix k) → (index ≡ k) × IsNoItem k before (pos n)
  go true e h = let same = postfix_same {A = Item} index k h in (same, lacking same (is_below (length (trees_of_items before)) 2 e))
  go false e h = let w = operation_wrong index n k h in (w.0, no_number before k n w.1)
