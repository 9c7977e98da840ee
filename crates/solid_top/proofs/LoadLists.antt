-- The lists of the generated input, one item more.
use Rattle.std.proofs.Common.{◌≡◌, ℕ, zero, suc, ◌+◌, ◌-◌, ◌≤◌, List, [], ◌∷◌, ◌++◌, refl, ap, ◌∙◌, append-nil, arith}
use Rattle.std.specs.List.{flat_map, range_with_len}
use Rattle.std.proofs.lemmas.Grind.{flat_map-append}
use Rattle.solid_base.specs.declared.solids.Item.{Item}
use Rattle.solid_base.specs.declared.solids.Item.TheVariants as item
use Rattle.solid_base.specs.Trees.{post_order}
use Rattle.solid_top.specs.LoadInput.{number_at, union_with}

range_more : (from n : ℕ) → range_with_len from (suc n) ≡ range_with_len from n ++ (from + n) ∷ []
range_more from zero = ap (λ (k : ℕ). k ∷ []) (omega arith)
range_more from (suc n) =
    ap (λ (l : List ℕ). from ∷ l) (range_more (from + 1) n)
    ∙ ap (λ (k : ℕ). from ∷ (range_with_len (from + 1) n ++ k ∷ [])) (omega arith)

-- one text more
pub texts_more : (f : ℕ → List ℕ) (n : ℕ) → flat_map f (range_with_len 0 (n + 1)) ≡ flat_map f (range_with_len 0 n) ++ f n
texts_more f n =
    let next : n + 1 ≡ suc n = omega arith in
    let first : 0 + n ≡ n = omega arith in
    ap (λ (k : ℕ). flat_map f (range_with_len 0 k)) next ∙ ap (flat_map f) (range_more 0 n)
    ∙ flat_map-append f (range_with_len 0 n) ((0 + n) ∷ [])
    ∙ ap (λ (l : List ℕ). flat_map f (range_with_len 0 n) ++ l) (append-nil (f (0 + n)) ∙ ap f first)

-- one operand and one union more
pub union_more : (place : ℕ) (items : List Item) → 1 ≤ place → items ≡ post_order (union_with (place - 1))
    → (items ++ item.Operand (number_at place) ∷ []) ++ item.Join ∷ [] ≡ post_order (union_with (place + 1 - 1))
unfolding union_with
union_more zero items some is = absurd (omega (arith, some))
union_more (suc more) items some is =
    let before : suc more - 1 ≡ more = omega arith in
    let after : suc more + 1 - 1 ≡ suc more = omega arith in
    rw (is, before, after) refl
