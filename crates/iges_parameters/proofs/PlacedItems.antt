-- Items and their matrices, one by one.
use Rattle.std.proofs.Common.{◌≡◌, ℕ, suc, ◌≤◌, List, [], ◌∷◌, ◌++◌, map, length, pos, refl, sym, ap, ◌∙◌, arith}
use Rattle.std.specs.List.{AllByRecursion}
use Rattle.std.proofs.lemmas.List.{append-nil}
use Rattle.solid_base.specs.Ranges.{most_whole, IsLawfulPlaced}
use Rattle.solid_base.specs.declared.solids.Placed.{Placed}
use Rattle.iges_parameters.specs.Lists.{placed_all}

-- the items with these numbers, and the matrices with those
abbrev pub all_placed : List ℕ → List ℕ → List Placed
all_placed items matrices = placed_all (map (λ n. pos n) items) (map (λ n. pos n) matrices)

pub placed_long : (items matrices : List ℕ) → length items ≡ length matrices → length (all_placed items matrices) ≡ length items
placed_long [] matrices same = refl
placed_long (e ∷ items) [] same = absurd (omega (arith, same))
placed_long (e ∷ items) (m ∷ matrices) same = ap suc (placed_long items matrices (omega (arith, same)))

pub placed_lawful : (items matrices : List ℕ) → AllByRecursion (λ n. n ≤ most_whole) items → AllByRecursion (λ n. n ≤ most_whole) matrices → AllByRecursion IsLawfulPlaced (all_placed items matrices)
placed_lawful [] matrices all others = tt
placed_lawful (e ∷ items) [] all others = tt
placed_lawful (e ∷ items) (m ∷ matrices) all others = ((all.0, others.0), placed_lawful items matrices all.1 others.1)

-- where either is used up, no more are placed
pub no_item : (placed : List Placed) (items matrices : List ℕ) (total : List Placed) → length items ≡ 0 → placed ++ all_placed items matrices ≡ total → placed ≡ total
no_item placed [] matrices total none so_far = sym (append-nil placed) ∙ so_far
no_item placed (e ∷ items) matrices total none so_far = absurd (omega (arith, none))

pub no_matrix : (placed : List Placed) (items matrices : List ℕ) (total : List Placed) → length matrices ≡ 0 → placed ++ all_placed items matrices ≡ total → placed ≡ total
no_matrix placed [] [] total none so_far = sym (append-nil placed) ∙ so_far
no_matrix placed (e ∷ items) [] total none so_far = sym (append-nil placed) ∙ so_far
no_matrix placed items (m ∷ matrices) total none so_far = absurd (omega (arith, none))
