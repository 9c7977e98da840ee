-- How many cells a grid has.
use Rattle.std.proofs.Common.{◌≡◌, ◌∙◌, sym, ap, ℕ, ◌+◌, ◌*◌, ◌%◌, ◌^◌, ◌<◌, ◌≤◌, arith, Some, None, cond, nat_le, Bool, true, false, MatchOption}
use Rattle.std.proofs.lemmas.Nat.{mul-pow, pow-add, one_shl}
use Rattle.volume_bounds.specs.Cells.{parts_of}
use Rattle.solid_questions.specs.QuestionCells.{grid_cells, cells_of_grid}

-- as many as the parts along each axis, multiplied
pub parts_cubed : (depth : ℕ) → parts_of depth * parts_of depth * parts_of depth ≡ grid_cells depth
parts_cubed depth =
    let squared : 4 ^ depth ≡ 2 ^ depth * 2 ^ depth = mul-pow 2 2 depth in
    let cubed : 8 ^ depth ≡ 4 ^ depth * 2 ^ depth = mul-pow 4 2 depth in
    sym (cubed ∙ ap (λ (n : ℕ). n * 2 ^ depth) squared)

-- a shift by three places a level
pub shifted : (depth : ℕ) → 2 ^ (3 * depth) ≡ grid_cells depth
shifted depth =
    let three : 3 * depth ≡ depth + depth + depth = omega arith in
    let first : 2 ^ (depth + depth + depth) ≡ 2 ^ (depth + depth) * 2 ^ depth = pow-add 2 (depth + depth) depth in
    let second : 2 ^ (depth + depth) ≡ 2 ^ depth * 2 ^ depth = pow-add 2 depth depth in
    ap (λ (n : ℕ). 2 ^ n) three ∙ (first ∙ (ap (λ (n : ℕ). n * 2 ^ depth) second ∙ parts_cubed depth))

-- the cells of a grid that isn't too deep
pub few_cells : (depth : ℕ) → depth ≤ 5 → (1 * 2 ^ (3 * depth)) % 2 ^ 64 ≡ grid_cells depth
few_cells depth few = one_shl (3 * depth) 64 (omega arith) ∙ shifted depth

under : (b : Bool) (n place : ℕ) → MatchOption (cond b (Some n) None) ⊥ (λ count. place < count) → place < n
under true n place h = h
under false n place h = absurd h

-- a place that a question about a grid has is one of the grid
pub place_of_grid : (depth place : ℕ) → MatchOption (cells_of_grid depth) ⊥ (λ count. place < count)
    → place < parts_of depth * parts_of depth * parts_of depth
place_of_grid depth place h = rw (parts_cubed depth) (under (nat_le depth 5) (grid_cells depth) place h)
