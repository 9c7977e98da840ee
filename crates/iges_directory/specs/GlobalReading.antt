-- The delimiters of a global section, found from the left.
use Rattle.std.specs.Prelude.{ℕ, List, [], ◌∷◌, Bool, true, false, cond, ◌&&◌, ◌==◌, Option, Some}
use Rattle.std.specs.Prelude.{None}
use Rattle.solid_base.specs.Spelling.{after_blanks}
use Rattle.iges_fields.specs.Delimiters.{is_lawful}

-- the delimiter that is told here, and what stands after it and the blanks that follow
abbrev pub told_at : ℕ → List ℕ → ℕ × List ℕ
told_at usual [] = (usual, [])
told_at usual (a ∷ []) = (usual, a ∷ [])
told_at usual (a ∷ b ∷ []) = (usual, a ∷ b ∷ [])
told_at usual (a ∷ b ∷ d ∷ rest) =
    cond ((a == 49) && (b == 72) && is_lawful d) (d, after_blanks rest) (usual, a ∷ b ∷ d ∷ rest)

abbrev pub told : ℕ → List ℕ → ℕ × List ℕ
told usual text = told_at usual (after_blanks text)

-- a delimiter that itself stands next
abbrev pub closed : ℕ → List ℕ → Option (ℕ × List ℕ)
closed comma [] = None
closed comma (b ∷ rest) = cond (b == comma) (Some (comma, rest)) None

-- parameter 1: comma, and what stands after it
unfoldable pub first_in : List ℕ → Option (ℕ × List ℕ)
first_in text = closed (told 44 text).0 (told 44 text).1

-- parameter 2: semi, whether the section ends there, and what stands after it
pub record Second : Type 0 where
  pub semi : ℕ
  pub ended : Bool
  pub rest : List ℕ

-- comma or semi stands next
abbrev pub ended_by : ℕ → ℕ → List ℕ → Option Second
ended_by comma semi [] = None
ended_by comma semi (b ∷ rest) =
    cond (b == comma) (Some (record { semi = semi; ended = false; rest = rest }))
    (cond (b == semi) (Some (record { semi = semi; ended = true; rest = rest })) None)

unfoldable pub second_in : ℕ → List ℕ → Option Second
second_in comma text =
    cond ((told 59 text).0 == comma) None (ended_by comma (told 59 text).0 (told 59 text).1)
