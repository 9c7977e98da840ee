-- Texts that stand one after the other.
use Rattle.std.specs.Prelude.{◌≡◌, ℕ, suc, List, [], ◌∷◌, ◌++◌}

-- the text is those of the items, one after the other; Item says which text a numbered item has,
-- and k is the first number
abbrev pub Spells : {X : Type 0} → (ℕ → List ℕ → X → Type 0) → ℕ → List ℕ → List X → Type 0
Spells Item k text [] = text ≡ []
Spells Item k text (x ∷ xs) =
    (first more : List ℕ) × (text ≡ first ++ more) × Item k first x × Spells Item (suc k) more xs

-- items that were read from the front of the bytes, and the rest after them
pub record HasRead {X : Type 0} (Item : ℕ → List ℕ → X → Type 0) (k : ℕ) (bytes rest : List ℕ)
    (xs : List X) : Type 0 where
  pub text : List ℕ
  pub spells : Spells Item k text xs
  pub split : bytes ≡ text ++ rest
