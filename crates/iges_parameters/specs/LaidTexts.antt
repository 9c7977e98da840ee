-- Tokens that are laid one by one after a text, each with the same delimiter after it: solidd's
-- own.
use Rattle.std.specs.Prelude.{◌≡◌, refl, ℕ, List, [], ◌∷◌, ◌++◌, length}
use Rattle.solid_base.specs.declared.entities.Token.{Token}
use Rattle.iges_fields.specs.Layout.{piece, placed}

-- a text and a piece after it: it stands on the next line where it would run past its line's end
abbrev pub laid_piece : List ℕ → List ℕ → List ℕ
laid_piece text bytes = text ++ placed 64 (length text) bytes

-- a text and tokens after it, each with this delimiter
unfoldable pub laid_after : ℕ → List ℕ → List Token → List ℕ
laid_after d text [] = text
laid_after d text (t ∷ ts) = laid_after d (laid_piece text (piece d t)) ts

-- no tokens leave the text as it was
pub laid_none : (d : ℕ) (text : List ℕ) → laid_after d text [] ≡ text
unfolding laid_after
laid_none d text = refl

-- tokens are laid together as one after the other
pub laid_more : (d : ℕ) (text : List ℕ) (ts us : List Token)
    → laid_after d (laid_after d text ts) us ≡ laid_after d text (ts ++ us)
unfolding laid_after
laid_more d text [] us = refl
laid_more d text (t ∷ ts) us = laid_more d (laid_piece text (piece d t)) ts us
