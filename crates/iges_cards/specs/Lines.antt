-- Lines of the fixed form (IGES 5.3, 2.2: lines of 80 columns). The line ends LF and CR LF, and
-- blanks past column 80, are solidd's own.
use Rattle.std.specs.Prelude.{◌≡◌, ◌≢◌, ◌⊎◌, ℕ, List, [], ◌∷◌, ◌++◌, Bool, false, cond, ◌==◌, ◌&&◌}
use Rattle.std.specs.Prelude.{length}
use Rattle.solid_base.specs.Spelling.{AreBlanks}
use Rattle.solid_base.specs.Texts.{IsOneLine}

-- the text is a line with its line end, LF or CR LF; a CR directly before LF belongs to the line
-- end
pub record IsLine (text line : List ℕ) : Type 0 where
  pub one_line : IsOneLine line
  pub ended : (text ≡ line ++ 13 ∷ 10 ∷ [])
      ⊎ ((text ≡ line ++ 10 ∷ []) × ((front : List ℕ) → line ≢ front ++ 13 ∷ []))

-- a line of 80 columns, and blanks alone after them
pub record HasColumns (columns line : List ℕ) : Type 0 where
  pub tail : List ℕ
  pub eighty : length columns ≡ 80
  pub blanks : AreBlanks tail
  pub spelt : line ≡ columns ++ tail

-- ---- how lines are found in the bytes

-- a byte in front of the first of these texts
abbrev pub put_in_front : ℕ → List (List ℕ) → List (List ℕ)
put_in_front b [] = (b ∷ []) ∷ []
put_in_front b (text ∷ texts) = (b ∷ text) ∷ texts

-- the lines of the bytes, each with its line end; the last one may have none
unfoldable pub line_texts : List ℕ → List (List ℕ)
line_texts [] = []
line_texts (b ∷ bs) = cond (b == 10) ((10 ∷ []) ∷ line_texts bs) (put_in_front b (line_texts bs))

-- whether a text is LF alone
abbrev pub is_feed : List ℕ → Bool
is_feed [] = false
is_feed (b ∷ []) = b == 10
is_feed (b ∷ c ∷ bs) = false

-- the bytes of a text before LF, without one CR directly before it
unfoldable pub line_of : List ℕ → List ℕ
line_of [] = []
line_of (b ∷ bs) = cond (is_feed (b ∷ bs)) [] (cond ((b == 13) && is_feed bs) [] (b ∷ line_of bs))

-- the first line of the bytes without its line end, and the bytes after it
pub record IsFirstLine (bytes line rest : List ℕ) : Type 0 where
  pub text : List ℕ
  pub split : bytes ≡ text ++ rest
  pub texts : line_texts bytes ≡ text ∷ line_texts rest
  pub without_end : line ≡ line_of text
