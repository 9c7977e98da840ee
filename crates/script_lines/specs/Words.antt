-- The words of a line. solidd's own.
use Rattle.std.specs.Prelude.{ℕ, ◌+◌, List, [], ◌∷◌, cond, length}
use Rattle.solid_base.specs.Spelling.{is_blank}

-- solidd's own: a word, and the column of its first byte, counted from 1
pub record Word : Type 0 where
  pub column : ℕ
  pub text : List ℕ

-- a byte that isn't a blank, in this column, and the words of the bytes after it: it belongs to the
-- word that follows it, or is a word where a blank follows it, or nothing
abbrev pub with_byte : ℕ → ℕ → List ℕ → List Word → List Word
with_byte column b [] words = record { column = column; text = b ∷ [] } ∷ []
with_byte column b (c ∷ bs) [] = record { column = column; text = b ∷ [] } ∷ []
with_byte column b (c ∷ bs) (w ∷ words) =
    cond (is_blank c) (record { column = column; text = b ∷ [] } ∷ w ∷ words)
    (record { column = column; text = b ∷ w.text } ∷ words)

-- the words of bytes of which the first stands in this column
unfoldable pub words_from : ℕ → List ℕ → List Word
words_from column [] = []
words_from column (b ∷ bs) =
    cond (is_blank b) (words_from (column + 1) bs)
    (with_byte column b bs (words_from (column + 1) bs))

-- solidd's own: the words of a line: the longest runs of bytes that aren't blanks
abbrev pub words_of : List ℕ → List Word
words_of line = words_from 1 line

-- solidd's own: the column of what is missing at the end of a line, one past its last byte
abbrev pub end_of : List ℕ → ℕ
end_of line = length line + 1
