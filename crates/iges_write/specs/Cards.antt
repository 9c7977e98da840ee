-- Cards as they are written (IGES 5.3, 2.2.4 (file structure): lines of 80 columns). That numbers
-- are right aligned among blanks and that LF ends each line is solidd's own.
use Rattle.std.specs.Prelude.{ℕ, zero, suc, ◌+◌, ◌-◌, ◌*◌, ◌/◌, List, [], ◌∷◌, ◌++◌, length}
use Rattle.std.specs.Prelude.{take, drop, replicate, decimal}

-- a text, filled up with blanks to so many columns
abbrev pub filled : ℕ → List ℕ → List ℕ
filled width text = text ++ replicate (width - length text) 32

-- a number in decimal, right aligned in so many columns
abbrev pub right_aligned : ℕ → ℕ → List ℕ
right_aligned width n = replicate (width - length (decimal n)) 32 ++ decimal n

-- ---- cards

-- IGES 5.3, 2.2.4 (file structure): columns 1 to 72, filled up with blanks; the section letter in
-- column 73, and in columns 74 to 80 the line's number in its section; LF after them
unfoldable pub card : ℕ → ℕ → List ℕ → List ℕ
card letter number columns =
    filled 72 columns ++ letter ∷ (right_aligned 7 number ++ 10 ∷ [])

-- the cards of a section in which these columns stand, numbered on from a number
unfoldable pub cards : ℕ → ℕ → List (List ℕ) → List (List ℕ)
cards letter number [] = []
cards letter number (columns ∷ more) =
    card letter number columns ∷ cards letter (number + 1) more

-- ---- texts that run on over several cards

-- how many lines of a width hold so many bytes
abbrev pub lines_wanted : ℕ → ℕ → ℕ
lines_wanted width bytes = (bytes + (width - 1)) / width

-- the first pieces of a text, so many of this width
unfoldable pub pieces : ℕ → ℕ → List ℕ → List (List ℕ)
pieces zero width text = []
pieces (suc n) width text = take width text ∷ pieces n width (drop width text)

-- a text in lines of a width, the last one filled up with blanks; no bytes have no line
unfoldable pub lines_in : ℕ → List ℕ → List (List ℕ)
lines_in width text =
    pieces (lines_wanted width (length text)) width
    (filled (width * lines_wanted width (length text)) text)
