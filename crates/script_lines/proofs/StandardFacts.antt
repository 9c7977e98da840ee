-- Worked values, so that a wrong rule in the specs does not check.
use Rattle.std.proofs.Common.{◌≡◌, [], ◌∷◌, ◌++◌, refl, codes}
use Rattle.script_lines.specs.Lines.{lines_of, kept_lines}
use Rattle.script_lines.specs.Words.{words_of, words_from, end_of}

-- LF and CR LF end a line; a CR is kept elsewhere, and a last line needs no line end
pub lines : lines_of (codes "a\r\n\nb\r\r\nc\rd\r")
    ≡ codes "a" ∷ [] ∷ codes "b\r" ∷ codes "c\rd\r" ∷ []
unfolding lines_of
lines = refl

-- blanks and bytes 26 alone are skipped
pub kept : kept_lines (codes " \t\n@1 newest\n" ++ 26 ∷ 9 ∷ 26 ∷ 10 ∷ 26 ∷ 120 ∷ [])
    ≡ codes "@1 newest" ∷ (26 ∷ codes "x") ∷ []
unfolding lines_of
kept = refl

-- words have the columns of their first bytes, counted from 1; CR and 26 belong to words
pub words : words_of (codes " @2\tcell  1.5\r ")
    ≡ record { column = 2; text = codes "@2" } ∷ record { column = 5; text = codes "cell" }
    ∷ record { column = 11; text = codes "1.5\r" } ∷ []
unfolding words_from
words = refl

-- what is missing at the end of a line stands one past its last byte, trailing blanks counted
pub end : end_of (codes "@1 items  ") ≡ 11
end = refl
