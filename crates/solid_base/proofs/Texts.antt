-- Texts of one line: their parts, and texts that are joined from them.
use Rattle.std.proofs.Common.{◌≡◌, ◌≢◌, ℕ, zero, suc, List, [], ◌∷◌, ◌++◌, ◌==◌, false, replicate, refl, arith}
use Rattle.std.specs.List.{AllByRecursion, concat}
use Rattle.solid_base.specs.Texts.{IsOneLine, blank_attributes}

pub one_line_front : (a b : List ℕ) → IsOneLine (a ++ b) → IsOneLine a
one_line_front [] b h = tt
one_line_front (x ∷ a) b h = (h.0, one_line_front a b h.1)

pub one_line_end : (a b : List ℕ) → IsOneLine (a ++ b) → IsOneLine b
one_line_end [] b h = h
one_line_end (x ∷ a) b h = one_line_end a b h.1

pub one_line_joined : (a b : List ℕ) → IsOneLine a → IsOneLine b → IsOneLine (a ++ b)
one_line_joined [] b h k = k
one_line_joined (x ∷ a) b h k = (h.0, one_line_joined a b h.1 k)

pub one_line_of_all : (lines : List (List ℕ)) → AllByRecursion IsOneLine lines → IsOneLine (concat lines)
one_line_of_all [] h = tt
one_line_of_all (line ∷ lines) h = one_line_joined line (concat lines) h.0 (one_line_of_all lines h.1)

same_bytes : (n b : ℕ) → b ≢ 10 → IsOneLine (replicate n b)
same_bytes zero b h = tt
same_bytes (suc n) b h = (h, same_bytes n b h)

differs : (b : ℕ) → (b == 10) ≡ false → b ≢ 10
differs b h = grind arith

pub blank_attributes_in_line : IsOneLine blank_attributes
blank_attributes_in_line =
    let blank = differs 32 refl in
    one_line_joined (replicate 40 32 ++ replicate 8 48) (replicate 48 32)
    (one_line_joined (replicate 40 32) (replicate 8 48) (same_bytes 40 32 blank) (same_bytes 8 48 (differs 48 refl)))
    (same_bytes 48 32 blank)
