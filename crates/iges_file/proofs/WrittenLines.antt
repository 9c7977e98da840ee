-- The lines of a written text: they hold it, each is as wide as the others, and no line feed stands in them.
use Rattle.std.proofs.Common.{◌≡◌, ℕ, zero, suc, ◌+◌, ◌-◌, ◌*◌, ◌<◌, ◌≤◌, List, [], ◌∷◌, ◌++◌, length, take, drop, replicate, refl, sym, ap, subst, ◌∙◌, arith, length-append, length-drop, length-take-le}
use Rattle.std.specs.List.{AllByRecursion, concat}
use Rattle.std.proofs.lemmas.List.{take-append-drop, length-replicate}
use Rattle.solid_base.specs.Texts.{IsOneLine}
use Rattle.solid_base.proofs.Texts.{one_line_front, one_line_end, one_line_joined}
use Rattle.iges_fields.specs.Layout.{AreLines}
use Rattle.iges_write.specs.Cards.{filled, lines_wanted, pieces, lines_in}
use Rattle.iges_file.proofs.WrittenNumbers.{blanks_in_line}

pub line_taken : (n : ℕ) (text : List ℕ) → IsOneLine text → IsOneLine (take n text)
line_taken n text h = one_line_front (take n text) (drop n text) (subst IsOneLine (sym (take-append-drop n text)) h)

pub line_dropped : (n : ℕ) (text : List ℕ) → IsOneLine text → IsOneLine (drop n text)
line_dropped n text h = one_line_end (take n text) (drop n text) (subst IsOneLine (sym (take-append-drop n text)) h)

-- ---- pieces

pieces_wide : (n width : ℕ) (text : List ℕ) → length text ≡ width * n → AllByRecursion (λ line. length line ≡ width) (pieces n width text)
unfolding pieces
pieces_wide zero width text size = tt
pieces_wide (suc n) width text size =
    let left : length (drop width text) ≡ width * n = omega (arith, size, length-drop width text) in
    (length-take-le width text (omega (arith, size)), pieces_wide n width (drop width text) left)

nothing_left : (width : ℕ) (text : List ℕ) → length text ≡ width * 0 → text ≡ []
nothing_left width [] size = refl
nothing_left width (b ∷ text) size = absurd (omega arith)

pieces_joined : (n width : ℕ) (text : List ℕ) → length text ≡ width * n → concat (pieces n width text) ≡ text
unfolding pieces
pieces_joined zero width text size = sym (nothing_left width text size)
pieces_joined (suc n) width text size =
    let left : length (drop width text) ≡ width * n = omega (arith, size, length-drop width text) in
    ap (λ (x : List ℕ). take width text ++ x) (pieces_joined n width (drop width text) left) ∙ take-append-drop width text

pub pieces_in_line : (n width : ℕ) (text : List ℕ) → IsOneLine text → AllByRecursion IsOneLine (pieces n width text)
unfolding pieces
pieces_in_line zero width text h = tt
pieces_in_line (suc n) width text h = (line_taken width text h, pieces_in_line n width (drop width text) (line_dropped width text h))

-- ---- lines

lines_hold : (width : ℕ) (text : List ℕ) → length text ≤ width * lines_wanted width (length text) → width * lines_wanted width (length text) < length text + width
    → AreLines width text (lines_in width text)
unfolding lines_in
lines_hold width text enough few =
    let n = lines_wanted width (length text) in
    let blank = width * n - length text in
    let size : length (filled (width * n) text) ≡ width * n = omega (arith, length-append text (replicate blank 32), length-replicate {A = ℕ} blank 32, enough) in
    record {
      wide = pieces_wide n width (filled (width * n) text) size;
      blanks = blank;
      few = omega (arith, few, enough);
      joined = pieces_joined n width (filled (width * n) text) size;
    }

pub record_lines_hold : (text : List ℕ) → AreLines 64 text (lines_in 64 text)
record_lines_hold text = lines_hold 64 text (omega arith) (omega arith)

pub global_lines_hold : (text : List ℕ) → AreLines 72 text (lines_in 72 text)
global_lines_hold text = lines_hold 72 text (omega arith) (omega arith)

pub lines_plain : (width : ℕ) (text : List ℕ) → IsOneLine text → AllByRecursion IsOneLine (lines_in width text)
unfolding lines_in
lines_plain width text h =
    let n = lines_wanted width (length text) in
    pieces_in_line n width (filled (width * n) text) (one_line_joined text (replicate (width * n - length text) 32) h (blanks_in_line (width * n - length text)))
