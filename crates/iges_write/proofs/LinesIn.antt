-- The lines of a text: those in which it is written are the ones that are defined.
use Rattle.std.proofs.Common.{◌≡◌, ◌⊎◌, inl, inr, ℕ, zero, suc, ◌+◌, ◌-◌, ◌*◌, ◌<◌, ◌≤◌, List, [], ◌∷◌, ◌++◌, length, take, drop, replicate, min, refl, sym, ap, ◌∙◌, arith, append_assoc, append-nil, length-append, length-drop, length-take-le}
use Rattle.std.specs.List.{AllByRecursion, concat}
use Rattle.std.proofs.lemmas.Bool.{cases_lt}
use Rattle.std.proofs.lemmas.List.{length-replicate, take-append-drop}
use Rattle.std.proofs.Math.Seq.{take-append_seam, drop-append_seam, take-length}
use Rattle.iges_fields.specs.Layout.{AreLines}
use Rattle.iges_write.specs.Cards.{filled, lines_wanted, pieces, lines_in}

pub length-pieces : (n width : ℕ) (text : List ℕ) → length (pieces n width text) ≡ n
unfolding pieces
length-pieces zero width text = refl
length-pieces (suc n) width text = ap suc (length-pieces n width (drop width text))

-- there are as many lines as are wanted
pub length-lines_in : (width : ℕ) (text : List ℕ) → length (lines_in width text) ≡ lines_wanted width (length text)
unfolding lines_in
length-lines_in width text =
    length-pieces (lines_wanted width (length text)) width (filled (width * lines_wanted width (length text)) text)

concat_size : (width : ℕ) (lines : List (List ℕ)) → AllByRecursion (λ line. length line ≡ width) lines → length (concat lines) ≡ width * length lines
concat_size width [] h = omega arith
concat_size width (line ∷ lines) h =
    let whole = length-append line (concat lines) in
    let more = concat_size width lines h.1 in
    omega (arith, whole, more, h.0)

-- lines that are joined are cut as they were
cut_again : (width : ℕ) (lines : List (List ℕ)) → AllByRecursion (λ line. length line ≡ width) lines → pieces (length lines) width (concat lines) ≡ lines
unfolding pieces
cut_again width [] h = refl
cut_again width (line ∷ lines) h =
    let rest = concat lines in
    let front : take width (line ++ rest) ≡ line = ap (λ (n : ℕ). take n (line ++ rest)) (sym h.0) ∙ take-append_seam line rest in
    let back : drop width (line ++ rest) ≡ rest = ap (λ (n : ℕ). drop n (line ++ rest)) (sym h.0) ∙ drop-append_seam line rest in
    ap (λ (x : List ℕ). x ∷ pieces (length lines) width (drop width (line ++ rest))) front
    ∙ ap (λ (x : List ℕ). line ∷ pieces (length lines) width x) back
    ∙ ap (λ (ls : List (List ℕ)). line ∷ ls) (cut_again width lines h.1)

-- how long the joined lines are
joined_size : (width : ℕ) (text : List ℕ) (lines : List (List ℕ)) (is : AreLines width text lines) → width * length lines ≡ length text + is.blanks
joined_size width text lines is =
    let size = concat_size width lines is.wide in
    let whole = ap (length {A = ℕ}) is.joined ∙ length-append text (replicate is.blanks 32) in
    let fill = length-replicate {A = ℕ} is.blanks 32 in
    omega (arith, size, whole, fill)

the_lines : (width : ℕ) (text : List ℕ) (lines : List (List ℕ)) → AreLines width text lines → lines_wanted width (length text) ≡ length lines → lines ≡ lines_in width text
unfolding lines_in
the_lines width text lines is count =
    let n = length lines in
    let size = joined_size width text lines is in
    let fill : is.blanks ≡ width * n - length text = omega (arith, size) in
    sym (cut_again width lines is.wide)
    ∙ ap (pieces n width) is.joined
    ∙ ap (λ (k : ℕ). pieces n width (text ++ replicate k 32)) fill
    ∙ ap (λ (k : ℕ). pieces k width (filled (width * k) text)) (sym count)

pub global_lines_are : (text : List ℕ) (lines : List (List ℕ)) → AreLines 72 text lines → lines ≡ lines_in 72 text
global_lines_are text lines is =
    let size = joined_size 72 text lines is in
    let few = is.few in
    the_lines 72 text lines is (omega (arith, size, few))

-- ---- a text, line by line

-- no text has no lines
pub no_lines : (text : List ℕ) → length text ≡ 0 → lines_in 64 text ≡ []
unfolding lines_in pieces
no_lines [] none = refl
no_lines (b ∷ text) none = absurd (omega arith)

one_line : (text : List ℕ) → 0 < length text → length text ≤ 64 → lines_in 64 text ≡ filled 64 text ∷ []
unfolding lines_in pieces
one_line text some few =
    let one : lines_wanted 64 (length text) ≡ 1 = omega arith in
    let size : length (filled 64 text) ≡ 64 = length-append text (replicate (64 - length text) 32) ∙ (let fill = length-replicate {A = ℕ} (64 - length text) 32 in omega (arith, fill)) in
    let whole : take 64 (filled 64 text) ≡ filled 64 text = ap (λ (n : ℕ). take n (filled 64 text)) (sym size) ∙ take-length (filled 64 text) in
    ap (λ (n : ℕ). pieces n 64 (filled (64 * n) text)) one ∙ ap (λ (x : List ℕ). x ∷ []) whole

more_lines : (front rest : List ℕ) → length front ≡ 64 → lines_in 64 (front ++ rest) ≡ front ∷ lines_in 64 rest
unfolding lines_in pieces
more_lines front rest full =
    let text = front ++ rest in
    let size : length text ≡ 64 + length rest = omega (arith, length-append front rest, full) in
    let m = lines_wanted 64 (length rest) in
    let n : lines_wanted 64 (length text) ≡ suc m = omega (arith, size) in
    let fill : 64 * suc m - length text ≡ 64 * m - length rest = omega (arith, size) in
    let blanks = replicate {A = ℕ} (64 * m - length rest) 32 in
    let all : filled (64 * suc m) text ≡ front ++ (rest ++ blanks) = ap (λ (k : ℕ). text ++ replicate k 32) fill ∙ append_assoc front rest blanks in
    let first : take 64 (front ++ (rest ++ blanks)) ≡ front = ap (λ (k : ℕ). take k (front ++ (rest ++ blanks))) (sym full) ∙ take-append_seam front (rest ++ blanks) in
    let after : drop 64 (front ++ (rest ++ blanks)) ≡ rest ++ blanks = ap (λ (k : ℕ). drop k (front ++ (rest ++ blanks))) (sym full) ∙ drop-append_seam front (rest ++ blanks) in
    ap (λ (k : ℕ). pieces k 64 (filled (64 * k) text)) n
    ∙ ap (λ (x : List ℕ). take 64 x ∷ pieces m 64 (drop 64 x)) all
    ∙ ap (λ (x : List ℕ). x ∷ pieces m 64 (drop 64 (front ++ (rest ++ blanks)))) first
    ∙ ap (λ (x : List ℕ). front ∷ pieces m 64 x) after

-- the first line of a text, and the lines of what stands after it
pub next_line : (k : ℕ) (text : List ℕ) → 0 < length text → k ≡ min (length text) 64 → lines_in 64 text ≡ filled 64 (take k text) ∷ lines_in 64 (drop k text)
next_line k text some is = go (cases_lt 64 (length text)) where
  go : (64 < length text) ⊎ (length text ≤ 64) → lines_in 64 text ≡ filled 64 (take k text) ∷ lines_in 64 (drop k text)
  go (inl h) =
      let full : length (take k text) ≡ 64 = length-take-le k text (omega (arith, is)) ∙ (let e : k ≡ 64 = omega (arith, is, h) in e) in
      let none : filled 64 (take k text) ≡ take k text =
      ap (λ (n : ℕ). take k text ++ replicate n 32) (let z : 64 - length (take k text) ≡ 0 = omega (arith, full) in z) ∙ append-nil (take k text) in
      ap (lines_in 64) (sym (take-append-drop k text)) ∙ more_lines (take k text) (drop k text) full ∙ ap (λ (x : List ℕ). x ∷ lines_in 64 (drop k text)) (sym none)
  go (inr h) =
      let all : k ≡ length text = omega (arith, is, h) in
      let front : take k text ≡ text = ap (λ (n : ℕ). take n text) all ∙ take-length text in
      let rest : length (drop k text) ≡ 0 = omega (arith, length-drop k text, all) in
      one_line text some h
      ∙ ap (λ (x : List ℕ). filled 64 x ∷ []) (sym front)
      ∙ ap (λ (ls : List (List ℕ)). filled 64 (take k text) ∷ ls) (sym (no_lines (drop k text) rest))
