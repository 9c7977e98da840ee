-- A text without the blanks after it: no blank stands at its end, and it holds nothing but the text's bytes.
use Rattle.std.proofs.Common.{◌≡◌, ◌≢◌, ℕ, ◌+◌, ◌-◌, ◌≤◌, List, ◌++◌, Bool, true, false, cond, ◌==◌, length, take, reverse, refl, sym, ap, subst, ◌∙◌, arith, length-append}
use Rattle.std.specs.List.{prefix_len, suffix_len}
use Rattle.std.proofs.lemmas.List.{reverse-append, length-reverse, length-take}
use Rattle.std.proofs.lemmas.List.Folds.{prefix_len-append}
use Rattle.std.proofs.lemmas.List.Sums.{suffix_len-le-length}
use Rattle.std.proofs.Math.Seq.{take-length}
use Rattle.solid_base.specs.Spelling.{is_blank, before_blanks}
use Rattle.solid_base.specs.Texts.{IsOneLine}
use Rattle.solid_base.proofs.Texts.{one_line_front}
use Rattle.iges_fields.proofs.Ends.{trimmed}

-- a front that is passed whole is followed by nothing more that passes, where no more is passed
nothing_more : (front size more : ℕ) (whole : Bool) → (front == size) ≡ whole → size ≡ cond whole (size + more) front → more ≡ 0
nothing_more front size more true e h = omega (arith, h)
nothing_more front size more false e h = (let differ : front ≢ size = grind arith in absurd (differ (sym h)))

no_blank_left : (text : List ℕ) → suffix_len is_blank (before_blanks text) ≡ 0
no_blank_left text =
    let cut = trimmed text in
    let kept = before_blanks text in
    let after = reverse cut.after in
    let turned : reverse text ≡ after ++ reverse kept = ap (reverse {A = ℕ}) cut.is ∙ reverse-append kept cut.after in
    let whole = ap (length {A = ℕ}) cut.is in
    let taken = length-take (length text - suffix_len is_blank text) text in
    let size : suffix_len is_blank text ≡ length after = omega (arith, whole, taken, length-append kept cut.after, length-reverse cut.after, suffix_len-le-length is_blank text) in
    nothing_more (prefix_len is_blank after) (length after) (suffix_len is_blank kept) (prefix_len is_blank after == length after) refl
    (sym size ∙ ap (prefix_len is_blank) turned ∙ prefix_len-append is_blank after (reverse kept))

pub blanks_left_out_again : (text : List ℕ) → before_blanks (before_blanks text) ≡ before_blanks text
blanks_left_out_again text =
    let kept = before_blanks text in
    let none : length kept - suffix_len is_blank kept ≡ length kept = omega (arith, no_blank_left text) in
    ap (λ (n : ℕ). take n kept) none ∙ take-length kept

pub blanks_left_out : (text : List ℕ) → IsOneLine text → IsOneLine (before_blanks text)
blanks_left_out text line =
    let whole = trimmed text in
    one_line_front (before_blanks text) whole.after (subst IsOneLine whole.is line)

pub blanks_left_out_short : (text : List ℕ) → length (before_blanks text) ≤ length text
blanks_left_out_short text = omega (arith, length-take (length text - suffix_len is_blank text) text)
