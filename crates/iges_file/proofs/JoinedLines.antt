-- Lines that are joined one after the other, as a loop does.
use Rattle.std.proofs.Common.{◌≡◌, ℕ, zero, suc, ◌+◌, ◌-◌, ◌*◌, ◌<◌, ◌≤◌, List, [], ◌∷◌, ◌++◌, length, take, drop, slice_get, Some, refl, arith, length-append, sym, ap, subst, ◌∙◌, append_assoc}
use Rattle.std.specs.List.{concat}
use Rattle.std.proofs.lemmas.List.{append-nil, take-append-drop}
use Rattle.std.proofs.lemmas.List.Folds.{concat-append}
use Rattle.solid_base.specs.Texts.{IsOneLine}
use Rattle.solid_base.proofs.Texts.{one_line_front, one_line_end, one_line_of_all}
use Rattle.iges_cards.specs.Kept.{AreWide, NoneHasFeed}

-- the line at a place, and those after it
line_at : (lines : List (List ℕ)) (at : ℕ) (line : List ℕ) → slice_get lines at ≡ Some line → drop at lines ≡ line ∷ drop (suc at) lines
line_at [] at line is = cc
line_at (l ∷ lines) zero line is = let same : l ≡ line = cc in rw same refl
line_at (l ∷ lines) (suc at) line is = line_at lines at line is

-- a line more, of the lines from a place on that are before an end
pub join_next : (text line : List ℕ) (lines : List (List ℕ)) (at end : ℕ) (total : List ℕ) → at < end → slice_get lines at ≡ Some line → text ++ concat (take (end - at) (drop at lines)) ≡ total
    → (text ++ line) ++ concat (take (end - (at + 1)) (drop (at + 1) lines)) ≡ total
join_next text line lines at end total less is so_far =
    let count : end - at ≡ suc (end - (at + 1)) = omega (arith, less) in
    let next : suc at ≡ at + 1 = omega arith in
    let cut : take (end - at) (drop at lines) ≡ line ∷ take (end - (at + 1)) (drop (at + 1) lines) =
    ap (λ (n : ℕ). take n (drop at lines)) count ∙ ap (λ (ls : List (List ℕ)). take (suc (end - (at + 1))) ls) (line_at lines at line is) ∙ ap (λ (n : ℕ). line ∷ take (end - (at + 1)) (drop n lines)) next in
    append_assoc text line (concat (take (end - (at + 1)) (drop (at + 1) lines))) ∙ ap (λ (ls : List (List ℕ)). text ++ concat ls) (sym cut) ∙ so_far

-- one line alone
pub join_one : (lines : List (List ℕ)) (at : ℕ) (line : List ℕ) → slice_get lines at ≡ Some line → line ≡ concat (take 1 (drop at lines))
join_one lines at line is = sym (ap (λ (ls : List (List ℕ)). concat (take 1 ls)) (line_at lines at line is) ∙ append-nil line)

-- no line is left
pub join_done : (text : List ℕ) (lines : List (List ℕ)) (at end : ℕ) (total : List ℕ) → end ≤ at → text ++ concat (take (end - at) (drop at lines)) ≡ total → text ≡ total
join_done text lines at end total done so_far =
    let none : end - at ≡ 0 = omega (arith, done) in
    sym (append-nil text) ∙ ap (λ (n : ℕ). text ++ concat (take n (drop at lines))) (sym none) ∙ so_far

take_short : (width count : ℕ) (lines : List (List ℕ)) → AreWide width lines → length (concat (take count lines)) ≤ count * width
take_short width zero lines wide = omega arith
take_short width (suc count) [] wide = omega arith
take_short width (suc count) (line ∷ lines) wide =
    let more = take_short width count lines wide.1 in
    let size = length-append line (concat (take count lines)) in
    omega (arith, more, size, wide.0)

-- so many lines, joined, have at most so many columns each
pub joined_short : (width from count : ℕ) (lines : List (List ℕ)) → AreWide width lines → length (concat (take count (drop from lines))) ≤ count * width
joined_short width zero count lines wide = take_short width count lines wide
joined_short width (suc from) count [] wide = take_short width count [] tt
joined_short width (suc from) count (line ∷ lines) wide = joined_short width from count lines wide.1

-- lines joined are those before a place, joined, and those after it
cut_at : (at : ℕ) (lines : List (List ℕ)) → concat lines ≡ concat (take at lines) ++ concat (drop at lines)
cut_at at lines = ap concat (sym (take-append-drop at lines)) ∙ concat-append (take at lines) (drop at lines)

-- lines that are joined are of one line
pub joined_in_line : (from count : ℕ) (lines : List (List ℕ)) → NoneHasFeed lines → IsOneLine (concat (take count (drop from lines)))
joined_in_line from count lines plain =
    let after = drop from lines in
    let end : IsOneLine (concat after) = one_line_end (concat (take from lines)) (concat after) (subst IsOneLine (cut_at from lines) (one_line_of_all lines plain)) in
    one_line_front (concat (take count after)) (concat (drop count after)) (subst IsOneLine (cut_at count after) end)
