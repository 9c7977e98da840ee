-- Cards, written piece by piece and one after the other.
use Rattle.std.proofs.Common.{◌≡◌, ℕ, suc, ◌+◌, ◌-◌, ◌<◌, ◌≤◌, List, [], ◌∷◌, ◌++◌, length, take, drop, get_or, replicate, sym, ap, ◌∙◌, arith, append_assoc, append-nil, length-drop, add-one}
use Rattle.std.specs.List.{concat}
use Rattle.std.proofs.lemmas.List.{take-append-drop}
use Rattle.std.proofs.Math.Seq.{drop-cons}
use Rattle.iges_write.specs.Cards.{right_aligned, card, cards}

-- what follows the columns of a card
pub ended : (start letter number blanks : ℕ) (out one two three four : List ℕ) → start ≤ length out → blanks ≡ 72 - (length out - start)
    → one ≡ out ++ replicate blanks 32 → two ≡ one ++ letter ∷ [] → three ≡ two ++ right_aligned 7 number → four ≡ three ++ 10 ∷ []
    → four ≡ take start out ++ card letter number (drop start out)
unfolding card
ended start letter number blanks out one two three four within few a b c d =
    let fill = replicate blanks 32 in
    let front = take start out in
    let columns = drop start out in
    let tail : List ℕ = letter ∷ (right_aligned 7 number ++ 10 ∷ []) in
    let whole : four ≡ (((out ++ fill) ++ letter ∷ []) ++ right_aligned 7 number) ++ 10 ∷ [] =
    d ∙ ap (λ (x : List ℕ). x ++ 10 ∷ []) (c ∙ ap (λ (x : List ℕ). x ++ right_aligned 7 number) (b ∙ ap (λ (x : List ℕ). x ++ letter ∷ []) a)) in
    let glue : (((out ++ fill) ++ letter ∷ []) ++ right_aligned 7 number) ++ 10 ∷ [] ≡ out ++ (fill ++ tail) = simp append_assoc in
    let size : blanks ≡ 72 - length columns = omega (arith, few, length-drop start out) in
    whole ∙ glue
    ∙ ap (λ (x : List ℕ). x ++ (fill ++ tail)) (sym (take-append-drop start out))
    ∙ append_assoc front columns (fill ++ tail)
    ∙ ap (λ (x : List ℕ). front ++ x) (sym (append_assoc columns fill tail))
    ∙ ap (λ (n : ℕ). front ++ ((columns ++ replicate n 32) ++ tail)) size

-- one card more, and those that are left
pub one_more : (letter number : ℕ) (out new columns : List ℕ) (left rest : List (List ℕ)) (total : List ℕ) → left ≡ columns ∷ rest
    → new ≡ out ++ card letter number columns → out ++ concat (cards letter number left) ≡ total → new ++ concat (cards letter (number + 1) rest) ≡ total
unfolding cards
one_more letter number out new columns left rest total cut put so_far =
    let one = card letter number columns in
    let more = concat (cards letter (number + 1) rest) in
    ap (λ (x : List ℕ). x ++ more) put ∙ append_assoc out one more
    ∙ ap (λ (ls : List (List ℕ)). out ++ concat (cards letter number ls)) (sym cut) ∙ so_far

-- no cards are left
pub no_more : (letter number : ℕ) (out : List ℕ) (left : List (List ℕ)) (total : List ℕ) → left ≡ [] → out ++ concat (cards letter number left) ≡ total → out ≡ total
unfolding cards
no_more letter number out left total none so_far =
    sym (append-nil out) ∙ ap (λ (ls : List (List ℕ)). out ++ concat (cards letter number ls)) (sym none) ∙ so_far

-- what stands at a place, and what stands after it
pub cut_at : {X : Type 0} (at : ℕ) (xs : List X) (x : X) → at < length xs → x ≡ get_or xs at x → drop at xs ≡ x ∷ drop (at + 1) xs
cut_at at xs x within is = rw add-one (drop-cons xs at x within ∙ ap (λ y. y ∷ drop (suc at) xs) (sym is))
