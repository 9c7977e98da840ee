-- The words of a text are found one after the other.
use Rattle.std.proofs.Common.{◌≡◌, ℕ, suc, ◌+◌, ◌-◌, ◌<◌, ◌≤◌, List, [], ◌∷◌, length, take, drop, Bool, true, false, not, refl, sym, ap, ◌∙◌, arith}
use Rattle.std.proofs.Math.Seq.{drop-drop}
use Rattle.std.specs.Prelude.{slice_range}
use Rattle.std.specs.List.{prefix_len}
use Rattle.solid_base.specs.Spelling.{is_blank}
use Rattle.script_lines.specs.Words.{Word, words_from, with_byte}

abbrev pub in_word : ℕ → Bool
in_word b = not (is_blank b)

-- blanks alone hold no word
pub words_none : (column : ℕ) (text : List ℕ) → length text ≤ prefix_len is_blank text → words_from column text ≡ []
unfolding words_from
words_none column [] h = refl
words_none column (b ∷ bs) h = go (is_blank b) refl (words_none (column + 1) bs)
  where
    go : (v : Bool) → is_blank b ≡ v → (length bs ≤ prefix_len is_blank bs → words_from (column + 1) bs ≡ []) → words_from column (b ∷ bs) ≡ []
    go true k more = let h2 : suc (length bs) ≤ 1 + prefix_len is_blank bs = rw k at h in rw k (more (omega arith))
    go false k more = let h2 : suc (length bs) ≤ 0 = rw k at h in absurd (omega arith)

alone : (column b c : ℕ) (cs : List ℕ) (words : List Word) → is_blank c ≡ true → with_byte column b (c ∷ cs) words ≡ record { column = column; text = b ∷ [] } ∷ words
alone column b c cs [] k = refl
alone column b c cs (w ∷ words) k = rw k refl

-- the word that begins in front, of so many bytes, and the words after it
abbrev FirstIs : ℕ → List ℕ → ℕ → List Word → Type 0
FirstIs column text count words = words ≡ record { column = column; text = take count text } ∷ words_from (column + count) (drop count text)

words_first : (column b : ℕ) (bs : List ℕ) → is_blank b ≡ false → FirstIs column (b ∷ bs) (prefix_len in_word (b ∷ bs)) (words_from column (b ∷ bs))
unfolding words_from
words_first column b [] h = rw h refl
words_first column b (c ∷ cs) h = go (is_blank c) refl (words_first (column + 1) c cs)
  where
    go : (v : Bool) → is_blank c ≡ v → (is_blank c ≡ false → FirstIs (column + 1) (c ∷ cs) (prefix_len in_word (c ∷ cs)) (words_from (column + 1) (c ∷ cs)))
        → FirstIs column (b ∷ c ∷ cs) (prefix_len in_word (b ∷ c ∷ cs)) (words_from column (b ∷ c ∷ cs))
    go true k more = rw (h, k) (rw k (alone column b c cs (words_from ((column + 1) + 1) cs) k))
    go false k more =
        let n = prefix_len in_word (c ∷ cs) in
        let one : 1 + n ≡ suc n = omega arith in
        let far : column + suc n ≡ (column + 1) + n = omega arith in
        rw (h, one) (rw (far, more k) (rw k refl))

-- the first word after the blanks in front, and the words after it
pub words_front : (column : ℕ) (text : List ℕ) → prefix_len is_blank text < length text
    → (0 < prefix_len in_word (drop (prefix_len is_blank text) text))
    × FirstIs (column + prefix_len is_blank text) (drop (prefix_len is_blank text) text) (prefix_len in_word (drop (prefix_len is_blank text) text)) (words_from column text)
unfolding words_from
words_front column [] h = absurd (omega arith)
words_front column (b ∷ bs) h = go (is_blank b) refl (words_front (column + 1) bs) (words_first column b bs)
  where
    go : (v : Bool) → is_blank b ≡ v
        → (prefix_len is_blank bs < length bs
        → (0 < prefix_len in_word (drop (prefix_len is_blank bs) bs))
        × FirstIs ((column + 1) + prefix_len is_blank bs) (drop (prefix_len is_blank bs) bs) (prefix_len in_word (drop (prefix_len is_blank bs) bs)) (words_from (column + 1) bs))
        → (is_blank b ≡ false → FirstIs column (b ∷ bs) (prefix_len in_word (b ∷ bs)) (words_from column (b ∷ bs)))
        → (0 < prefix_len in_word (drop (prefix_len is_blank (b ∷ bs)) (b ∷ bs)))
        × FirstIs (column + prefix_len is_blank (b ∷ bs)) (drop (prefix_len is_blank (b ∷ bs)) (b ∷ bs)) (prefix_len in_word (drop (prefix_len is_blank (b ∷ bs)) (b ∷ bs))) (words_from column (b ∷ bs))
    go true k more here =
        let n = prefix_len is_blank bs in
        let one : 1 + n ≡ suc n = omega arith in
        let far : column + suc n ≡ (column + 1) + n = omega arith in
        let h2 : suc n < suc (length bs) = omega (arith, rw (k, one) at h) in
        rw (k, one) (rw far (more (omega arith)))
    go false k more here =
        let same : column + 0 ≡ column = omega arith in
        let some : 0 < 1 + prefix_len in_word bs = omega arith in
        rw k (rw (k, same) (some, rw k at (here k)))

-- the same, by places in a line
pub word_placed : (line : List ℕ) (at n k : ℕ) → n ≡ prefix_len is_blank (drop at line) → n < length (drop at line) → k ≡ prefix_len in_word (drop (at + n) line)
    → (0 < k) × (words_from (at + 1) (drop at line) ≡ record { column = (at + n) + 1; text = slice_range line (at + n) ((at + n) + k) } ∷ words_from (((at + n) + k) + 1) (drop ((at + n) + k) line))
word_placed line at n k hn lt hk =
    let text = drop at line in
    let joined : drop n text ≡ drop (at + n) line = drop-drop n at line in
    let front = words_front (at + 1) text (omega (arith, hn, lt)) in
    let count : prefix_len in_word (drop n text) ≡ k = ap (prefix_len in_word) joined ∙ sym hk in
    let start : (at + 1) + n ≡ (at + n) + 1 = omega arith in
    let after : ((at + n) + 1) + k ≡ ((at + n) + k) + 1 = omega arith in
    let size : ((at + n) + k) - (at + n) ≡ k = omega arith in
    let both : (0 < k) × FirstIs ((at + n) + 1) (drop n text) k (words_from (at + 1) text) = rw (sym hn, count, start) at front in
    let rest : drop k (drop n text) ≡ drop ((at + n) + k) line = ap (drop k) joined ∙ drop-drop k (at + n) line in
    let is = both.1 in
    (both.0, rw size (rw (after, rest, joined) at is))
