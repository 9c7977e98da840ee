-- Laws of lines and of their ends.
use Rattle.std.proofs.Common.{◌≡◌, ◌≢◌, ℕ, ◌+◌, ◌<◌, ◌≤◌, ◌⊎◌, inl, inr, List, [], ◌∷◌, ◌++◌, Bool, true, false, cond, ◌&&◌, ◌==◌, length, take, drop, slice_index, All, refl, sym, ap, subst, ◌∙◌, arith, append_assoc, length-append, add-one, suc}
use Rattle.std.specs.List.{concat}
use Rattle.std.proofs.lemmas.List.{take-append-drop}
use Rattle.std.proofs.lemmas.List.Elements.{recursion_from_All}
use Rattle.std.proofs.Math.Seq.{drop-cons}
use Rattle.solid_base.specs.Texts.{IsOneLine}
use Rattle.solid_base.proofs.Texts.{one_line_front}
use Rattle.iges_cards.specs.Lines.{IsLine, put_in_front, line_texts, is_feed, line_of}
use Rattle.iges_cards.proofs.CheckLaws.{and_false, test_other, test_same, test_not}

-- ---- the texts of lines

-- a line that LF ends, and what stands after it
pub texts_cut : (line rest : List ℕ) → IsOneLine line → line_texts (line ++ 10 ∷ rest) ≡ (line ++ 10 ∷ []) ∷ line_texts rest
unfolding line_texts
texts_cut [] rest h = refl
texts_cut (b ∷ bs) rest h = rw (test_other b 10 h.0, texts_cut bs rest h.1) refl

-- the last line, where it has no line end
pub texts_last : (line : List ℕ) → 0 < length line → IsOneLine line → line_texts line ≡ line ∷ []
unfolding line_texts
texts_last [] some h = absurd (omega arith)
texts_last (b ∷ []) some h = rw (test_other b 10 h.0) refl
texts_last (b ∷ c ∷ bs) some h = rw (test_other b 10 h.0, texts_last (c ∷ bs) (omega arith) h.1) refl

-- ---- a line without its end

two_or_more : (text : List ℕ) → 2 ≤ length text → is_feed text ≡ false
two_or_more [] h = absurd (omega arith)
two_or_more (b ∷ []) h = absurd (omega arith)
two_or_more (b ∷ c ∷ bs) h = refl

one_line_no_feed : (line : List ℕ) → IsOneLine line → is_feed line ≡ false
one_line_no_feed [] h = refl
one_line_no_feed (b ∷ []) h = test_other b 10 h.0
one_line_no_feed (b ∷ c ∷ bs) h = refl

kept : (b : ℕ) (bs : List ℕ) → is_feed (b ∷ bs) ≡ false → (b == 13) && is_feed bs ≡ false → line_of (b ∷ bs) ≡ b ∷ line_of bs
unfolding line_of
kept b bs h k = rw (h, k) refl

pub line_open : (line : List ℕ) → IsOneLine line → line_of line ≡ line
unfolding line_of
line_open [] h = refl
line_open (b ∷ bs) h = kept b bs (one_line_no_feed (b ∷ bs) h) (and_false (b == 13) (is_feed bs) (one_line_no_feed bs h.1)) ∙ ap (λ l. b ∷ l) (line_open bs h.1)

-- LF after a line that doesn't end in CR
pub line_plain : (line : List ℕ) → IsOneLine line → ((front : List ℕ) → line ≢ front ++ 13 ∷ []) → line_of (line ++ 10 ∷ []) ≡ line
unfolding line_of
line_plain [] h other = refl
line_plain (b ∷ []) h other =
    let differs : (b == 13) ≡ false = test_other b 13 (λ e. other [] (ap (λ c. c ∷ []) e)) in
    kept b (10 ∷ []) refl (rw differs refl)
line_plain (b ∷ c ∷ bs) h other =
    let long : is_feed (c ∷ (bs ++ 10 ∷ [])) ≡ false = two_or_more (c ∷ (bs ++ 10 ∷ [])) (omega (arith, length-append bs (10 ∷ []))) in
    kept b (c ∷ (bs ++ 10 ∷ [])) refl (and_false (b == 13) _ long)
    ∙ ap (λ l. b ∷ l) (line_plain (c ∷ bs) h.1 (λ front e. other (b ∷ front) (ap (λ l. b ∷ l) e)))

-- CR LF after a line
pub line_return : (line : List ℕ) → line_of (line ++ 13 ∷ 10 ∷ []) ≡ line
unfolding line_of
line_return [] = refl
line_return (b ∷ bs) =
    let more : length (bs ++ 13 ∷ 10 ∷ []) ≡ length bs + 2 = length-append bs (13 ∷ 10 ∷ []) in
    let long : is_feed (bs ++ 13 ∷ 10 ∷ []) ≡ false = two_or_more (bs ++ 13 ∷ 10 ∷ []) (omega arith) in
    let longer : is_feed (b ∷ (bs ++ 13 ∷ 10 ∷ [])) ≡ false = two_or_more (b ∷ (bs ++ 13 ∷ 10 ∷ [])) (omega arith) in
    kept b (bs ++ 13 ∷ 10 ∷ []) longer (and_false (b == 13) _ long) ∙ ap (λ l. b ∷ l) (line_return bs)

-- a line is what its text has before its end
pub line_again : (text line : List ℕ) → IsLine text line → line_of text ≡ line
line_again text line h =
    elim h.ended [
      | inl return ↦ ap line_of return ∙ line_return line
      | inr plain ↦ ap line_of plain.0 ∙ line_plain line h.one_line plain.1
    ]

-- ---- where LF stands

pub feed_at : (bytes : List ℕ) (n : ℕ) → n < length bytes → slice_index bytes n ≡ 10 → All (λ b. b ≢ 10) (take n bytes)
    → (bytes ≡ (take n bytes ++ 10 ∷ []) ++ drop (n + 1) bytes) × (line_texts bytes ≡ (take n bytes ++ 10 ∷ []) ∷ line_texts (drop (n + 1) bytes))
feed_at bytes n within is before =
    let after : drop n bytes ≡ 10 ∷ drop (n + 1) bytes = rw add-one (drop-cons bytes n 0 within ∙ ap (λ b. b ∷ drop (suc n) bytes) is) in
    let whole : bytes ≡ take n bytes ++ 10 ∷ drop (n + 1) bytes = sym (take-append-drop n bytes) ∙ ap (λ l. take n bytes ++ l) after in (
      whole ∙ sym (append_assoc (take n bytes) (10 ∷ []) (drop (n + 1) bytes)),
      ap line_texts whole ∙ texts_cut (take n bytes) (drop (n + 1) bytes) (recursion_from_All (λ b. b ≢ 10) (take n bytes) before),
    )

-- ---- the texts of bytes

-- the text of a line that LF ends
pub record IsEnded (text : List ℕ) : Type 0 where
  pub front : List ℕ
  pub one_line : IsOneLine front
  pub spelt : text ≡ front ++ 10 ∷ []

-- each text is ended, but the last one may be open
abbrev pub AreTexts : List (List ℕ) → Type 0
AreTexts [] = Unit {0}
AreTexts (text ∷ texts) = (IsEnded text × AreTexts texts) ⊎ ((texts ≡ []) × IsOneLine text)

in_front : (b : ℕ) (texts : List (List ℕ)) → b ≢ 10 → AreTexts texts → AreTexts (put_in_front b texts)
in_front b [] other h = inr (refl, (other, tt))
in_front b (text ∷ texts) other (inl h) = inl (record { front = b ∷ h.0.front; one_line = (other, h.0.one_line); spelt = ap (λ l. b ∷ l) h.0.spelt }, h.1)
in_front b (text ∷ texts) other (inr h) = inr (h.0, (other, h.1))

texts_case : (b : ℕ) (texts : List (List ℕ)) (v : Bool) → (b == 10) ≡ v → AreTexts texts → AreTexts (cond v ((10 ∷ []) ∷ texts) (put_in_front b texts))
texts_case b texts true e h = inl (record { front = []; one_line = tt; spelt = refl }, h)
texts_case b texts false e h = in_front b texts (test_not b 10 e) h

pub are_texts : (bytes : List ℕ) → AreTexts (line_texts bytes)
unfolding line_texts
are_texts [] = tt
are_texts (b ∷ bs) = texts_case b (line_texts bs) (b == 10) refl (are_texts bs)

joined_front : (b : ℕ) (texts : List (List ℕ)) → concat (put_in_front b texts) ≡ b ∷ concat texts
joined_front b [] = refl
joined_front b (text ∷ texts) = refl

joined_case : (b : ℕ) (texts : List (List ℕ)) (v : Bool) → (b == 10) ≡ v → concat (cond v ((10 ∷ []) ∷ texts) (put_in_front b texts)) ≡ b ∷ concat texts
joined_case b texts true e = ap (λ c. c ∷ concat texts) (sym (test_same b 10 e))
joined_case b texts false e = joined_front b texts

pub texts_joined : (bytes : List ℕ) → concat (line_texts bytes) ≡ bytes
unfolding line_texts
texts_joined [] = refl
texts_joined (b ∷ bs) = joined_case b (line_texts bs) (b == 10) refl ∙ ap (λ l. b ∷ l) (texts_joined bs)

-- ---- whether a line ends in CR

EndsInReturn : List ℕ → Type 0
EndsInReturn line = ((front : List ℕ) × (line ≡ front ++ 13 ∷ [])) ⊎ ((front : List ℕ) → line ≢ front ++ 13 ∷ [])

not_return : (b : ℕ) → b ≢ 13 → (front : List ℕ) → b ∷ [] ≢ front ++ 13 ∷ []
not_return b other [] e = other (let same : b ≡ 13 = cc in same)
not_return b other (f ∷ fs) e = let n : 0 ≡ length fs + 1 = (let more : [] ≡ fs ++ 13 ∷ [] = cc in ap length more ∙ length-append fs (13 ∷ [])) in absurd (omega arith)

single : (b : ℕ) (v : Bool) → (b == 13) ≡ v → EndsInReturn (b ∷ [])
unfolding EndsInReturn
single b true e = inl ([], ap (λ c. c ∷ []) (test_same b 13 e))
single b false e = inr (not_return b (test_not b 13 e))

after_one : (b : ℕ) (bs : List ℕ) → 0 < length bs → ((front : List ℕ) → bs ≢ front ++ 13 ∷ []) → (front : List ℕ) → b ∷ bs ≢ front ++ 13 ∷ []
after_one b bs some other [] e = let n : bs ≡ [] = cc in let m : length bs ≡ 0 = ap length n in absurd (omega arith)
after_one b bs some other (f ∷ fs) e = other fs (let more : bs ≡ fs ++ 13 ∷ [] = cc in more)

nothing : (front : List ℕ) → [] ≢ front ++ 13 ∷ []
nothing front e = let n : 0 ≡ length front + 1 = ap length e ∙ length-append front (13 ∷ []) in absurd (omega arith)

ends_in_return : (line : List ℕ) → EndsInReturn line
unfolding EndsInReturn
ends_in_return [] = inr nothing
ends_in_return (b ∷ []) = single b (b == 13) refl
ends_in_return (b ∷ c ∷ bs) = elim (ends_in_return (c ∷ bs)) as (λ _. EndsInReturn (b ∷ c ∷ bs)) [
  | inl found ↦ inl (b ∷ found.0, ap (λ l. b ∷ l) found.1)
  | inr other ↦ inr (after_one b (c ∷ bs) (omega arith) other)
]

-- the text of an ended line is a line with its end
ended_case : (text front : List ℕ) → IsOneLine front → text ≡ front ++ 10 ∷ [] → EndsInReturn front → IsLine text (line_of text)
unfolding EndsInReturn
ended_case text front h e (inl found) =
    let whole : text ≡ found.0 ++ 13 ∷ 10 ∷ [] = e ∙ ap (λ l. l ++ 10 ∷ []) found.1 ∙ append_assoc found.0 (13 ∷ []) (10 ∷ []) in
    let line : line_of text ≡ found.0 = ap line_of whole ∙ line_return found.0 in
    let short : IsOneLine found.0 = one_line_front found.0 (13 ∷ []) (subst IsOneLine found.1 h) in
    subst (λ l. IsLine text l) (sym line) (record { one_line = short; ended = inl whole })
ended_case text front h e (inr other) =
    let line : line_of text ≡ front = ap line_of e ∙ line_plain front h other in
    subst (λ l. IsLine text l) (sym line) (record { one_line = h; ended = inr (e, other) })

pub line_takes : (text : List ℕ) → IsEnded text → IsLine text (line_of text)
line_takes text h = ended_case text h.front h.one_line h.spelt (ends_in_return h.front)

return_one_line : (line : List ℕ) → IsOneLine line → IsOneLine (line ++ 13 ∷ [])
return_one_line [] h = (λ e. absurd (omega arith), tt)
return_one_line (b ∷ bs) h = (h.0, return_one_line bs h.1)

texts_ended : (text line rest : List ℕ) → IsOneLine line → (text ≡ line ++ 13 ∷ 10 ∷ []) ⊎ ((text ≡ line ++ 10 ∷ []) × ((front : List ℕ) → line ≢ front ++ 13 ∷ [])) → line_texts (text ++ rest) ≡ text ∷ line_texts rest
texts_ended text line rest h (inl return) =
    let whole : text ≡ (line ++ 13 ∷ []) ++ 10 ∷ [] = return ∙ sym (append_assoc line (13 ∷ []) (10 ∷ [])) in
    ap (λ t. line_texts (t ++ rest)) whole ∙ ap line_texts (append_assoc (line ++ 13 ∷ []) (10 ∷ []) rest) ∙ texts_cut (line ++ 13 ∷ []) rest (return_one_line line h)
    ∙ ap (λ t. t ∷ line_texts rest) (sym whole)
texts_ended text line rest h (inr plain) =
    ap (λ t. line_texts (t ++ rest)) plain.0 ∙ ap line_texts (append_assoc line (10 ∷ []) rest) ∙ texts_cut line rest h ∙ ap (λ t. t ∷ line_texts rest) (sym plain.0)

-- a line with its end stands in front as a text
pub texts_again : (text line rest : List ℕ) → IsLine text line → line_texts (text ++ rest) ≡ text ∷ line_texts rest
texts_again text line rest h = texts_ended text line rest h.one_line h.ended
