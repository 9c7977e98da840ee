-- How much room tokens take in lines.
use Rattle.std.proofs.Common.{◌≡◌, ◌⊎◌, inl, inr, ◌≤◌, ◌<◌, ℕ, ◌+◌, ◌*◌, ◌/◌, min, List, [], ◌∷◌, ◌++◌, length, replicate, refl, ap, ◌∙◌, arith, length-append}
use Rattle.std.specs.List.{AllByRecursion, concat}
use Rattle.std.proofs.lemmas.List.{length-replicate}
use Rattle.std.proofs.lemmas.Bool.{cases_lt}
use Rattle.solid_base.specs.declared.entities.Token.{Token}
use Rattle.iges_fields.specs.Grammar.{delimiter}
use Rattle.iges_fields.specs.Layout.{spelling_of_token, piece, gap, placed, laid, is_last, AreLines}
use Rattle.iges_parameters.specs.Writing.{lines_for}
use Rattle.iges_parameters.specs.WrittenRows.{used_after, room_of, room_up_to_most, most_counted, most_counted_lines}

-- what is laid has the length that is measured, whatever the delimiters
pub room_laid : (comma semi used : ℕ) (ts : List Token) → used + length (laid 64 comma semi used ts) ≡ room_of used ts
unfolding room_of laid
room_laid comma semi used [] = omega arith
room_laid comma semi used (t ∷ ts) =
    let p = piece (delimiter comma semi (is_last ts)) t in
    let size : length p ≡ length (spelling_of_token t) + 1 = length-append (spelling_of_token t) (delimiter comma semi (is_last ts) ∷ []) in
    let q = placed 64 used p in
    let long : length q ≡ gap 64 used (length p) + length p = length-append (replicate (gap 64 used (length p)) 32) p ∙ ap (λ (n : ℕ). n + length p) (length-replicate (gap 64 used (length p)) 32) in
    let next : used + length q ≡ used_after used (length (spelling_of_token t) + 1) =
    ap (λ (n : ℕ). used + n) long ∙ (let e : used + (gap 64 used (length p) + length p) ≡ used_after used (length p) = omega arith in e) ∙ ap (used_after used) size in
    let more = laid 64 comma semi (used + length q) ts in
    let joined : used + length (q ++ more) ≡ (used + length q) + length more = omega (arith, length-append q more) in
    joined ∙ room_laid comma semi (used + length q) ts ∙ ap (λ (n : ℕ). room_of n ts) next

-- tokens take up no less room than there was before them
room_grows : (used : ℕ) (ts : List Token) → used ≤ room_of used ts
unfolding room_of
room_grows used [] = omega arith
room_grows used (t ∷ ts) =
    let size = length (spelling_of_token t) + 1 in
    omega (arith, room_grows (used_after used size) ts)

-- tokens after the most that is counted
room_stands : (used : ℕ) (ts : List Token) → min (room_of (min used most_counted) ts) most_counted ≡ min (room_of used ts) most_counted
room_stands used ts = go (cases_lt most_counted used) where
  go : (most_counted < used) ⊎ (used ≤ most_counted) → min (room_of (min used most_counted) ts) most_counted ≡ min (room_of used ts) most_counted
  go (inr h) = (let same : min used most_counted ≡ used = omega (arith, h) in rw same refl)
  go (inl h) =
      let same : min used most_counted ≡ most_counted = omega (arith, h) in
      rw same (omega (arith, h, room_grows most_counted ts, room_grows used ts))

-- what is counted is the room, up to the most that is counted
pub counted_room : (used : ℕ) (ts : List Token) → used ≤ most_counted → room_up_to_most used ts ≡ min (room_of used ts) most_counted
unfolding room_of room_up_to_most
counted_room used [] h = omega (arith, h)
counted_room used (t ∷ ts) h =
    let next = used_after used (length (spelling_of_token t) + 1) in
    let within : min next most_counted ≤ most_counted = omega arith in
    counted_room (min next most_counted) ts within ∙ room_stands next ts

-- lines of 64 columns are as many as their text wants
concat_size : (lines : List (List ℕ)) → AllByRecursion (λ line. length line ≡ 64) lines → length (concat lines) ≡ 64 * length lines
concat_size [] h = refl
concat_size (line ∷ lines) h = length-append line (concat lines) ∙ (let more = concat_size lines h.1 in let one = h.0 in omega (arith, more, one))

pub lines_are : (text : List ℕ) (lines : List (List ℕ)) → AreLines 64 text lines → length lines ≡ lines_for (length text)
lines_are text lines is =
    let size = concat_size lines is.wide in
    let joined = ap (length {A = ℕ}) is.joined ∙ length-append text (replicate is.blanks 32) in
    let fill = length-replicate {A = ℕ} is.blanks 32 in
    let few = is.few in
    omega (arith, size, joined, fill, few)

-- lines for the most bytes that are counted are the most that are counted
pub counted_lines : (size : ℕ) → (min size most_counted + 63) / 64 ≡ min (lines_for size) most_counted_lines
counted_lines size = omega arith
