-- The directory and the records, one entity after the other.
use Rattle.std.proofs.Common.{◌≡◌, ℕ, zero, suc, ◌+◌, ◌*◌, ◌<◌, ◌≤◌, List, [], ◌∷◌, ◌++◌, length, take, drop, Some, slice_get, refl, sym, ap, ◌∙◌, arith, append_assoc, append-nil, length-append, add-one}
use Rattle.std.specs.List.{concat}
use Rattle.std.proofs.lemmas.List.{take-append-drop, length-map}
use Rattle.std.proofs.lemmas.List.Folds.{concat-append}
use Rattle.std.proofs.Math.ListN.{drop_of_length-le}
use Rattle.solid_base.specs.declared.entities.Entity.{Entity}
use Rattle.iges_parameters.specs.Accepted.{lines_of}
use Rattle.iges_parameters.specs.Writing.{record_text, lines_for}
use Rattle.iges_write.specs.Cards.{right_aligned, card, cards}
use Rattle.iges_write.specs.CanonicalFile.{entry_first, entry_second, entry_lines, record_lines, with_number, records_lines}
use Rattle.iges_write.proofs.LinesIn.{length-lines_in}

-- ---- places in a list

parts_next : {X : Type 0} (at : ℕ) (xs : List X) (x : X) → slice_get xs at ≡ Some x → (drop at xs ≡ x ∷ drop (suc at) xs) × (take (suc at) xs ≡ take at xs ++ x ∷ [])
parts_next at [] x is = cc
parts_next zero (y ∷ ys) x is = (let same : y ≡ x = cc in (ap (λ z. z ∷ ys) same, ap (λ z. z ∷ []) same))
parts_next (suc at) (y ∷ ys) x is = (let (a, b) = parts_next at ys x is in (a, ap (λ l. y ∷ l) b))

-- the item at a place begins what is left, and ends what stands before the next place
pub parts_at : {X : Type 0} (at : ℕ) (xs : List X) (x : X) → slice_get xs at ≡ Some x → (drop at xs ≡ x ∷ drop (at + 1) xs) × (take (at + 1) xs ≡ take at xs ++ x ∷ [])
parts_at at xs x is = rw add-one (parts_next at xs x is)

pub length-take_at : {X : Type 0} (at : ℕ) (xs : List X) → at ≤ length xs → length (take at xs) ≡ at
length-take_at zero xs h = refl
length-take_at (suc at) [] h = absurd (omega arith)
length-take_at (suc at) (x ∷ xs) h = ap suc (length-take_at at xs (omega arith))

-- ---- how many lines there are

pub record_lines_count : (comma semi : ℕ) (e : Entity) → length (record_lines comma semi e) ≡ lines_for (length (record_text comma semi e.row e.tail))
record_lines_count comma semi e = length-lines_in 64 (record_text comma semi e.row e.tail)

pub lines_of-append : (comma semi : ℕ) (es fs : List Entity) → lines_of comma semi (es ++ fs) ≡ lines_of comma semi es + lines_of comma semi fs
lines_of-append comma semi [] fs = omega arith
lines_of-append comma semi (e ∷ es) fs = (let more = lines_of-append comma semi es fs in omega (arith, more))

pub records_count : (comma semi : ℕ) (before es : List Entity) → length (records_lines comma semi before es) ≡ lines_of comma semi es
unfolding records_lines
records_count comma semi before [] = refl
records_count comma semi before (e ∷ es) =
    let here = with_number (2 * length before + 1) (record_lines comma semi e) in
    let whole = length-append here (records_lines comma semi (before ++ e ∷ []) es) in
    let one = length-map (record_lines comma semi e) (λ (line : List ℕ). line ++ 32 ∷ right_aligned 7 (2 * length before + 1)) in
    omega (arith, whole, one, record_lines_count comma semi e, records_count comma semi (before ++ e ∷ []) es)

-- the lines of the entities up to a place are no more than all
pub lines_up_to : (comma semi at : ℕ) (rows : List Entity) (e : Entity) → slice_get rows at ≡ Some e
    → lines_of comma semi (take at rows) + lines_of comma semi (e ∷ []) ≤ lines_of comma semi rows
lines_up_to comma semi at rows e is =
    let (rest, front) = parts_at at rows e is in
    let all : lines_of comma semi (take at rows ++ drop at rows) ≡ lines_of comma semi rows = ap (lines_of comma semi) (take-append-drop at rows) in
    let cut : lines_of comma semi (drop at rows) ≡ lines_of comma semi (e ∷ drop (at + 1) rows) = ap (lines_of comma semi) rest in
    omega (arith, all, cut, lines_of-append comma semi (take at rows) (drop at rows))

pub lines_next : (comma semi at : ℕ) (rows : List Entity) (e : Entity) → slice_get rows at ≡ Some e
    → lines_of comma semi (take (at + 1) rows) ≡ lines_of comma semi (take at rows) + lines_of comma semi (e ∷ [])
lines_next comma semi at rows e is =
    ap (lines_of comma semi) (parts_at at rows e is).1 ∙ lines_of-append comma semi (take at rows) (e ∷ [])

-- ---- directory

pub entry_step : (comma semi at number first : ℕ) (out new : List ℕ) (rows : List Entity) (e : Entity) (total : List ℕ)
    → slice_get rows at ≡ Some e → first ≡ lines_of comma semi (take at rows) + 1
    → new ≡ out ++ (card 68 number (entry_first first e) ++ card 68 (number + 1) (entry_second (length (record_lines comma semi e)) e))
    → out ++ concat (cards 68 number (entry_lines comma semi (take at rows) (drop at rows))) ≡ total
    → new ++ concat (cards 68 (number + 2) (entry_lines comma semi (take (at + 1) rows) (drop (at + 1) rows))) ≡ total
unfolding entry_lines cards
entry_step comma semi at number first out new rows e total is begins put so_far =
    let (cut, front) = parts_at at rows e is in
    let rest = drop (at + 1) rows in
    let two = card 68 (number + 1) (entry_second (length (record_lines comma semi e)) e) in
    let whole : ℕ → ℕ → List Entity → List ℕ =
    λ (f n : ℕ) (before : List Entity). out ++ (card 68 number (entry_first f e) ++ (two ++ concat (cards 68 n (entry_lines comma semi before rest)))) in
    let more = concat (cards 68 (number + 2) (entry_lines comma semi (take (at + 1) rows) rest)) in
    let one = card 68 number (entry_first first e) in
    let glue : (out ++ (one ++ two)) ++ more ≡ out ++ (one ++ (two ++ more)) = simp append_assoc in
    let next : number + 2 ≡ number + 1 + 1 = omega arith in
    ap (λ (x : List ℕ). x ++ more) put ∙ glue
    ∙ ap (λ (f : ℕ). whole f (number + 2) (take (at + 1) rows)) begins
    ∙ ap (λ (n : ℕ). whole (lines_of comma semi (take at rows) + 1) n (take (at + 1) rows)) next
    ∙ ap (λ (b : List Entity). whole (lines_of comma semi (take at rows) + 1) (number + 1 + 1) b) front
    ∙ ap (λ (es : List Entity). out ++ concat (cards 68 number (entry_lines comma semi (take at rows) es))) (sym cut)
    ∙ so_far

pub entries_done : (comma semi at number : ℕ) (out : List ℕ) (rows : List Entity) (total : List ℕ) → length rows ≤ at
    → out ++ concat (cards 68 number (entry_lines comma semi (take at rows) (drop at rows))) ≡ total → out ≡ total
unfolding entry_lines cards
entries_done comma semi at number out rows total past so_far =
    sym (append-nil out)
    ∙ ap (λ (es : List Entity). out ++ concat (cards 68 number (entry_lines comma semi (take at rows) es))) (sym (drop_of_length-le rows past))
    ∙ so_far

-- ---- records

pub cards-append : (letter n : ℕ) (xs ys : List (List ℕ)) → cards letter n (xs ++ ys) ≡ cards letter n xs ++ cards letter (n + length xs) ys
unfolding cards
cards-append letter n [] ys = (let same : n ≡ n + 0 = omega arith in ap (λ (k : ℕ). cards letter k ys) same)
cards-append letter n (x ∷ xs) ys =
    let same : n + 1 + length xs ≡ n + suc (length xs) = omega arith in
    ap (λ (ls : List (List ℕ)). card letter n x ∷ ls) (cards-append letter (n + 1) xs ys ∙ ap (λ (k : ℕ). cards letter (n + 1) xs ++ cards letter k ys) same)

pub record_step : (comma semi at number first count : ℕ) (out new : List ℕ) (rows : List Entity) (e : Entity) (total : List ℕ)
    → slice_get rows at ≡ Some e → at < length rows → number ≡ 2 * at + 1 → count ≡ lines_of comma semi (e ∷ [])
    → new ≡ out ++ concat (cards 80 first (with_number number (record_lines comma semi e)))
    → out ++ concat (cards 80 first (records_lines comma semi (take at rows) (drop at rows))) ≡ total
    → new ++ concat (cards 80 (first + count) (records_lines comma semi (take (at + 1) rows) (drop (at + 1) rows))) ≡ total
unfolding records_lines
record_step comma semi at number first count out new rows e total is within odd many put so_far =
    let (cut, front) = parts_at at rows e is in
    let rest = drop (at + 1) rows in
    let lines = with_number number (record_lines comma semi e) in
    let more = records_lines comma semi (take (at + 1) rows) rest in
    let size : count ≡ length lines =
    omega (arith, many, record_lines_count comma semi e, length-map (record_lines comma semi e) (λ (line : List ℕ). line ++ 32 ∷ right_aligned 7 number)) in
    let joined : concat (cards 80 first lines) ++ concat (cards 80 (first + count) more) ≡ concat (cards 80 first (lines ++ more)) =
    ap (λ (k : ℕ). concat (cards 80 first lines) ++ concat (cards 80 (first + k) more)) size
    ∙ sym (concat-append (cards 80 first lines) (cards 80 (first + length lines) more))
    ∙ ap (λ (ls : List (List ℕ)). concat ls) (sym (cards-append 80 first lines more)) in
    let same : number ≡ 2 * length (take at rows) + 1 = omega (arith, odd, length-take_at at rows (omega arith)) in
    ap (λ (x : List ℕ). x ++ concat (cards 80 (first + count) more)) put
    ∙ append_assoc out (concat (cards 80 first lines)) (concat (cards 80 (first + count) more))
    ∙ ap (λ (x : List ℕ). out ++ x) joined
    ∙ ap (λ (n : ℕ). out ++ concat (cards 80 first (with_number n (record_lines comma semi e) ++ more))) same
    ∙ ap (λ (b : List Entity). out ++ concat (cards 80 first (with_number (2 * length (take at rows) + 1) (record_lines comma semi e) ++ records_lines comma semi b rest))) front
    ∙ ap (λ (es : List Entity). out ++ concat (cards 80 first (records_lines comma semi (take at rows) es))) (sym cut)
    ∙ so_far

pub records_done : (comma semi at first : ℕ) (out : List ℕ) (rows : List Entity) (total : List ℕ) → length rows ≤ at
    → out ++ concat (cards 80 first (records_lines comma semi (take at rows) (drop at rows))) ≡ total → out ≡ total
unfolding records_lines cards
records_done comma semi at first out rows total past so_far =
    sym (append-nil out)
    ∙ ap (λ (es : List Entity). out ++ concat (cards 80 first (records_lines comma semi (take at rows) es))) (sym (drop_of_length-le rows past))
    ∙ so_far

-- all entities are written
pub all_lines : (comma semi at first : ℕ) (rows : List Entity) → length rows ≤ at → first ≡ lines_of comma semi (take at rows) + 1
    → first ≡ length (records_lines comma semi [] rows) + 1
all_lines comma semi at first rows past begins =
    let joined : lines_of comma semi (take at rows ++ drop at rows) ≡ lines_of comma semi rows = ap (lines_of comma semi) (take-append-drop at rows) in
    let none : lines_of comma semi (drop at rows) ≡ 0 = ap (lines_of comma semi) (drop_of_length-le rows past) in
    omega (arith, begins, joined, none, lines_of-append comma semi (take at rows) (drop at rows), records_count comma semi [] rows)
