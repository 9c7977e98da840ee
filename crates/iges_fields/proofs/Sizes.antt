-- How much room tokens take: laid in lines, and in the text that they were read from.
use Rattle.std.proofs.Common.{◌≡◌, ℕ, ◌+◌, ◌-◌, ◌*◌, ◌%◌, ◌^◌, ◌<◌, ◌≤◌, List, [], ◌∷◌, ◌++◌, length, replicate, decimal, Bool, true, false, cond, ◌||◌, ◌==◌, nat_le, refl, ap, subst, ◌∙◌, arith, length-append}
use Rattle.std.proofs.lemmas.Fmt.{length-decimal-le}
use Rattle.std.proofs.lemmas.List.{length-replicate}
use Rattle.solid_base.specs.declared.entities.Token.{Token}
use Rattle.solid_base.specs.declared.entities.Token.TheVariants as token
use Rattle.solid_base.proofs.Digits.{number_of_less}
use Rattle.iges_fields.specs.Grammar.{IsSpelling, delimiter, IsField}
use Rattle.iges_fields.specs.Layout.{kind_of_token, content_of_token, spelling_of_token, spelt_size, field_of, is_last, AreFields, piece, gap, placed, laid}

-- ---- in lines
-- a gap is shorter than the piece that didn't fit
gap_when : (column size width : ℕ) (v : Bool) → ((column == 0) || nat_le (column + size) width) ≡ v → cond v 0 (width - column) ≤ size
gap_when column size width true e = omega arith
gap_when column size width false e = (let past : width < column + size = grind arith in omega (arith, past))

gap_within : (width used size : ℕ) → gap width used size ≤ size
gap_within width used size = gap_when (used % width) size width ((used % width == 0) || nat_le (used % width + size) width) refl

piece_size : (d : ℕ) (t : Token) → length (piece d t) ≡ length (spelling_of_token t) + 1
piece_size d t = length-append (spelling_of_token t) (d ∷ [])

placed_size : (width used : ℕ) (bytes : List ℕ) → length (placed width used bytes) ≤ 2 * length bytes
placed_size width used bytes =
    let n = gap width used (length bytes) in
    let whole = length-append (replicate n 32) bytes in
    let blanks = length-replicate {A = ℕ} n 32 in
    omega (arith, whole, blanks, gap_within width used (length bytes))

-- tokens take at most twice as many bytes in lines as they are spelt with
pub laid_size : (width comma semi used : ℕ) (ts : List Token) → length (laid width comma semi used ts) ≤ 2 * spelt_size ts
unfolding laid spelt_size
laid_size width comma semi used [] = omega arith
laid_size width comma semi used (t ∷ ts) =
    let d = delimiter comma semi (is_last ts) in
    let p = placed width used (piece d t) in
    let more = laid_size width comma semi (used + length p) ts in
    let whole = length-append p (laid width comma semi (used + length p) ts) in
    let first = placed_size width used (piece d t) in
    omega (arith, whole, first, piece_size d t, more)

-- ---- in the text that they were read from
-- a token is spelt with no more bytes than its field
pub token_size : (t : Token) (spelt : List ℕ) → length spelt < 2 ^ 64 → IsSpelling (kind_of_token t) (content_of_token t) spelt → length (spelling_of_token t) ≤ length spelt
token_size token.Empty spelt small h = omega arith
token_size (token.Whole text) spelt small h = (let e = ap (length {A = ℕ}) h.1 in omega (arith, e))
token_size (token.Real text) spelt small h = (let e = ap (length {A = ℕ}) h.1 in omega (arith, e))
token_size (token.Text text) spelt small h =
    let parts = ap (length {A = ℕ}) h.is ∙ length-append h.digits (72 ∷ text) in
    let below : length text < 10 ^ length h.digits = subst (λ n. n < 10 ^ length h.digits) h.counts (number_of_less h.digits h.are_digits) in
    let count = length-decimal-le (length h.digits) (length text) h.some below (omega (arith, parts, small)) in
    let whole = length-append (decimal (length text)) (72 ∷ text) in
    omega (arith, parts, count, whole)

-- a token with one delimiter and what stands after its field are together no longer than the text
pub field_size : (comma semi : ℕ) (text : List ℕ) (t : Token) (rest : List ℕ) (ended : Bool) → length text < 2 ^ 64 → IsField comma semi text (field_of t rest ended)
    → length (spelling_of_token t) + 1 + length rest ≤ length text
field_size comma semi text t rest ended small h =
    let end : List ℕ = delimiter comma semi ended ∷ rest in
    let whole = ap (length {A = ℕ}) h.is in
    let a = length-append h.before (h.spelt ++ (h.after ++ end)) in
    let b = length-append h.spelt (h.after ++ end) in
    let c = length-append h.after end in
    let spelling = token_size t h.spelt (omega (arith, whole, a, b, c, small)) h.spells in
    omega (arith, whole, a, b, c, spelling)

-- tokens are spelt with no more bytes than the text that has them as its fields
pub fields_size : (comma semi : ℕ) (text : List ℕ) (ts : List Token) → length text < 2 ^ 64 → AreFields comma semi text ts → spelt_size ts ≤ length text
unfolding spelt_size
fields_size comma semi text [] small h = omega arith
fields_size comma semi text (t ∷ ts) small h =
    let rest = h.0 in
    let first = field_size comma semi text t rest (is_last ts) small h.1 in
    let more = fields_size comma semi rest ts (omega (arith, first, small)) h.2 in
    omega (arith, first, more)
