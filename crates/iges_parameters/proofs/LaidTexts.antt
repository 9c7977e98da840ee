-- Tokens that are laid one by one: with the delimiter after the last of them they are a record's text.
use Rattle.std.proofs.Common.{◌≡◌, ℕ, ◌+◌, ◌-◌, ◌^◌, ◌<◌, List, [], ◌∷◌, ◌++◌, length, take, replicate, decimal, refl, sym, ap, subst, ◌∙◌, arith, append_assoc, append-nil, length-append}
use Rattle.std.proofs.Math.Seq.{take-append_seam}
use Rattle.solid_base.specs.declared.entities.Token.{Token}
use Rattle.solid_base.specs.declared.entities.Token.TheVariants as token
use Rattle.solid_base.specs.declared.solids.Row.{Row}
use Rattle.solid_base.specs.declared.solids.Row.TheVariants as row
use Rattle.solid_base.specs.Ranges.{IsLawfulRow}
use Rattle.iges_fields.specs.Delimiters.{AreDelimiters}
use Rattle.iges_fields.specs.Grammar.{delimiter}
use Rattle.iges_fields.specs.Layout.{spelling_of_token, AreSpelt, IsHeld, AreHeld, is_last, piece, gap, placed, laid, AreLines}
use Rattle.iges_fields.proofs.Lines.{lines_read}
use Rattle.iges_parameters.specs.Writing.{tokens_of, record_text, IsOfRecord}
use Rattle.iges_parameters.specs.WrittenRows.{IsLaid}
use Rattle.iges_parameters.specs.LaidTexts.{laid_piece, laid_after}
use Rattle.iges_parameters.proofs.WrittenTokens.{AreReadAs, tokens_spelt, some_tokens, text_laid, lines_back}

-- a text less its last byte
without_last : (text : List ℕ) (b : ℕ) → take (length (text ++ b ∷ []) - 1) (text ++ b ∷ []) ≡ text
without_last text b =
    let size : length (text ++ b ∷ []) - 1 ≡ length text = omega (arith, length-append text (b ∷ [])) in
    ap (λ (n : ℕ). take n (text ++ b ∷ [])) size ∙ take-append_seam text (b ∷ [])

one_piece : (comma semi : ℕ) (text : List ℕ) (t : Token) → let whole = laid_piece text (piece comma t) in take (length whole - 1) whole ++ semi ∷ [] ≡ laid_piece text (piece semi t)
one_piece comma semi text t =
    let s = spelling_of_token t in
    let same : length (piece comma t) ≡ length (piece semi t) = omega (arith, length-append s (comma ∷ []), length-append s (semi ∷ [])) in
    let n = gap 64 (length text) (length (piece semi t)) in
    let front = text ++ (replicate n 32 ++ s) in
    let glue : (d : ℕ) → text ++ (replicate n 32 ++ (s ++ d ∷ [])) ≡ front ++ d ∷ [] = λ d. simp append_assoc in
    let whole : laid_piece text (piece comma t) ≡ front ++ comma ∷ [] =
    ap (λ (k : ℕ). text ++ (replicate (gap 64 (length text) k) 32 ++ piece comma t)) same ∙ glue comma in
    ap (λ (x : List ℕ). take (length x - 1) x ++ semi ∷ []) whole ∙ ap (λ (x : List ℕ). x ++ semi ∷ []) (without_last front comma) ∙ sym (glue semi)

pub last_replaced : (comma semi : ℕ) (text : List ℕ) (ts : List Token) → 0 < length ts
    → take (length (laid_after comma text ts) - 1) (laid_after comma text ts) ++ semi ∷ [] ≡ text ++ laid 64 comma semi (length text) ts
unfolding laid_after laid
last_replaced comma semi text [] some = absurd (omega arith)
last_replaced comma semi text (t ∷ []) some = one_piece comma semi text t ∙ ap (λ (x : List ℕ). text ++ x) (sym (append-nil (placed 64 (length text) (piece semi t))))
last_replaced comma semi text (t ∷ u ∷ ts) some =
    let p = placed 64 (length text) (piece comma t) in
    let more : ℕ → List ℕ = λ (n : ℕ). laid 64 comma semi n (u ∷ ts) in
    last_replaced comma semi (text ++ p) (u ∷ ts) (omega arith)
    ∙ ap (λ (n : ℕ). (text ++ p) ++ more n) (length-append text p)
    ∙ append_assoc text p (more (length text + length p))

-- ---- lines that hold a record's text

-- a token that is laid in memory is held there
held_piece : (t : Token) (d used : ℕ) → length (placed 64 used (piece d t)) < 2 ^ 64 → IsHeld t
held_piece token.Empty d used h = tt
held_piece (token.Whole text) d used h = tt
held_piece (token.Real text) d used h = tt
held_piece (token.Text text) d used h =
    let spelt = decimal (length text) ++ 72 ∷ text in
    let whole = length-append (replicate (gap 64 used (length (spelt ++ d ∷ []))) 32) (spelt ++ d ∷ []) in
    omega (arith, h, whole, length-append spelt (d ∷ []), length-append (decimal (length text)) (72 ∷ text))

pub laid_held : (comma semi used : ℕ) (ts : List Token) → length (laid 64 comma semi used ts) < 2 ^ 64 → AreHeld ts
unfolding laid
laid_held comma semi used [] h = tt
laid_held comma semi used (t ∷ ts) h =
    let d = delimiter comma semi (is_last ts) in
    let p = placed 64 used (piece d t) in
    let more = laid 64 comma semi (used + length p) ts in
    let whole = length-append p more in
    (held_piece t d used (omega (arith, h, whole)), laid_held comma semi (used + length p) ts (omega (arith, h, whole)))

-- a row that is read from a record is laid out by its tokens
pub laid_where_read : (r : Row) → IsOfRecord r → IsLaid r
laid_where_read row.Null h = absurd h
laid_where_read (row.Opaque kind form matrix text) h = absurd h
laid_where_read (row.Matrix form affine next) h = tt
laid_where_read (row.Prim p matrix) h = tt
laid_where_read (row.Tree items matrix) h = tt
laid_where_read (row.Assembly items matrix) h = tt
laid_where_read (row.Instance child matrix) h = tt

-- lines that hold a record's text are read back
pub record_back : (comma semi : ℕ) (r : Row) (tail : List Token) (text : List ℕ) (lines : List (List ℕ)) → IsLawfulRow r → AreSpelt tail → AreDelimiters comma semi
    → text ≡ record_text comma semi r tail → length text < 2 ^ 64 → AreLines 64 text lines → AreReadAs comma semi r tail lines
record_back comma semi r tail text lines lawful spelt law is short are = λ of_record.
    let ts = tokens_of r tail in
    let laid_out = laid_where_read r of_record in
    let same : text ≡ laid 64 comma semi 0 ts = is ∙ text_laid comma semi r tail laid_out in
    let held = laid_held comma semi 0 ts (subst (λ (x : List ℕ). length x < 2 ^ 64) same short) in
    let cut : AreLines 64 (laid 64 comma semi 0 ts) lines = subst (λ (x : List ℕ). AreLines 64 x lines) same are in
    let reads = λ (after : List ℕ). lines_read 64 comma semi ts lines after (some_tokens r tail ts laid_out refl) law (tokens_spelt r tail ts lawful spelt refl) held cut in
    lines_back comma semi r tail ts lines lawful refl reads of_record
