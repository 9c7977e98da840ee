-- Written texts are of one line, none is empty, and no text in them is longer than memory can hold.
use Rattle.std.proofs.Common.{◌≡◌, ◌≢◌, ℕ, ℤ, pos, ◌+◌, ◌^◌, ◌<◌, List, [], ◌∷◌, ◌++◌, Bool, true, false, length, map, replicate, decimal, refl, arith, length-append}
use Rattle.std.specs.List.{AllByRecursion}
use Rattle.std.proofs.lemmas.Bool.Decides.{nat_tests}
use Rattle.std.proofs.lemmas.List.{length-replicate}
use Rattle.solid_base.specs.declared.entities.Token.{Token}
use Rattle.solid_base.specs.declared.entities.Token.TheVariants as token
use Rattle.solid_base.specs.declared.solids.Item.{Item}
use Rattle.solid_base.specs.declared.solids.Placed.{Placed}
use Rattle.solid_base.specs.declared.solids.Row.{Row}
use Rattle.solid_base.specs.declared.solids.Row.TheVariants as row
use Rattle.solid_base.specs.Texts.{IsOneLine}
use Rattle.solid_base.specs.Ranges.{IsLawfulRow}
use Rattle.solid_base.proofs.DecimalTexts.{decimal_digits}
use Rattle.solid_base.proofs.Prefix.{AllPass}
use Rattle.solid_base.proofs.Texts.{one_line_joined}
use Rattle.iges_fields.specs.Delimiters.{is_numeric, is_lawful, AreDelimiters}
use Rattle.iges_fields.specs.Grammar.{delimiter}
use Rattle.iges_fields.specs.Layout.{content_of_token, spelling_of_token, IsSpelt, AreSpelt, IsHeld, AreHeld, AreOneLine, is_last, piece, gap, placed, laid}
use Rattle.iges_fields.proofs.Numerics.{whole_numeric, real_numeric}
use Rattle.iges_parameters.specs.Tables.{matrix_rules, instance_rules}
use Rattle.iges_parameters.specs.Writing.{whole, number_of_item, rules_of_prim, numbers_of_prim, numbers_of_affine, tokens_by, token_by, parameters_of, tokens_of}
use Rattle.iges_parameters.specs.declared.tables.Rule.{Rule}
use Rattle.iges_parameters.specs.declared.tables.Values.{Values}
use Rattle.iges_parameters.specs.declared.tables.Values.TheVariants as values
use Rattle.iges_parameters.proofs.WrittenTokens.{tokens_spelt}
use Rattle.iges_file.proofs.WrittenNumbers.{blanks_in_line, digits_in_line}

-- ---- numbers

numeric_no_feed : (b : ℕ) → is_numeric b ≡ true → b ≢ 10
numeric_no_feed b h = grind (arith, nat_tests)

numeric_in_line : (text : List ℕ) → AllPass is_numeric text → IsOneLine text
numeric_in_line [] h = tt
numeric_in_line (b ∷ text) h = (numeric_no_feed b h.0, numeric_in_line text h.1)

-- a token that is a number
abbrev IsNumberToken : Token → Type 0
IsNumberToken token.Empty = ⊥
IsNumberToken (token.Whole text) = Unit {0}
IsNumberToken (token.Real text) = Unit {0}
IsNumberToken (token.Text text) = ⊥

abbrev AreNumbers : List Token → Type 0
AreNumbers ts = AllByRecursion IsNumberToken ts

number_in_line : (t : Token) → IsNumberToken t → IsSpelt t → IsOneLine (content_of_token t)
number_in_line token.Empty n h = absurd n
number_in_line (token.Whole text) n h = numeric_in_line text (whole_numeric text h)
number_in_line (token.Real text) n h = numeric_in_line text (real_numeric text h)
number_in_line (token.Text text) n h = absurd n

numbers_in_line : (ts : List Token) → AreNumbers ts → AreSpelt ts → AreOneLine ts
numbers_in_line [] n h = tt
numbers_in_line (t ∷ ts) n h = (number_in_line t n.0 h.0, numbers_in_line ts n.1 h.1)

token_is_number : (v : Values) (n : ℤ) → IsNumberToken (token_by v n)
token_is_number values.Real n = tt
token_is_number values.Size n = tt
token_is_number (values.SizeBelow other) n = tt
token_is_number (values.Below other) n = tt
token_is_number values.Count n = tt
token_is_number values.Number n = tt

by_rules : (rules : List Rule) (ns : List ℤ) → AreNumbers (tokens_by rules ns)
unfolding tokens_by
by_rules [] ns = tt
by_rules (rule ∷ rules) [] = tt
by_rules (rule ∷ rules) (n ∷ ns) = (token_is_number rule.values n, by_rules rules ns)

by_items : (items : List Item) → AreNumbers (map (λ i. whole (number_of_item i)) items)
by_items [] = tt
by_items (i ∷ items) = (tt, by_items items)

by_entities : (items : List Placed) → AreNumbers (map (λ p. whole (pos p.item)) items)
by_entities [] = tt
by_entities (p ∷ items) = (tt, by_entities items)

by_matrices : (items : List Placed) → AreNumbers (map (λ p. whole (pos p.matrix)) items)
by_matrices [] = tt
by_matrices (p ∷ items) = (tt, by_matrices items)

numbers_joined : (ts us : List Token) → AreNumbers ts → AreNumbers us → AreNumbers (ts ++ us)
numbers_joined [] us h k = k
numbers_joined (t ∷ ts) us h k = (h.0, numbers_joined ts us h.1 k)

parameters_are_numbers : (r : Row) → AreNumbers (parameters_of r)
unfolding parameters_of
parameters_are_numbers row.Null = (tt, tt)
parameters_are_numbers (row.Opaque kind form matrix text) = tt
parameters_are_numbers (row.Matrix form affine next) = (tt, by_rules matrix_rules (numbers_of_affine affine))
parameters_are_numbers (row.Prim p matrix) = (tt, by_rules (rules_of_prim p) (numbers_of_prim p))
parameters_are_numbers (row.Tree items matrix) = (tt, (tt, by_items items))
parameters_are_numbers (row.Assembly items matrix) = (tt, (tt, numbers_joined (map (λ p. whole (pos p.item)) items) (map (λ p. whole (pos p.matrix)) items) (by_entities items) (by_matrices items)))
parameters_are_numbers (row.Instance child matrix) = (tt, by_rules instance_rules (pos child ∷ []))

in_line_joined : (ts us : List Token) → AreOneLine ts → AreOneLine us → AreOneLine (ts ++ us)
in_line_joined [] us h k = k
in_line_joined (t ∷ ts) us h k = (h.0, in_line_joined ts us h.1 k)

spelt_front : (ts us : List Token) → AreSpelt (ts ++ us) → AreSpelt ts
spelt_front [] us h = tt
spelt_front (t ∷ ts) us h = (h.0, spelt_front ts us h.1)

pub tokens_in_line : (r : Row) (tail : List Token) → IsLawfulRow r → AreSpelt tail → AreOneLine tail → AreOneLine (tokens_of r tail)
tokens_in_line r tail lawful spelt in_line =
    let all = tokens_spelt r tail (tokens_of r tail) lawful spelt refl in
    in_line_joined (parameters_of r) tail (numbers_in_line (parameters_of r) (parameters_are_numbers r) (spelt_front (parameters_of r) tail all)) in_line

-- ---- how large tokens are

laid_joined : (width comma semi used : ℕ) (t : Token) (ts : List Token) → (more : ℕ)
    × (length (laid width comma semi used (t ∷ ts)) ≡ gap width used (length (piece (delimiter comma semi (is_last ts)) t)) + (length (spelling_of_token t) + 1) + length (laid width comma semi more ts))
unfolding laid
laid_joined width comma semi used t ts =
    let p = piece (delimiter comma semi (is_last ts)) t in
    let q = placed width used p in
    let more = used + length q in
    let size = length-append (spelling_of_token t) (delimiter comma semi (is_last ts) ∷ []) in
    let fill = length-append (replicate (gap width used (length p)) 32) p in
    let blank = length-replicate {A = ℕ} (gap width used (length p)) 32 in
    (more, omega (arith, size, fill, blank, length-append q (laid width comma semi more ts)))

pub laid_some : (width comma semi used : ℕ) (ts : List Token) → 0 < length ts → 0 < length (laid width comma semi used ts)
laid_some width comma semi used [] some = absurd (omega arith)
laid_some width comma semi used (t ∷ ts) some = (let parts = laid_joined width comma semi used t ts in omega (arith, parts.1))

held : (t : Token) → length (spelling_of_token t) < 2 ^ 64 → IsHeld t
held token.Empty h = tt
held (token.Whole text) h = tt
held (token.Real text) h = tt
held (token.Text text) h = omega (arith, h, length-append (decimal (length text)) (72 ∷ text))

pub laid_held : (width comma semi used : ℕ) (ts : List Token) → length (laid width comma semi used ts) < 2 ^ 64 → AreHeld ts
laid_held width comma semi used [] h = tt
laid_held width comma semi used (t ∷ ts) h =
    let parts = laid_joined width comma semi used t ts in
    (held t (omega (arith, h, parts.1)), laid_held width comma semi parts.0 ts (omega (arith, h, parts.1)))

-- ---- laid tokens are of one line

lawful_no_feed : (d : ℕ) → is_lawful d ≡ true → d ≢ 10
lawful_no_feed d h = grind (arith, nat_tests)

pub delimiter_no_feed : (comma semi : ℕ) (ended : Bool) → AreDelimiters comma semi → delimiter comma semi ended ≢ 10
delimiter_no_feed comma semi true h = lawful_no_feed semi h.1
delimiter_no_feed comma semi false h = lawful_no_feed comma h.0

spelling_in_line : (t : Token) → IsHeld t → IsOneLine (content_of_token t) → IsOneLine (spelling_of_token t)
spelling_in_line token.Empty s h = tt
spelling_in_line (token.Whole text) s h = h
spelling_in_line (token.Real text) s h = h
spelling_in_line (token.Text text) s h = one_line_joined (decimal (length text)) (72 ∷ text) (digits_in_line (decimal (length text)) (decimal_digits (length text) s)) (λ e. absurd (omega (arith, e)), h)

pub laid_in_line : (width comma semi used : ℕ) (ts : List Token) → AreDelimiters comma semi → AreHeld ts → AreOneLine ts → IsOneLine (laid width comma semi used ts)
unfolding laid
laid_in_line width comma semi used [] law s h = tt
laid_in_line width comma semi used (t ∷ ts) law s h =
    let d = delimiter comma semi (is_last ts) in
    let p = piece d t in
    let q = placed width used p in
    let one : IsOneLine p = one_line_joined (spelling_of_token t) (d ∷ []) (spelling_in_line t s.0 h.0) (delimiter_no_feed comma semi (is_last ts) law, tt) in
    one_line_joined q (laid width comma semi (used + length q) ts) (one_line_joined (replicate (gap width used (length p)) 32) p (blanks_in_line (gap width used (length p))) one)
    (laid_in_line width comma semi (used + length q) ts law s.1 h.1)
