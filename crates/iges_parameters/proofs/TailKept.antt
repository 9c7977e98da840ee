-- What the fields after a row's parameters keep of the record's text: they are of one line where the text is, and are spelt with no more bytes than it has.
use Rattle.std.proofs.Common.{◌≡◌, ℕ, zero, suc, ◌+◌, ◌^◌, ◌<◌, ◌≤◌, List, [], ◌∷◌, ◌++◌, length, Bool, true, false, cond, Option, Some, None, Result, Ok, Err, refl, arith}
use Rattle.std.specs.List.{AllByRecursion}
use Rattle.solid_base.specs.Texts.{IsOneLine}
use Rattle.solid_base.specs.declared.entities.Token.{Token}
use Rattle.solid_base.specs.declared.solids.Row.{Row}
use Rattle.iges_fields.specs.declared.kinds.FieldKind.{FieldKind}
use Rattle.iges_fields.specs.declared.kinds.FieldKind.TheVariants as kind
use Rattle.iges_fields.specs.declared.faults.FieldFault.{FieldFault}
use Rattle.iges_fields.specs.Grammar.{IsSpelling, IsField}
use Rattle.iges_fields.specs.Layout.{kind_of_token, content_of_token, spelling_of_token, spelt_size, field_of, AreOneLine}
use Rattle.iges_fields.specs.Reading.{Reading, field_at}
use Rattle.iges_fields.proofs.Cuts.{read_is_spelt}
use Rattle.iges_fields.proofs.Kept.{field_line}
use Rattle.iges_fields.proofs.Sizes.{field_size}
use Rattle.iges_parameters.specs.RecordFields.{token_of, listed, fields_within, fields_of}
use Rattle.iges_parameters.specs.Records.{tail_from, record_of}
use Rattle.iges_parameters.proofs.TailLoop.{all_pushed}
use Rattle.iges_parameters.proofs.FieldsLeft.{IsOfRest, record_leaves}

-- ---- a field as a token
spelt_as : (k : FieldKind) (content spelt : List ℕ) → IsSpelling k content spelt → IsSpelling (kind_of_token (token_of k content)) (content_of_token (token_of k content)) spelt
spelt_as kind.Empty content spelt h = (refl, h.1)
spelt_as kind.Whole content spelt h = h
spelt_as kind.Real content spelt h = h
spelt_as kind.Text content spelt h = h

field_as : (comma semi : ℕ) (text : List ℕ) (f : Reading) → field_at comma semi text ≡ Ok f → IsField comma semi text (field_of (token_of f.kind f.text) f.rest f.ended)
field_as comma semi text f is =
    let h = read_is_spelt comma semi text f is in
    record { before = h.before; spelt = h.spelt; after = h.after; blank_before = h.blank_before; spells = spelt_as f.kind f.text h.spelt h.spells; blank_after = h.blank_after; is = h.is }

-- ---- of one line
abbrev pub IsLineField : Option Token → Type 0
IsLineField None = Unit {0}
IsLineField (Some t) = IsOneLine (content_of_token t)

abbrev pub AreLineFields : List (Option Token) → Type 0
AreLineFields fields = AllByRecursion IsLineField fields

rest_in_line : IsOfRest AreLineFields
rest_in_line o fields all = all.1

lines_unless : (v : Bool) (fields : List (Option Token)) → AreLineFields fields → AreLineFields (cond v [] fields)
lines_unless true fields all = tt
lines_unless false fields all = all

listed_in_line : (more : List ℕ → List (Option Token)) (r : Result Reading FieldFault)
    → ((f : Reading) → r ≡ Ok f → IsOneLine (content_of_token (token_of f.kind f.text)) × AreLineFields (more f.rest)) → AreLineFields (listed more r)
listed_in_line more (Err e) all = (tt, tt)
listed_in_line more (Ok f) all = let a = all f refl in (a.0, lines_unless f.ended (more f.rest) a.1)

within_in_line : (most comma semi : ℕ) (text : List ℕ) → IsOneLine text → AreLineFields (fields_within most comma semi text)
unfolding fields_within
within_in_line zero comma semi text one = tt
within_in_line (suc most) comma semi text one = listed_in_line (fields_within most comma semi) (field_at comma semi text) (λ f is.
    (let parts = field_line comma semi text (token_of f.kind f.text) f.rest f.ended one (field_as comma semi text f is) in (parts.0, within_in_line most comma semi f.rest parts.1)))

fields_in_line : (comma semi : ℕ) (text : List ℕ) → IsOneLine text → AreLineFields (fields_of comma semi text)
unfolding fields_of
fields_in_line comma semi text one = within_in_line (length text + 1) comma semi text one

tail_in_line : (before : List Token) (index : ℕ) (fields : List (Option Token)) (tail : List Token) → AreOneLine before → AreLineFields fields → tail_from before index fields ≡ Ok tail → AreOneLine tail
unfolding tail_from
tail_in_line before index [] tail so_far all is = let same : before ≡ tail = cc in rw same at so_far
tail_in_line before index (None ∷ fields) tail so_far all is = cc
tail_in_line before index (Some t ∷ fields) tail so_far all is =
    tail_in_line (before ++ t ∷ []) (index + 1) fields tail (all_pushed (λ u. IsOneLine (content_of_token u)) before t so_far all.0) all.1 is

-- a text of one line leaves a tail of one line
pub one_line_kept : (comma semi kind form matrix : ℕ) (text : List ℕ) (row : Row) (tail : List Token) → IsOneLine text
    → record_of kind form matrix (fields_of comma semi text) ≡ Ok (row, tail) → AreOneLine tail
one_line_kept comma semi kind form matrix text row tail one is =
    let t = record_leaves AreLineFields rest_in_line kind form matrix (fields_of comma semi text) row tail (fields_in_line comma semi text one) is in
    tail_in_line [] t.index t.fields tail tt t.left t.read

-- ---- sizes

-- how many bytes the fields that are tokens are spelt with, each with a delimiter
abbrev pub fields_size : List (Option Token) → ℕ
fields_size [] = 0
fields_size (None ∷ fields) = fields_size fields
fields_size (Some t ∷ fields) = length (spelling_of_token t) + 1 + fields_size fields

abbrev pub AreFieldsUpTo : ℕ → List (Option Token) → Type 0
AreFieldsUpTo most fields = fields_size fields ≤ most

rest_smaller : (most : ℕ) → IsOfRest (AreFieldsUpTo most)
rest_smaller most None fields all = all
rest_smaller most (Some t) fields all = omega (arith, all)

size_unless : (v : Bool) (fields : List (Option Token)) (most : ℕ) → fields_size fields ≤ most → fields_size (cond v [] fields) ≤ most
size_unless true fields most few = omega arith
size_unless false fields most few = few

listed_size : (more : List ℕ → List (Option Token)) (r : Result Reading FieldFault) (most : ℕ)
    → ((f : Reading) → r ≡ Ok f → length (spelling_of_token (token_of f.kind f.text)) + 1 + fields_size (more f.rest) ≤ most) → fields_size (listed more r) ≤ most
listed_size more (Err e) most all = omega arith
listed_size more (Ok f) most all = (let a = all f refl in let b = size_unless f.ended (more f.rest) (fields_size (more f.rest)) (omega arith) in omega (arith, a, b))

within_size : (most comma semi : ℕ) (text : List ℕ) → length text < 2 ^ 64 → fields_size (fields_within most comma semi text) ≤ length text
unfolding fields_within
within_size zero comma semi text small = omega arith
within_size (suc most) comma semi text small = listed_size (fields_within most comma semi) (field_at comma semi text) (length text) (λ f is.
    (let first = field_size comma semi text (token_of f.kind f.text) f.rest f.ended small (field_as comma semi text f is) in
    let rest = within_size most comma semi f.rest (omega (arith, first, small)) in
    omega (arith, first, rest)))

size_of_fields : (comma semi : ℕ) (text : List ℕ) → length text < 2 ^ 64 → fields_size (fields_of comma semi text) ≤ length text
unfolding fields_of
size_of_fields comma semi text small = within_size (length text + 1) comma semi text small

-- tokens take their room together
pub size_more : (ts us : List Token) → spelt_size (ts ++ us) ≡ spelt_size ts + spelt_size us
unfolding spelt_size
size_more [] us = omega arith
size_more (t ∷ ts) us = let more = size_more ts us in omega (arith, more)

size_one : (t : Token) → spelt_size (t ∷ []) ≡ length (spelling_of_token t) + 1
unfolding spelt_size
size_one t = omega arith

size_none : spelt_size [] ≡ 0
unfolding spelt_size
size_none = refl

tail_size : (before : List Token) (index : ℕ) (fields : List (Option Token)) (tail : List Token) → tail_from before index fields ≡ Ok tail → spelt_size tail ≤ spelt_size before + fields_size fields
unfolding tail_from
tail_size before index [] tail is = (let same : before ≡ tail = cc in rw same (omega arith))
tail_size before index (None ∷ fields) tail is = cc
tail_size before index (Some t ∷ fields) tail is =
    let more = tail_size (before ++ t ∷ []) (index + 1) fields tail is in
    omega (arith, more, size_more before (t ∷ []), size_one t)

-- the fields after a row's parameters are spelt with no more bytes than the record's text has
pub tail_no_longer : (comma semi kind form matrix : ℕ) (text : List ℕ) (row : Row) (tail : List Token) → length text < 2 ^ 64
    → record_of kind form matrix (fields_of comma semi text) ≡ Ok (row, tail) → spelt_size tail ≤ length text
tail_no_longer comma semi kind form matrix text row tail small is =
    let t = record_leaves (AreFieldsUpTo (length text)) (rest_smaller (length text)) kind form matrix (fields_of comma semi text) row tail (size_of_fields comma semi text small) is in
    let end = tail_size [] t.index t.fields tail t.read in
    omega (arith, end, t.left, size_none)
