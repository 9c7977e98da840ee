-- The written directory is a directory: each entity's two lines are its entry.
use Rattle.std.proofs.Common.{◌≡◌, ◌⊎◌, ℕ, suc, ◌+◌, ◌-◌, ◌*◌, ◌^◌, ◌<◌, ◌≤◌, List, [], ◌∷◌, ◌++◌, Bool, true, false, cond, ◌==◌, length, take, drop, refl, sym, ap, subst, ◌∙◌, arith, inl, inr, append_assoc, length-append, length-drop, length-take-le}
use Rattle.std.specs.List.{AllByRecursion}
use Rattle.std.proofs.lemmas.List.{take-append-drop, drop-drop}
use Rattle.std.proofs.Math.Seq.{take-append_seam, drop-append_seam, take-length}
use Rattle.solid_base.specs.declared.entities.Entity.{Entity}
use Rattle.solid_base.specs.declared.solids.Primitive.{Primitive}
use Rattle.solid_base.specs.declared.solids.Primitive.TheVariants as prim
use Rattle.solid_base.specs.declared.solids.Row.{Row}
use Rattle.solid_base.specs.declared.solids.Row.TheVariants as row
use Rattle.solid_base.specs.Ranges.{IsLawfulRow}
use Rattle.solid_base.specs.Texts.{IsOneLine}
use Rattle.solid_base.proofs.Texts.{one_line_joined}
use Rattle.iges_directory.specs.declared.pairs.Pair.{Pair}
use Rattle.iges_directory.specs.ColumnNumbers.{IsNumber}
use Rattle.iges_directory.specs.Pairs.{fields, field, null_pair, HoldsWithin, IsOfType, IsEntity, IsPair, ArePairs, text_of}
use Rattle.iges_directory.proofs.PairForms.{other_test}
use Rattle.iges_parameters.specs.Accepted.{IsAcceptedEntity, IsKeptRecord, lines_of}
use Rattle.iges_parameters.specs.Writing.{type_of_prim, type_of_row, form_of_row, matrix_of_row}
use Rattle.iges_write.specs.Cards.{right_aligned}
use Rattle.iges_write.specs.CanonicalFile.{record_lines, entry_first, entry_second, entry_lines}
use Rattle.iges_write.proofs.EntitySteps.{lines_of-append, record_lines_count}
use Rattle.iges_file.proofs.WrittenNumbers.{right_width, right_in_line, right_is_field}
use Rattle.iges_file.proofs.WrittenLines.{line_taken, line_dropped}
use Rattle.iges_file.proofs.WrittenCards.{IsText, face, face_width, kept_of}

-- ---- parts of a line

part : (a b c line : List ℕ) (n k : ℕ) → line ≡ a ++ (b ++ c) → length a ≡ n → length b ≡ k → take k (drop n line) ≡ b
part a b c line n k is front size =
    ap (λ (x : List ℕ). take k (drop n x)) is
    ∙ ap (λ (j : ℕ). take k (drop j (a ++ (b ++ c)))) (sym front)
    ∙ ap (take k) (drop-append_seam a (b ++ c))
    ∙ ap (λ (j : ℕ). take j (b ++ c)) (sym size)
    ∙ take-append_seam b c

-- five parts of these sizes, and what stands after them
pub record AreParts (line a b c d e : List ℕ) (p q r s t : ℕ) : Type 0 where
  pub first : take p (drop 0 line) ≡ a
  pub second : take q (drop p line) ≡ b
  pub third : take r (drop (p + q) line) ≡ c
  pub fourth : take s (drop (p + q + r) line) ≡ d
  pub fifth : take t (drop (p + q + r + s) line) ≡ e

pub five_parts : (a b c d e rest : List ℕ) (p q r s t : ℕ) → length a ≡ p → length b ≡ q → length c ≡ r → length d ≡ s → length e ≡ t
    → AreParts (((((a ++ b) ++ c) ++ d) ++ e) ++ rest) a b c d e p q r s t
five_parts a b c d e rest p q r s t la lb lc ld le =
    let line : List ℕ = ((((a ++ b) ++ c) ++ d) ++ e) ++ rest in
    let ab = length-append a b in
    let abc = length-append (a ++ b) c in
    let abcd = length-append ((a ++ b) ++ c) d in
    record {
      first = part [] a (b ++ (c ++ (d ++ (e ++ rest)))) line 0 p (simp append_assoc) refl la;
      second = part a b (c ++ (d ++ (e ++ rest))) line p q (simp append_assoc) la lb;
      third = part (a ++ b) c (d ++ (e ++ rest)) line (p + q) r (simp append_assoc) (omega (arith, ab, la, lb)) lc;
      fourth = part ((a ++ b) ++ c) d (e ++ rest) line (p + q + r) s (simp append_assoc) (omega (arith, ab, abc, la, lb, lc)) ld;
      fifth = part (((a ++ b) ++ c) ++ d) e rest line (p + q + r + s) t (append_assoc (((a ++ b) ++ c) ++ d) e rest) (omega (arith, ab, abc, abcd, la, lb, lc, ld)) le;
    }

-- ---- attributes

cut_size : (n k : ℕ) (text : List ℕ) → n + k ≤ length text → length (take k (drop n text)) ≡ k
cut_size n k text fits = length-take-le k (drop n text) (omega (arith, fits, length-drop n text))

attributes_back : (attrs : List ℕ) → length attrs ≡ 96 → ((take 32 attrs ++ take 16 (drop 32 attrs)) ++ take 16 (drop 48 attrs)) ++ take 32 (drop 64 attrs) ≡ attrs
attributes_back attrs h =
    let d64 = drop 64 attrs in
    let last : take 32 d64 ≡ d64 = (let size : length d64 ≡ 32 = omega (arith, h, length-drop 64 attrs) in ap (λ (n : ℕ). take n d64) (sym size) ∙ take-length d64) in
    let d48 : drop 16 (drop 48 attrs) ≡ d64 = drop-drop 16 48 attrs in
    let d32 : drop 16 (drop 32 attrs) ≡ drop 48 attrs = drop-drop 16 32 attrs in
    let three : take 16 (drop 48 attrs) ++ d64 ≡ drop 48 attrs = ap (λ (x : List ℕ). take 16 (drop 48 attrs) ++ x) (sym d48) ∙ take-append-drop 16 (drop 48 attrs) in
    let two : take 16 (drop 32 attrs) ++ drop 48 attrs ≡ drop 32 attrs = ap (λ (x : List ℕ). take 16 (drop 32 attrs) ++ x) (sym d32) ∙ take-append-drop 16 (drop 32 attrs) in
    let glue : ((take 32 attrs ++ take 16 (drop 32 attrs)) ++ take 16 (drop 48 attrs)) ++ d64 ≡ take 32 attrs ++ (take 16 (drop 32 attrs) ++ (take 16 (drop 48 attrs) ++ d64)) = simp append_assoc in
    ap (λ (x : List ℕ). ((take 32 attrs ++ take 16 (drop 32 attrs)) ++ take 16 (drop 48 attrs)) ++ x) last
    ∙ glue
    ∙ ap (λ (x : List ℕ). take 32 attrs ++ (take 16 (drop 32 attrs) ++ x)) three
    ∙ ap (λ (x : List ℕ). take 32 attrs ++ x) two
    ∙ take-append-drop 32 attrs

-- ---- numbers of an entry

prim_type : (p : Primitive) → (1 ≤ type_of_prim p) × (type_of_prim p ≤ 99999)
prim_type (prim.Block size corner u w) = (omega arith, omega arith)
prim_type (prim.Wedge size ltx corner u w) = (omega arith, omega arith)
prim_type (prim.Cylinder h r foot w) = (omega arith, omega arith)
prim_type (prim.Cone h r1 r2 foot w) = (omega arith, omega arith)
prim_type (prim.Sphere r centre) = (omega arith, omega arith)
prim_type (prim.Torus r1 r2 centre w) = (omega arith, omega arith)
prim_type (prim.Ellipsoid size centre u w) = (omega arith, omega arith)

-- a record that isn't read is kept
abbrev pub IsKeptRow : Row → Type 0
IsKeptRow r = (kind form matrix : ℕ) (text : List ℕ) → r ≡ row.Opaque kind form matrix text → IsKeptRecord kind form text

pub type_within : (r : Row) → IsKeptRow r → type_of_row r ≤ 99999
type_within row.Null k = omega arith
type_within (row.Opaque kind form matrix text) k = (k kind form matrix text refl).kind_to
type_within (row.Matrix form affine next) k = omega arith
type_within (row.Prim p matrix) k = (prim_type p).1
type_within (row.Tree items matrix) k = omega arith
type_within (row.Assembly items matrix) k = omega arith
type_within (row.Instance child matrix) k = omega arith

form_within : (r : Row) → IsLawfulRow r → IsKeptRow r → form_of_row r ≤ 99999
form_within row.Null h k = omega arith
form_within (row.Opaque kind form matrix text) h k = (k kind form matrix text refl).form_to
form_within (row.Matrix form affine next) h k = omega (arith, h.0)
form_within (row.Prim p matrix) h k = omega arith
form_within (row.Tree items matrix) h k = omega arith
form_within (row.Assembly items matrix) h k = omega arith
form_within (row.Instance child matrix) h k = omega arith

-- a row holds nothing, or its type isn't 0
pub null_or_not : (r : Row) → IsKeptRow r → (r ≡ row.Null) ⊎ (1 ≤ type_of_row r)
null_or_not row.Null k = inl refl
null_or_not (row.Opaque kind form matrix text) k = inr (k kind form matrix text refl).kind_from
null_or_not (row.Matrix form affine next) k = inr (omega arith)
null_or_not (row.Prim p matrix) k = inr (prim_type p).0
null_or_not (row.Tree items matrix) k = inr (omega arith)
null_or_not (row.Assembly items matrix) k = inr (omega arith)
null_or_not (row.Instance child matrix) k = inr (omega arith)

holds : (least most n : ℕ) (columns : List ℕ) → columns ≡ right_aligned 8 n → least ≤ n → n ≤ most → n < 2 ^ 64 → HoldsWithin least most n columns
holds least most n columns is low high fits = record { number = subst (λ (x : List ℕ). IsNumber n x) (sym is) (right_is_field 8 n fits); at_least = low; at_most = high }

-- ---- entries

-- the entry of an entity that isn't null
abbrev pub whole_pair : ℕ → ℕ → Entity → Pair
whole_pair first count e = record { kind = type_of_row e.row; first = first; count = count; matrix = matrix_of_row e.row; form = form_of_row e.row; attrs = e.attrs }

-- the entry of an entity
abbrev pub pair_of : ℕ → ℕ → Entity → Pair
pair_of first count e = cond (type_of_row e.row == 0) null_pair (whole_pair first count e)

unfoldable pub pairs_of : ℕ → ℕ → List Entity → List Entity → List Pair
pairs_of comma semi before [] = []
pairs_of comma semi before (e ∷ es) =
    pair_of (lines_of comma semi before + 1) (length (record_lines comma semi e)) e ∷ pairs_of comma semi (before ++ e ∷ []) es

width_8 : (n : ℕ) → n ≤ 9999999 → length (right_aligned 8 n) ≡ 8
width_8 n small = right_width 8 n (omega arith) (omega (arith, small)) (omega (arith, small))

-- the numbers that stand in an entity's lines
pub record AreSmall (first count : ℕ) (e : Entity) : Type 0 where
  pub kind : type_of_row e.row ≤ 99999
  pub first_line : first ≤ 9999999
  pub line_count : count ≤ 9999999
  pub matrix : matrix_of_row e.row ≤ 9999999
  pub form : form_of_row e.row ≤ 99999
  pub attributes : length e.attrs ≡ 96

pub are_small : (first count : ℕ) (e : Entity) → IsAcceptedEntity e → first ≤ 9999999 → count ≤ 9999999 → AreSmall first count e
are_small first count e h f c = record {
  kind = type_within e.row h.kept_where_unread;
  first_line = f;
  line_count = c;
  matrix = h.matrix;
  form = form_within e.row h.lawful h.kept_where_unread;
  attributes = h.attributes;
}

first_parts : (first count n : ℕ) (e : Entity) → AreSmall first count e
    → AreParts (face 68 n (entry_first first e)) (right_aligned 8 (type_of_row e.row)) (right_aligned 8 first) (take 32 e.attrs) (right_aligned 8 (matrix_of_row e.row)) (take 16 (drop 32 e.attrs)) 8 8 32 8 16
unfolding entry_first
first_parts first count n e h =
    five_parts (right_aligned 8 (type_of_row e.row)) (right_aligned 8 first) (take 32 e.attrs) (right_aligned 8 (matrix_of_row e.row)) (take 16 (drop 32 e.attrs)) (68 ∷ right_aligned 7 n) 8 8 32 8 16
    (width_8 (type_of_row e.row) (omega (arith, h.kind))) (width_8 first h.first_line) (cut_size 0 32 e.attrs (omega (arith, h.attributes))) (width_8 (matrix_of_row e.row) h.matrix) (cut_size 32 16 e.attrs (omega (arith, h.attributes)))

second_parts : (first count n : ℕ) (e : Entity) → AreSmall first count e
    → AreParts (face 68 n (entry_second count e)) (right_aligned 8 (type_of_row e.row)) (take 16 (drop 48 e.attrs)) (right_aligned 8 count) (right_aligned 8 (form_of_row e.row)) (take 32 (drop 64 e.attrs)) 8 16 8 8 32
unfolding entry_second
second_parts first count n e h =
    five_parts (right_aligned 8 (type_of_row e.row)) (take 16 (drop 48 e.attrs)) (right_aligned 8 count) (right_aligned 8 (form_of_row e.row)) (take 32 (drop 64 e.attrs)) (68 ∷ right_aligned 7 n) 8 16 8 8 32
    (width_8 (type_of_row e.row) (omega (arith, h.kind))) (cut_size 48 16 e.attrs (omega (arith, h.attributes))) (width_8 count h.line_count) (width_8 (form_of_row e.row) (omega (arith, h.form))) (cut_size 64 32 e.attrs (omega (arith, h.attributes)))

entry_type : (first count n m : ℕ) (e : Entity) → AreSmall first count e → IsOfType (type_of_row e.row) (face 68 n (entry_first first e)) (face 68 m (entry_second count e))
entry_type first count n m e h =
    let one = first_parts first count n e h in
    let two = second_parts first count m e h in
    let kind = type_of_row e.row in
    let fits : kind < 2 ^ 64 = omega (arith, h.kind) in
    record { first = holds 0 99999 kind _ one.first (omega arith) h.kind fits; second = inl (holds 0 99999 kind _ two.first (omega arith) h.kind fits) }

is_entity : (params first count n m : ℕ) (e : Entity) → AreSmall first count e → 1 ≤ type_of_row e.row → 1 ≤ first → 1 ≤ count → first + count ≤ params + 1
    → IsEntity params (face 68 n (entry_first first e)) (face 68 m (entry_second count e)) (whole_pair first count e)
is_entity params first count n m e h some f c fits =
    let one = first_parts first count n e h in
    let two = second_parts first count m e h in
    let line = face 68 n (entry_first first e) in
    let more = face 68 m (entry_second count e) in
    record {
      of_type = entry_type first count n m e h;
      not_null = λ z. absurd (omega (arith, z, some));
      first = holds 1 params first (field 2 line) one.second f (omega (arith, fits, c)) (omega (arith, h.first_line));
      count = holds 1 (params - first + 1) count (field 4 more) two.third c (omega (arith, fits)) (omega (arith, h.line_count));
      matrix = holds 0 9999999 (matrix_of_row e.row) (field 7 line) one.fourth (omega arith) h.matrix (omega (arith, h.matrix));
      form = holds 0 99999 (form_of_row e.row) (field 5 more) two.fourth (omega arith) h.form (omega (arith, h.form));
      attrs = sym (attributes_back e.attrs h.attributes)
          ∙ ap (λ (x : List ℕ). ((x ++ take 16 (drop 32 e.attrs)) ++ take 16 (drop 48 e.attrs)) ++ take 32 (drop 64 e.attrs)) (sym one.third)
          ∙ ap (λ (x : List ℕ). ((fields 3 6 line ++ x) ++ take 16 (drop 48 e.attrs)) ++ take 32 (drop 64 e.attrs)) (sym one.fifth)
          ∙ ap (λ (x : List ℕ). ((fields 3 6 line ++ fields 8 9 line) ++ x) ++ take 32 (drop 64 e.attrs)) (sym two.second)
          ∙ ap (λ (x : List ℕ). ((fields 3 6 line ++ fields 8 9 line) ++ fields 2 3 more) ++ x) (sym two.fifth);
    }

is_pair : (params first count n m : ℕ) (e : Entity) → IsAcceptedEntity e → AreSmall first count e → 1 ≤ first → 1 ≤ count → first + count ≤ params + 1
    → IsPair params (face 68 n (entry_first first e)) (face 68 m (entry_second count e)) (pair_of first count e)
is_pair params first count n m e a h f c fits = elim (null_or_not e.row a.kept_where_unread) [
  | inl null ↦ (
      let zero_type : type_of_row e.row ≡ 0 = ap type_of_row null in
      inl (
        subst (λ (k : ℕ). IsOfType k (face 68 n (entry_first first e)) (face 68 m (entry_second count e))) zero_type (entry_type first count n m e h),
        ap (λ (k : ℕ). cond (k == 0) null_pair (whole_pair first count e)) zero_type,
      ))
  | inr some ↦ (
      let other : (type_of_row e.row == 0) ≡ false = other_test (type_of_row e.row) 0 (λ z. absurd (omega (arith, z, some))) in
      inr (subst (λ (b : Bool). IsEntity params (face 68 n (entry_first first e)) (face 68 m (entry_second count e)) (cond b null_pair (whole_pair first count e))) (sym other)
      (is_entity params first count n m e h some f c fits)))
]

-- ---- columns 1 to 72

five_size : (a b c d e : List ℕ) → length ((((a ++ b) ++ c) ++ d) ++ e) ≡ length a + length b + length c + length d + length e
five_size a b c d e = omega (arith, length-append a b, length-append (a ++ b) c, length-append ((a ++ b) ++ c) d, length-append (((a ++ b) ++ c) ++ d) e)

five_in_line : (a b c d e : List ℕ) → IsOneLine a → IsOneLine b → IsOneLine c → IsOneLine d → IsOneLine e → IsOneLine ((((a ++ b) ++ c) ++ d) ++ e)
five_in_line a b c d e ha hb hc hd he = one_line_joined (((a ++ b) ++ c) ++ d) e (one_line_joined ((a ++ b) ++ c) d (one_line_joined (a ++ b) c (one_line_joined a b ha hb) hc) hd) he

first_text : (first count : ℕ) (e : Entity) → IsOneLine e.attrs → AreSmall first count e → IsText (entry_first first e)
unfolding entry_first
first_text first count e line h =
    let a = right_aligned 8 (type_of_row e.row) in
    let b = right_aligned 8 first in
    let d = right_aligned 8 (matrix_of_row e.row) in
    record {
      wide = omega (arith, five_size a b (take 32 e.attrs) d (take 16 (drop 32 e.attrs)), width_8 (type_of_row e.row) (omega (arith, h.kind)), width_8 first h.first_line, cut_size 0 32 e.attrs (omega (arith, h.attributes)), width_8 (matrix_of_row e.row) h.matrix, cut_size 32 16 e.attrs (omega (arith, h.attributes)));
      in_line = five_in_line a b (take 32 e.attrs) d (take 16 (drop 32 e.attrs)) (right_in_line 8 (type_of_row e.row) (omega (arith, h.kind))) (right_in_line 8 first (omega (arith, h.first_line))) (line_taken 32 e.attrs line)
          (right_in_line 8 (matrix_of_row e.row) (omega (arith, h.matrix))) (line_taken 16 (drop 32 e.attrs) (line_dropped 32 e.attrs line));
    }

second_text : (first count : ℕ) (e : Entity) → IsOneLine e.attrs → AreSmall first count e → IsText (entry_second count e)
unfolding entry_second
second_text first count e line h =
    let a = right_aligned 8 (type_of_row e.row) in
    let c = right_aligned 8 count in
    let d = right_aligned 8 (form_of_row e.row) in
    record {
      wide = omega (arith, five_size a (take 16 (drop 48 e.attrs)) c d (take 32 (drop 64 e.attrs)), width_8 (type_of_row e.row) (omega (arith, h.kind)), cut_size 48 16 e.attrs (omega (arith, h.attributes)), width_8 count h.line_count, width_8 (form_of_row e.row) (omega (arith, h.form)), cut_size 64 32 e.attrs (omega (arith, h.attributes)));
      in_line = five_in_line a (take 16 (drop 48 e.attrs)) c d (take 32 (drop 64 e.attrs)) (right_in_line 8 (type_of_row e.row) (omega (arith, h.kind))) (line_taken 16 (drop 48 e.attrs) (line_dropped 48 e.attrs line))
          (right_in_line 8 count (omega (arith, h.line_count))) (right_in_line 8 (form_of_row e.row) (omega (arith, h.form))) (line_taken 32 (drop 64 e.attrs) (line_dropped 64 e.attrs line));
    }

-- ---- all entries

-- what holds of each entity of an accepted model: it is written in one line at least
pub record IsWritten (comma semi : ℕ) (e : Entity) : Type 0 where
  pub accepted : IsAcceptedEntity e
  pub some : 1 ≤ length (record_lines comma semi e)

-- the numbers of the lines fit their columns
smalls : (comma semi params : ℕ) (before es : List Entity) (e : Entity) → IsWritten comma semi e → params ≤ 300000 → params ≡ lines_of comma semi before + lines_of comma semi (e ∷ es)
    → AreSmall (lines_of comma semi before + 1) (length (record_lines comma semi e)) e
smalls comma semi params before es e h few all =
    are_small (lines_of comma semi before + 1) (length (record_lines comma semi e)) e h.accepted (omega (arith, few, all, record_lines_count comma semi e, h.some)) (omega (arith, few, all, record_lines_count comma semi e))

next_all : (comma semi params : ℕ) (before es : List Entity) (e : Entity) → params ≡ lines_of comma semi before + lines_of comma semi (e ∷ es)
    → params ≡ lines_of comma semi (before ++ e ∷ []) + lines_of comma semi es
next_all comma semi params before es e all = omega (arith, all, lines_of-append comma semi before (e ∷ []))

pub entry_texts : (comma semi params : ℕ) (before es : List Entity) → AllByRecursion (IsWritten comma semi) es → params ≤ 300000 → params ≡ lines_of comma semi before + lines_of comma semi es
    → AllByRecursion IsText (entry_lines comma semi before es)
unfolding entry_lines
entry_texts comma semi params before [] h few all = tt
entry_texts comma semi params before (e ∷ es) h few all =
    let small = smalls comma semi params before es e h.0 few all in
    let line = h.0.accepted.attributes_in_line in (
      first_text (lines_of comma semi before + 1) (length (record_lines comma semi e)) e line small,
      (
        second_text (lines_of comma semi before + 1) (length (record_lines comma semi e)) e line small,
        entry_texts comma semi params (before ++ e ∷ []) es h.1 few (next_all comma semi params before es e all),
      ),
    )

whole_kept : (n : ℕ) (columns : List ℕ) → IsText columns → n ≤ 9999999 → take 80 (face 68 n columns) ≡ face 68 n columns
whole_kept n columns h small = ap (λ (k : ℕ). take k (face 68 n columns)) (sym (face_width 68 n columns h.wide small)) ∙ take-length (face 68 n columns)

pub are_pairs : (comma semi params n : ℕ) (before es : List Entity) → AllByRecursion (IsWritten comma semi) es → params ≤ 300000 → params ≡ lines_of comma semi before + lines_of comma semi es
    → n + 2 * length es ≤ 9999999 → ArePairs params (kept_of 68 80 n (entry_lines comma semi before es)) (pairs_of comma semi before es)
unfolding entry_lines kept_of pairs_of
are_pairs comma semi params n before [] h few all room = tt
are_pairs comma semi params n before (e ∷ es) h few all room =
    let first = lines_of comma semi before + 1 in
    let count = length (record_lines comma semi e) in
    let small = smalls comma semi params before es e h.0 few all in
    let line = h.0.accepted.attributes_in_line in
    let one = whole_kept n (entry_first first e) (first_text first count e line small) (omega (arith, room)) in
    let two = whole_kept (suc n) (entry_second count e) (second_text first count e line small) (omega (arith, room)) in
    let pair = is_pair params first count n (suc n) e h.0.accepted small (omega arith) h.0.some (omega (arith, all, record_lines_count comma semi e)) in
    let both : IsPair params (take 80 (face 68 n (entry_first first e))) (take 80 (face 68 (suc n) (entry_second count e))) (pair_of first count e) =
    subst (λ (x : List ℕ). IsPair params x (take 80 (face 68 (suc n) (entry_second count e))) (pair_of first count e)) (sym one)
    (subst (λ (x : List ℕ). IsPair params (face 68 n (entry_first first e)) x (pair_of first count e)) (sym two) pair) in
    (both, are_pairs comma semi params (suc (suc n)) (before ++ e ∷ []) es h.1 few (next_all comma semi params before es e all) (omega (arith, room)))

pair_count : (b : Bool) (first count : ℕ) (e : Entity) → (cond b null_pair (whole_pair first count e)).count ≤ count
pair_count true first count e = omega arith
pair_count false first count e = omega arith

pub text_few : (comma semi : ℕ) (before es : List Entity) → text_of (pairs_of comma semi before es) ≤ lines_of comma semi es
unfolding pairs_of
text_few comma semi before [] = omega arith
text_few comma semi before (e ∷ es) =
    omega (arith, pair_count (type_of_row e.row == 0) (lines_of comma semi before + 1) (length (record_lines comma semi e)) e, record_lines_count comma semi e, text_few comma semi (before ++ e ∷ []) es)
