-- What the entries of a directory keep: the ranges of their numbers, and attributes of 96 bytes without a line feed.
use Rattle.std.proofs.Common.{◌≡◌, ℕ, ◌+◌, ◌-◌, ◌*◌, ◌≤◌, List, [], ◌∷◌, ◌++◌, length, take, drop, refl, sym, ap, subst, ◌∙◌, arith, inl, inr, length-append}
use Rattle.std.specs.List.{AllByRecursion}
use Rattle.std.proofs.lemmas.List.{take-append-drop, length-take, length-drop}
use Rattle.solid_base.specs.Texts.{IsOneLine}
use Rattle.solid_base.proofs.Texts.{one_line_front, one_line_end, one_line_joined, blank_attributes_in_line}
use Rattle.iges_directory.specs.declared.pairs.Pair.{Pair}
use Rattle.iges_directory.specs.Kept.{AreColumns, IsKept}
use Rattle.iges_directory.specs.Pairs.{fields, attributes, null_pair, IsPair, ArePairs, IsDirectory}

-- ---- attributes
fields_line : (from to : ℕ) (line : List ℕ) → IsOneLine line → IsOneLine (fields from to line)
fields_line from to line h =
    let start = 8 * (from - 1) in
    let size = 8 * (to + 1 - from) in
    let after : IsOneLine (drop start line) = one_line_end (take start line) (drop start line) (subst IsOneLine (sym (take-append-drop start line)) h) in
    one_line_front (take size (drop start line)) (drop size (drop start line)) (subst IsOneLine (sym (take-append-drop size (drop start line))) after)

fields_size : (from to : ℕ) (line : List ℕ) → length line ≡ 80 → 1 ≤ from → from ≤ to → to ≤ 10 → length (fields from to line) ≡ 8 * (to + 1 - from)
fields_size from to line eighty least order most =
    let after = length-drop (8 * (from - 1)) line in
    let size = length-take (8 * (to + 1 - from)) (drop (8 * (from - 1)) line) in
    omega (arith, after, size, eighty, least, order, most)

attributes_size : (one two : List ℕ) → length one ≡ 80 → length two ≡ 80 → length (attributes one two) ≡ 96
attributes_size one two h k =
    let a = fields_size 3 6 one h (omega arith) (omega arith) (omega arith) in
    let b = fields_size 8 9 one h (omega arith) (omega arith) (omega arith) in
    let c = fields_size 2 3 two k (omega arith) (omega arith) (omega arith) in
    let d = fields_size 6 9 two k (omega arith) (omega arith) (omega arith) in
    let ab = length-append (fields 3 6 one) (fields 8 9 one) in
    let abc = length-append (fields 3 6 one ++ fields 8 9 one) (fields 2 3 two) in
    let abcd = length-append ((fields 3 6 one ++ fields 8 9 one) ++ fields 2 3 two) (fields 6 9 two) in
    omega (arith, a, b, c, d, ab, abc, abcd)

attributes_line : (one two : List ℕ) → IsOneLine one → IsOneLine two → IsOneLine (attributes one two)
attributes_line one two h k =
    one_line_joined ((fields 3 6 one ++ fields 8 9 one) ++ fields 2 3 two) (fields 6 9 two)
    (one_line_joined (fields 3 6 one ++ fields 8 9 one) (fields 2 3 two) (one_line_joined (fields 3 6 one) (fields 8 9 one) (fields_line 3 6 one h) (fields_line 8 9 one h)) (fields_line 2 3 two k))
    (fields_line 6 9 two k)

-- ---- entries
null_kept : IsKept null_pair
null_kept = record { kind = omega arith; form = omega arith; matrix = omega arith; null = λ e. refl; attributes = refl; in_line = blank_attributes_in_line }

pair_kept : (params : ℕ) (one two : List ℕ) (pair : Pair) → (length one ≡ 80) × IsOneLine one → (length two ≡ 80) × IsOneLine two → IsPair params one two pair → IsKept pair
pair_kept params one two pair h k (inl null) = subst IsKept (sym null.1) null_kept
pair_kept params one two pair h k (inr entity) = record {
  kind = entity.of_type.first.at_most;
  form = entity.form.at_most;
  matrix = entity.matrix.at_most;
  null = λ e. absurd (entity.not_null e);
  attributes = ap (length {A = ℕ}) entity.attrs ∙ attributes_size one two h.0 k.0;
  in_line = subst IsOneLine (sym entity.attrs) (attributes_line one two h.1 k.1);
}

pairs_kept : (params : ℕ) (lines : List (List ℕ)) (pairs : List Pair) → AreColumns lines → ArePairs params lines pairs → AllByRecursion IsKept pairs
pairs_kept params [] [] all h = tt
pairs_kept params [] (pair ∷ pairs) all h = absurd h
pairs_kept params (one ∷ []) [] all h = absurd h
pairs_kept params (one ∷ []) (pair ∷ pairs) all h = absurd h
pairs_kept params (one ∷ two ∷ lines) [] all h = absurd h
pairs_kept params (one ∷ two ∷ lines) (pair ∷ pairs) all h =
    (pair_kept params one two pair all.0 all.1.0 h.0, pairs_kept params lines pairs all.1.1 h.1)

pub entries_kept : (params : ℕ) (lines : List (List ℕ)) (pairs : List Pair) → IsDirectory params lines pairs → AreColumns lines → AllByRecursion IsKept pairs
entries_kept params lines pairs h all = pairs_kept params lines pairs all h.entries
