-- The generated model is one that is served: its entities are lawful, its records are short, and its
-- references are sound.
use Rattle.std.proofs.Common.{◌≡◌, ◌≢◌, ℕ, zero, suc, ◌+◌, ◌-◌, ◌*◌, ◌/◌, ◌%◌, ◌^◌, ◌||◌, ◌==◌, nat_le, ◌<◌, ◌≤◌, Bool, true, false, cond, List, [], ◌∷◌, ◌++◌, length, map, replicate, codes, decimal, pos, max, refl, arith, length-append, length-take}
use Rattle.std.specs.List.{AllByRecursion, range_with_len, suffix_len}
use Rattle.std.proofs.lemmas.Fmt.{length-decimal-le_wide}
use Rattle.std.proofs.lemmas.Int.{ints}
use Rattle.std.proofs.lemmas.List.{length-replicate, length-map}
use Rattle.std.proofs.lemmas.List.FromFn.{length-map-range_with_len}
use Rattle.solid_base.specs.declared.entities.Entity.{Entity}
use Rattle.solid_base.specs.declared.entities.Token.{Token}
use Rattle.solid_base.specs.declared.entities.Token.TheVariants as token
use Rattle.solid_base.specs.declared.solids.Item.{Item}
use Rattle.solid_base.specs.declared.solids.Item.TheVariants as item
use Rattle.solid_base.specs.declared.solids.Row.TheVariants as row
use Rattle.solid_base.specs.Range.{IsWithin, far}
use Rattle.solid_base.specs.Ranges.{IsLawfulItem, IsLawfulRow}
use Rattle.solid_base.specs.Texts.{IsOneLine}
use Rattle.solid_base.specs.Trees.{post_order}
use Rattle.solid_base.proofs.Texts.{blank_attributes_in_line, one_line_joined}
use Rattle.decimal_scale.specs.Writing.{last_digits, without_zeros, real_text}
use Rattle.decimal_scale.proofs.Texts.{length-last_digits}
use Rattle.iges_fields.specs.Grammar.{delimiter}
use Rattle.iges_fields.specs.Layout.{spelling_of_token, piece, gap, placed, laid, is_last}
use Rattle.iges_parameters.specs.Tables.{sphere_rules}
use Rattle.iges_parameters.specs.Writing.{integer_text, whole, tokens_by, number_of_item, parameters_of, tokens_of, record_text, lines_for}
use Rattle.iges_parameters.specs.Accepted.{lines_of, global_text, IsAcceptedEntity, IsAccepted, IsStartLine}
use Rattle.iges_parameters.proofs.WrittenTokens.{text_laid}
use Rattle.iges_write.specs.Cards.{filled}
use Rattle.solid_top.specs.LoadInput.{number_at, centre, plain, sphere, union_with, union_items, union_row, load_rows, load_model}
use Rattle.solid_top.proofs.LoadGraph.{all_joined, references_sound}

-- ---- how long texts are

pub decimal_short : (n : ℕ) → n < 10 ^ 20 → length (decimal n) ≤ 20
decimal_short n h = length-decimal-le_wide 20 n (omega arith) h (omega (arith, h))

decimals_short : (digits : List ℕ) → length (without_zeros digits) ≤ length digits
decimals_short digits =
    let size = length-take (max 1 (length digits - suffix_len (λ (b : ℕ). b == 48) digits)) digits in
    omega (arith, size)

pub real_short : (n : ℕ) → n < 10 ^ 20 → length (real_text (pos n) 12) ≤ 64
real_short n h =
    let digits = last_digits 12 (n % 10 ^ 12) in
    let front = decimal_short (n / 10 ^ 12) (omega (arith, h)) in
    let back = decimals_short digits in
    let size = length-last_digits 12 (n % 10 ^ 12) in
    let joined = length-append (decimal (n / 10 ^ 12)) (46 ∷ without_zeros digits) in
    omega (arith, front, back, size, joined)

whole_short : (n : ℕ) → n < 10 ^ 20 → length (integer_text (pos n)) ≤ 64
whole_short n h = let short = decimal_short n h in omega (arith, short)

item_short : (i : Item) → IsLawfulItem i → length (integer_text (number_of_item i)) ≤ 64
item_short (item.Operand zero) h = whole_short 0 (omega arith)
item_short (item.Operand (suc n)) h = let most = h.1 in let short = decimal_short (n + 1) (omega (arith, most)) in omega (arith, short)
item_short item.Join h = whole_short 1 (omega arith)
item_short item.Meet h = whole_short 2 (omega arith)
item_short item.Less h = whole_short 3 (omega arith)

abbrev IsShort : Token → Type 0
IsShort t = length (spelling_of_token t) ≤ 64

chosen_within : (b : Bool) (n most : ℕ) → n ≤ most → cond b 0 n ≤ most
chosen_within true n most h = omega arith
chosen_within false n most h = h

-- short tokens take few bytes, each with a delimiter and the blanks before it
laid_short : (width comma semi used : ℕ) (ts : List Token) → width ≤ 72 → AllByRecursion IsShort ts → length (laid width comma semi used ts) ≤ 137 * length ts
unfolding laid
laid_short width comma semi used [] narrow h = omega arith
laid_short width comma semi used (t ∷ ts) narrow h =
    let d = delimiter comma semi (is_last ts) in
    let p = piece d t in
    let size = length-append (spelling_of_token t) (d ∷ []) in
    let blanks = gap width used (length p) in
    let few = chosen_within ((used % width == 0) || nat_le (used % width + length p) width) (width - used % width) width (omega arith) in
    let q = placed width used p in
    let long = length-append (replicate blanks 32) p in
    let fill = length-replicate {A = ℕ} blanks 32 in
    let short = h.0 in
    let more = laid_short width comma semi (used + length q) ts narrow h.1 in
    let joined = length-append q (laid width comma semi (used + length q) ts) in
    omega (arith, narrow, size, few, long, fill, short, more, joined)

-- ---- the spheres

within_far : (n : ℕ) → n ≤ 10 ^ 17 → IsWithin far (pos n)
within_far n h = (omega (arith, ints, h), omega (arith, ints, h))

sphere_lawful : (place : ℕ) → place < 1000 → IsLawfulRow (sphere place)
unfolding sphere centre
sphere_lawful place lt = (
  (omega (arith, ints), omega (arith, ints)),
  (within_far (3 * (place % 10) * 10 ^ 12) (omega arith), within_far (3 * (place / 10 % 10) * 10 ^ 12) (omega arith), within_far (3 * (place / 100) * 10 ^ 12) (omega (arith, lt))),
)

sphere_accepted : (place : ℕ) → place < 1000 → IsAcceptedEntity (plain (sphere place))
unfolding sphere
sphere_accepted place lt = record {
  attributes = refl;
  attributes_in_line = blank_attributes_in_line;
  lawful = sphere_lawful place lt;
  matrix = omega arith;
  tail_spelt = tt;
  tail_in_line = tt;
  tail_of_row = tt;
  blank_where_null = λ e. cc;
  kept_where_unread = λ kind form matrix text e. cc;
}

sphere_lines : (place : ℕ) → place < 1000 → lines_for (length (record_text 44 59 (sphere place) [])) ≤ 11
unfolding sphere centre parameters_of tokens_by sphere_rules
sphere_lines place lt =
    let ts = tokens_of (sphere place) [] in
    let short : AllByRecursion IsShort ts = (
      whole_short 158 (omega arith),
      (
        real_short (10 ^ 12) (omega arith),
        (
          real_short (3 * (place % 10) * 10 ^ 12) (omega arith),
          (real_short (3 * (place / 10 % 10) * 10 ^ 12) (omega arith), (real_short (3 * (place / 100) * 10 ^ 12) (omega (arith, lt)), tt)),
        ),
      ),
    ) in
    let size = laid_short 64 44 59 0 ts (omega arith) short in
    let is = text_laid 44 59 (sphere place) [] tt in
    rw is (omega (arith, size))

-- ---- the union

items_count : (more : ℕ) → length (post_order (union_with more)) ≡ 2 * more + 1
unfolding union_with
items_count zero = refl
items_count (suc more) =
    let front = post_order (union_with more) in
    let last : List Item = item.Operand (number_at (suc more)) ∷ [] in
    let rest = items_count more in
    let one = length-append front last in
    let both = length-append (front ++ last) (item.Join ∷ []) in
    omega (arith, rest, one, both)

items_lawful : (more : ℕ) → more < 1000 → AllByRecursion IsLawfulItem (post_order (union_with more))
unfolding union_with
items_lawful zero few = ((omega arith, omega arith), tt)
items_lawful (suc more) few =
    let front = post_order (union_with more) in
    let last : List Item = item.Operand (number_at (suc more)) ∷ [] in
    all_joined IsLawfulItem (front ++ last) (item.Join ∷ [])
    (all_joined IsLawfulItem front last (items_lawful more (omega (arith, few))) ((omega arith, omega (arith, few)), tt)) (tt, tt)

union_lawful : (n : ℕ) → 1 ≤ n → n ≤ 1000 → IsLawfulRow (union_row n)
unfolding union_items
union_lawful n some few =
    let count = items_count (n - 1) in
    (omega (arith, count, few), items_lawful (n - 1) (omega (arith, some, few)), (union_with (n - 1), refl))

union_accepted : (n : ℕ) → 1 ≤ n → n ≤ 1000 → IsAcceptedEntity (plain (union_row n))
union_accepted n some few = record {
  attributes = refl;
  attributes_in_line = blank_attributes_in_line;
  lawful = union_lawful n some few;
  matrix = omega arith;
  tail_spelt = tt;
  tail_in_line = tt;
  tail_of_row = tt;
  blank_where_null = λ e. cc;
  kept_where_unread = λ kind form matrix text e. cc;
}

abbrev item_token : Item → Token
item_token i = whole (number_of_item i)

items_short : (items : List Item) → AllByRecursion IsLawfulItem items → AllByRecursion IsShort (map item_token items)
items_short [] h = tt
items_short (i ∷ items) h = (item_short i h.0, items_short items h.1)

tree_lines : (items : List Item) → length items ≤ 2000 → AllByRecursion IsLawfulItem items → lines_for (length (record_text 44 59 (row.Tree items 0) [])) ≤ 5000
unfolding parameters_of
tree_lines items few lawful =
    let named = map item_token items in
    let ts = tokens_of (row.Tree items 0) [] in
    let short : AllByRecursion IsShort ts = (
      whole_short 180 (omega arith),
      (whole_short (length items) (omega (arith, few)), all_joined IsShort named [] (items_short items lawful) tt),
    ) in
    let size = laid_short 64 44 59 0 ts (omega arith) short in
    let joined = length-append named [] in
    let same = length-map items item_token in
    let is = text_laid 44 59 (row.Tree items 0) [] tt in
    rw is (omega (arith, size, joined, same, few))

-- ---- all entities

all_accepted : (from n : ℕ) (last : Entity) → from + n ≤ 1000 → IsAcceptedEntity last
    → AllByRecursion IsAcceptedEntity (map (λ place. plain (sphere place)) (range_with_len from n) ++ last ∷ [])
all_accepted from zero last few good = (good, tt)
all_accepted from (suc n) last few good = (sphere_accepted from (omega (arith, few)), all_accepted (from + 1) n last (omega (arith, few)) good)

lines_few : (from n : ℕ) (last : Entity) → from + n ≤ 1000 → lines_for (length (record_text 44 59 last.row last.tail)) ≤ 5000
    → lines_of 44 59 (map (λ place. plain (sphere place)) (range_with_len from n) ++ last ∷ []) ≤ 11 * n + 5000
lines_few from zero last few short = omega (arith, short)
lines_few from (suc n) last few short =
    let one = sphere_lines from (omega (arith, few)) in
    let more = lines_few (from + 1) n last (omega (arith, few)) short in
    omega (arith, one, more)

pub rows_count : (n : ℕ) → length (load_rows n) ≡ n + 1
unfolding load_rows
rows_count n =
    let spheres = length-map-range_with_len (λ place. plain (sphere place)) 0 n in
    let joined = length-append (map (λ place. plain (sphere place)) (range_with_len 0 n)) (plain (union_row n) ∷ []) in
    omega (arith, spheres, joined)

union_lines : (n : ℕ) → 1 ≤ n → n ≤ 1000 → lines_for (length (record_text 44 59 (union_row n) [])) ≤ 5000
unfolding union_items
union_lines n some few =
    let count = items_count (n - 1) in
    tree_lines (post_order (union_with (n - 1))) (omega (arith, count, few)) (items_lawful (n - 1) (omega (arith, some, few)))

differs : (b : ℕ) → (b == 10) ≡ false → b ≢ 10
differs b h = grind arith

blanks_in_line : (n : ℕ) → IsOneLine (replicate n 32)
blanks_in_line zero = tt
blanks_in_line (suc n) = (differs 32 refl, blanks_in_line n)

start_is_line : IsStartLine (filled 72 (codes "load"))
start_is_line = (
  refl,
  one_line_joined (codes "load") (replicate 68 32) (differs 108 refl, (differs 111 refl, (differs 97 refl, (differs 100 refl, tt)))) (blanks_in_line 68),
)

pub global_few : (n : ℕ) → length (global_text (load_model n)) ≤ 411
unfolding load_model
global_few n =
    let one = decimal_short 1 (omega arith) in
    let short : (d : ℕ) → length (decimal (length (d ∷ [])) ++ 72 ∷ d ∷ []) ≤ 64 = λ (d : ℕ). let joined = length-append (decimal 1) (72 ∷ d ∷ []) in omega (arith, one, joined) in
    let size = laid_short 72 44 59 0 (token.Text (44 ∷ []) ∷ token.Text (59 ∷ []) ∷ token.Empty ∷ []) (omega arith) (short 44, (short 59, (omega arith, tt))) in
    omega (arith, size)

pub load_accepted : (n : ℕ) → 1 ≤ n → n ≤ 1000 → IsAccepted (load_model n)
unfolding load_model load_rows
load_accepted n some few = record {
  few_entities = let count = rows_count n in omega (arith, count, few);
  entities = all_accepted 0 n (plain (union_row n)) (omega (arith, few)) (union_accepted n some few);
  references = references_sound n some few;
  few_lines = let lines = lines_few 0 n (plain (union_row n)) (omega (arith, few)) (union_lines n some few) in omega (arith, lines, few);
  delimiters = (refl, refl, λ e. absurd (omega (arith, e)));
  some_start = omega arith;
  few_start = omega arith;
  start_lines = (start_is_line, tt);
  global_spelt = (tt, tt);
  global_in_line = (tt, tt);
  few_global = let size = global_few n in omega (arith, size);
}
