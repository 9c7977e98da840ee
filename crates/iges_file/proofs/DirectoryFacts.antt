-- What a whole directory says of the calls that come after it.
use Rattle.std.proofs.Common.{inl, inr, ℕ, ◌*◌, ◌≤◌, List, [], ◌∷◌, length, ap, arith}
use Rattle.std.specs.List.{AllByRecursion}
use Rattle.iges_cards.specs.declared.reader.Cards.{Cards}
use Rattle.iges_cards.specs.Grammar.{IsFixedForm}
use Rattle.iges_cards.specs.Kept.{AreWide, NoneHasFeed}
use Rattle.iges_cards.proofs.KeptLaws.{cards_are_kept}
use Rattle.iges_directory.specs.declared.pairs.Pair.{Pair}
use Rattle.iges_directory.specs.Kept.{AreColumns, IsKept}
use Rattle.iges_directory.specs.Pairs.{IsPair, ArePairs, text_of, IsDirectory}
use Rattle.iges_directory.proofs.KeptEntries.{entries_kept}
use Rattle.iges_file.specs.Entities.{HasLines}

-- two lines an entry
pairs_counted : (params : ℕ) (lines : List (List ℕ)) (pairs : List Pair) → ArePairs params lines pairs → 2 * length pairs ≤ length lines
pairs_counted params [] [] h = omega arith
pairs_counted params [] (p ∷ pairs) h = absurd h
pairs_counted params (a ∷ []) pairs h = absurd h
pairs_counted params (a ∷ b ∷ lines) [] h = absurd h
pairs_counted params (a ∷ b ∷ lines) (p ∷ pairs) h = omega (arith, pairs_counted params lines pairs h.1)

pub few_pairs : (params : ℕ) (lines : List (List ℕ)) (pairs : List Pair) → IsDirectory params lines pairs → length pairs ≤ 100000
few_pairs params lines pairs h = omega (arith, pairs_counted params lines pairs h.entries, h.few)

-- an entry that isn't null has lines of the file
pair_lines : (params most : ℕ) (one two : List ℕ) (pair : Pair) → IsPair params one two pair → pair.count ≤ 500000 → HasLines params pair
pair_lines params most one two pair (inl null) few = λ other. absurd (other (ap (λ (p : Pair). p.kind) null.1))
pair_lines params most one two pair (inr entity) few = λ other. (entity.first.at_least, omega (arith, entity.first.at_least, entity.first.at_most, entity.count.at_most), few)

lines_of_pairs : (params : ℕ) (lines : List (List ℕ)) (pairs : List Pair) → ArePairs params lines pairs → text_of pairs ≤ 500000 → AllByRecursion (HasLines params) pairs
lines_of_pairs params [] [] h most = tt
lines_of_pairs params [] (p ∷ pairs) h most = absurd h
lines_of_pairs params (a ∷ []) pairs h most = absurd h
lines_of_pairs params (a ∷ b ∷ lines) [] h most = absurd h
lines_of_pairs params (a ∷ b ∷ lines) (p ∷ pairs) h most = (pair_lines params 500000 a b p h.0 (omega (arith, most)), lines_of_pairs params lines pairs h.1 (omega (arith, most)))

pub all_have_lines : (params : ℕ) (lines : List (List ℕ)) (pairs : List Pair) → IsDirectory params lines pairs → AllByRecursion (HasLines params) pairs
all_have_lines params lines pairs h = lines_of_pairs params lines pairs h.entries h.text

-- ---- the entries

-- lines of 80 columns, none with a line feed
both_each : (lines : List (List ℕ)) → AreWide 80 lines → NoneHasFeed lines → AreColumns lines
both_each [] wide plain = tt
both_each (line ∷ lines) wide plain = ((wide.0, plain.0), both_each lines wide.1 plain.1)

pub all_are_kept : (params : ℕ) (bytes : List ℕ) (cards : Cards) (pairs : List Pair) → IsFixedForm bytes cards → IsDirectory params cards.directory pairs → AllByRecursion IsKept pairs
all_are_kept params bytes cards pairs form h =
    let kept = cards_are_kept bytes cards form in
    entries_kept params cards.directory pairs h (both_each cards.directory kept.directory_wide kept.directory_plain)
