-- How reading goes on from pair to pair.
use Rattle.std.proofs.Common.{◌≡◌, ◌≢◌, ℕ, zero, suc, ◌+◌, ◌*◌, ◌%◌, ◌<◌, ◌≤◌, ◌==◌, List, [], ◌∷◌, ◌++◌, true, false, length, drop, slice_get, Some, Result, Ok, Err, refl, sym, ap, subst, ◌∙◌, arith}
use Rattle.std.specs.List.{AllByRecursion}
use Rattle.iges_directory.specs.declared.directory_faults.DirFault.{DirFault}
use Rattle.iges_directory.specs.declared.directory_faults.DirFault.TheVariants as fault
use Rattle.iges_directory.specs.declared.pairs.Pair.{Pair}
use Rattle.iges_directory.specs.Pairs.{text_of}
use Rattle.iges_directory.specs.DirectoryReading.{pair_in, pairs_from, directory_in}
use Rattle.iges_directory.proofs.PairForms.{lt_test, not_lt_test, same_test, other_test}

same : (n m : ℕ) → n ≡ m → (n == m) ≡ true
same n m h = rw h (same_test m)

-- ---- before the first pair

pub is_odd : (params : ℕ) (lines : List (List ℕ)) → length lines % 2 ≢ 0 → directory_in params lines ≡ Err fault.OddLines
unfolding directory_in
is_odd params lines h = rw (other_test (length lines % 2) 0 h) refl

pub too_many : (params : ℕ) (lines : List (List ℕ)) → length lines % 2 ≡ 0 → 200000 < length lines → directory_in params lines ≡ Err fault.TooManyEntities
unfolding directory_in
too_many params lines h k = rw (same (length lines % 2) 0 h, lt_test 200000 (length lines) k) refl

pub starts : (params : ℕ) (lines : List (List ℕ)) → length lines % 2 ≡ 0 → length lines ≤ 200000 → pairs_from params [] lines ≡ directory_in params lines
unfolding directory_in
starts params lines h k = rw (same (length lines % 2) 0 h, not_lt_test 200000 (length lines) k) refl

-- ---- a pair

-- the line at a place, and those after it
one_at : (lines : List (List ℕ)) (at : ℕ) (one : List ℕ) → slice_get lines at ≡ Some one → drop at lines ≡ one ∷ drop (suc at) lines
one_at [] at one is = cc
one_at (x ∷ lines) zero one is = let same : x ≡ one = cc in rw same refl
one_at (x ∷ lines) (suc at) one is = one_at lines at one is

-- the two lines at a place, and those after them
pub two_at : (lines : List (List ℕ)) (at : ℕ) (one two : List ℕ) → slice_get lines at ≡ Some one → slice_get lines (at + 1) ≡ Some two → drop at lines ≡ one ∷ two ∷ drop (at + 2) lines
two_at lines at one two p q =
    let next : suc at ≡ at + 1 = omega arith in
    let after : suc (suc at) ≡ at + 2 = omega arith in
    one_at lines at one p ∙ ap (λ (ls : List (List ℕ)). one ∷ ls) (one_at lines (suc at) two (ap (λ (n : ℕ). slice_get lines n) next ∙ q) ∙ ap (λ (n : ℕ). two ∷ drop n lines) after)

-- no line stands after the last one
pub none_after : (lines : List (List ℕ)) (at : ℕ) → length lines ≤ at → length (drop at lines) < 2
none_after [] zero h = omega arith
none_after [] (suc at) h = omega arith
none_after (x ∷ lines) zero h = absurd (omega (arith, h))
none_after (x ∷ lines) (suc at) h = none_after lines at (omega (arith, h))

pub eighty_first : (lines after : List (List ℕ)) (one two : List ℕ) → lines ≡ one ∷ two ∷ after → AllByRecursion (λ line. length line ≡ 80) lines → (length one ≡ 80) × (length two ≡ 80) × AllByRecursion (λ line. length line ≡ 80) after
eighty_first lines after one two e h =
    let all : AllByRecursion (λ line. length line ≡ 80) (one ∷ two ∷ after) = subst (AllByRecursion (λ line. length line ≡ 80)) e h in
    (all.0, all.1.0, all.1.1)

pub text_more : (pairs : List Pair) (pair : Pair) → text_of (pairs ++ pair ∷ []) ≡ text_of pairs + pair.count
text_more [] pair = omega arith
text_more (x ∷ pairs) pair = omega (arith, text_more pairs pair)

pub goes_on : (params text entity : ℕ) (pairs : List Pair) (pair : Pair) (lines after : List (List ℕ)) (one two : List ℕ) (total : Result (List Pair) DirFault) → lines ≡ one ∷ two ∷ after → text ≡ text_of pairs → entity ≡ 2 * length pairs + 1
    → pair_in params text entity one two ≡ Ok pair → pairs_from params pairs lines ≡ total → pairs_from params (pairs ++ pair ∷ []) after ≡ total
unfolding pairs_from
goes_on params text entity pairs pair lines after one two total e t n k so_far =
    let here : pair_in params (text_of pairs) (2 * length pairs + 1) one two ≡ Ok pair = ap (λ m. pair_in params m (2 * length pairs + 1) one two) (sym t) ∙ ap (λ m. pair_in params text m one two) (sym n) ∙ k in
    let on : pairs_from params pairs (one ∷ two ∷ after) ≡ pairs_from params (pairs ++ pair ∷ []) after = rw here refl in
    sym on ∙ ap (pairs_from params pairs) (sym e) ∙ so_far

pub stops : (params text entity : ℕ) (pairs : List Pair) (found : DirFault) (lines after : List (List ℕ)) (one two : List ℕ) (total : Result (List Pair) DirFault) → lines ≡ one ∷ two ∷ after → text ≡ text_of pairs → entity ≡ 2 * length pairs + 1
    → pair_in params text entity one two ≡ Err found → pairs_from params pairs lines ≡ total → total ≡ Err found
unfolding pairs_from
stops params text entity pairs found lines after one two total e t n k so_far =
    let here : pair_in params (text_of pairs) (2 * length pairs + 1) one two ≡ Err found = ap (λ m. pair_in params m (2 * length pairs + 1) one two) (sym t) ∙ ap (λ m. pair_in params text m one two) (sym n) ∙ k in
    let on : pairs_from params pairs (one ∷ two ∷ after) ≡ Err found = rw here refl in
    sym so_far ∙ ap (pairs_from params pairs) e ∙ on

-- no pair is left
pub ends : (params : ℕ) (pairs : List Pair) (lines : List (List ℕ)) (total : Result (List Pair) DirFault) → length lines < 2 → pairs_from params pairs lines ≡ total → total ≡ Ok pairs
unfolding pairs_from
ends params pairs [] total h so_far = sym so_far
ends params pairs (one ∷ []) total h so_far = sym so_far
ends params pairs (one ∷ two ∷ lines) total h so_far = absurd (omega arith)
