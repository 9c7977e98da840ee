-- Directories: what is spelt is read, and what is read is spelt.
use Rattle.std.proofs.Common.{◌≡◌, ℕ, ◌+◌, ◌*◌, ◌%◌, ◌≤◌, List, [], ◌∷◌, ◌++◌, Bool, true, false, cond, not, ◌==◌, nat_lt, length, Ok, Err, refl, sym, ap, subst, ◌∙◌, arith, append_assoc, append-nil}
use Rattle.iges_directory.specs.declared.directory_faults.DirFault.TheVariants as fault
use Rattle.iges_directory.specs.declared.pairs.Pair.{Pair}
use Rattle.iges_directory.specs.Pairs.{ArePairs, text_of, IsDirectory}
use Rattle.iges_directory.specs.DirectoryReading.{pair_in, pairs_from, directory_in}
use Rattle.iges_directory.proofs.PairForms.{at_least, test_same, not_stopped, both_gave, pair_again, pair_takes}
use Rattle.iges_directory.proofs.PairSteps.{starts, text_more}

text_append : (read pairs : List Pair) → text_of (read ++ pairs) ≡ text_of read + text_of pairs
text_append [] pairs = omega arith
text_append (x ∷ read) pairs = omega (arith, text_append read pairs)

-- ---- what is spelt is read

are_even : (params : ℕ) (lines : List (List ℕ)) (pairs : List Pair) → ArePairs params lines pairs → length lines % 2 ≡ 0
are_even params [] [] h = refl
are_even params [] (pair ∷ pairs) h = absurd h
are_even params (one ∷ []) pairs h = absurd h
are_even params (one ∷ two ∷ lines) [] h = absurd h
are_even params (one ∷ two ∷ lines) (pair ∷ pairs) h = omega (arith, are_even params lines pairs h.1)

pairs_again : (params : ℕ) (lines : List (List ℕ)) (read pairs : List Pair) → ArePairs params lines pairs → text_of read + text_of pairs ≤ 500000 → pairs_from params read lines ≡ Ok (read ++ pairs)
unfolding pairs_from
pairs_again params [] read [] h few = ap Ok (sym (append-nil read))
pairs_again params [] read (pair ∷ pairs) h few = absurd h
pairs_again params (one ∷ []) read pairs h few = absurd h
pairs_again params (one ∷ two ∷ lines) read [] h few = absurd h
pairs_again params (one ∷ two ∷ lines) read (pair ∷ pairs) h few =
    let here = pair_again params (text_of read) (2 * length read + 1) one two pair h.0 (omega arith) in
    let more : text_of (read ++ pair ∷ []) + text_of pairs ≤ 500000 = omega (arith, text_more read pair, few) in
    rw here (pairs_again params lines (read ++ pair ∷ []) pairs h.1 more ∙ ap Ok (append_assoc read (pair ∷ []) pairs))

pub directory_again : (params : ℕ) (lines : List (List ℕ)) (pairs : List Pair) → IsDirectory params lines pairs → directory_in params lines ≡ Ok pairs
directory_again params lines pairs h = sym (starts params lines (are_even params lines pairs h.entries) h.few) ∙ pairs_again params lines [] pairs h.entries (omega (arith, h.text))

-- ---- what is read is spelt

pairs_take : (params : ℕ) (lines : List (List ℕ)) (read found : List Pair) → length lines % 2 ≡ 0 → text_of read ≤ 500000 → pairs_from params read lines ≡ Ok found
    → (pairs : List Pair) × (found ≡ read ++ pairs) × ArePairs params lines pairs × (text_of found ≤ 500000)
unfolding pairs_from
pairs_take params [] read found even few h =
    let same : read ≡ found = cc in
    ([], sym same ∙ sym (append-nil read), tt, subst (λ p. text_of p ≤ 500000) same few)
pairs_take params (one ∷ []) read found even few h = absurd (omega (arith, even))
pairs_take params (one ∷ two ∷ lines) read found even few h =
    let (pair, here, after) = both_gave (pair_in params (text_of read) (2 * length read + 1) one two) (λ pair. pairs_from params (read ++ pair ∷ []) lines) found h in
    let (is, text) = pair_takes params (text_of read) (2 * length read + 1) one two pair here few in
    let all = pairs_take params lines (read ++ pair ∷ []) found (omega (arith, even)) (omega (arith, text_more read pair, text)) after in
    let (pairs, whole, others, most) = all in
    (pair ∷ pairs, whole ∙ append_assoc read (pair ∷ []) pairs, (is, others), most)

pub is_even : (n : ℕ) → not ((n % 2) == 0) ≡ false → n % 2 ≡ 0
is_even n h = go ((n % 2) == 0) refl h where
  go : (v : Bool) → ((n % 2) == 0) ≡ v → not v ≡ false → n % 2 ≡ 0
  go true e h = test_same (n % 2) 0 e
  go false e h = cc

pub directory_takes : (params : ℕ) (lines : List (List ℕ)) (pairs : List Pair) → directory_in params lines ≡ Ok pairs → IsDirectory params lines pairs
unfolding directory_in
directory_takes params lines pairs h =
    let (odd, m) = not_stopped (not ((length lines % 2) == 0)) (cond (nat_lt 200000 (length lines)) (Err fault.TooManyEntities) (pairs_from params [] lines)) fault.OddLines pairs h in
    let (many, n) = not_stopped (nat_lt 200000 (length lines)) (pairs_from params [] lines) fault.TooManyEntities pairs m in
    let (all, whole, entries, text) = pairs_take params lines [] pairs (is_even (length lines) odd) (omega arith) n in
    record {
      few = at_least 200000 (length lines) many;
      entries = subst (ArePairs params lines) (sym whole) entries;
      text = text;
    }
