-- The first fault of a directory: reading gives exactly this.
use Rattle.std.proofs.Common.{◌≡◌, ◌≢◌, ◌⊎◌, inl, inr, ℕ, ◌+◌, ◌*◌, ◌%◌, ◌≤◌, List, [], ◌∷◌, ◌++◌, Bool, true, false, cond, not, ◌==◌, nat_lt, length, Result, Ok, Err, refl, sym, ap, subst, ◌∙◌, arith, append_assoc, append-nil}
use Rattle.iges_directory.specs.declared.directory_faults.DirFault.{DirFault}
use Rattle.iges_directory.specs.declared.directory_faults.DirFault.TheVariants as fault
use Rattle.iges_directory.specs.declared.pairs.Pair.{Pair}
use Rattle.iges_directory.specs.DirectoryFaults.{IsOfText}
use Rattle.iges_directory.specs.Pairs.{ArePairs, text_of, IsDirectory}
use Rattle.iges_directory.specs.DirectoryReading.{pair_in, pairs_from, directory_in}
use Rattle.iges_directory.specs.FirstFaults.{IsFirstBadPair, IsDirectoryFault}
use Rattle.iges_directory.proofs.PairForms.{test_lt, at_least, pair_again, pair_takes}
use Rattle.iges_directory.proofs.PairSteps.{is_odd, too_many, starts, text_more}
use Rattle.iges_directory.proofs.PairFaults.{IsPairFault, one_failed, passed_or, pair_fault_again, pair_fault_takes}
use Rattle.iges_directory.proofs.DirectoryForms.{is_even, directory_again, directory_takes}

-- the pair after these entries is read to this fault
abbrev StopsAfter : ℕ → List Pair → List ℕ → List ℕ → DirFault → Type 0
StopsAfter params before one two f = pair_in params (text_of before) (2 * length before + 1) one two ≡ Err f

-- ---- what is wrong is read

stops_again : (params : ℕ) (front rest : List (List ℕ)) (read before : List Pair) (one two : List ℕ) (f : DirFault) → ArePairs params front before → text_of read + text_of before ≤ 500000
    → StopsAfter params (read ++ before) one two f → pairs_from params read (front ++ one ∷ two ∷ rest) ≡ Err f
unfolding pairs_from
stops_again params [] rest read [] one two f good few stop =
    let here : StopsAfter params read one two f = subst (λ p. StopsAfter params p one two f) (append-nil read) stop in
    rw here refl
stops_again params [] rest read (pair ∷ before) one two f good few stop = absurd good
stops_again params (a ∷ []) rest read before one two f good few stop = absurd good
stops_again params (a ∷ b ∷ front) rest read [] one two f good few stop = absurd good
stops_again params (a ∷ b ∷ front) rest read (pair ∷ before) one two f good few stop =
    let here = pair_again params (text_of read) (2 * length read + 1) a b pair good.0 (omega arith) in
    let more : text_of (read ++ pair ∷ []) + text_of before ≤ 500000 = omega (arith, text_more read pair, few) in
    let later : StopsAfter params ((read ++ pair ∷ []) ++ before) one two f = subst (λ p. StopsAfter params p one two f) (sym (append_assoc read (pair ∷ []) before)) stop in
    rw here (stops_again params front rest (read ++ pair ∷ []) before one two f good.1 more later)

bad_again : (params entity : ℕ) (lines : List (List ℕ)) (bad : List Pair → List ℕ → List ℕ → Type 0) (f : DirFault) (h : IsFirstBadPair params lines entity bad)
    → IsPairFault params entity h.before h.one h.two f → directory_in params lines ≡ Err f
bad_again params entity lines bad f h is =
    let here : IsPairFault params (2 * length h.before + 1) h.before h.one h.two f = subst (λ n. IsPairFault params n h.before h.one h.two f) h.number is in
    let stop = pair_fault_again params (2 * length h.before + 1) h.before h.one h.two f here in
    sym (starts params lines h.even h.few) ∙ ap (pairs_from params []) h.cut
    ∙ stops_again params h.front h.rest [] h.before h.one h.two f h.good.entries (omega (arith, h.good.text)) stop

pub fault_again : (params : ℕ) (lines : List (List ℕ)) (f : DirFault) → IsDirectoryFault params lines f → directory_in params lines ≡ Err f
fault_again params lines (fault.Memory e) h = absurd h
fault_again params lines fault.OddLines h = is_odd params lines (λ e. omega (arith, e, h))
fault_again params lines fault.TooManyEntities h = too_many params lines h.0 h.1
fault_again params lines (fault.BadField entity k) h = bad_again params entity lines _ (fault.BadField entity k) h (refl, h.holds)
fault_again params lines (fault.TypeDiffers entity) h = bad_again params entity lines _ (fault.TypeDiffers entity) h (refl, h.holds)
fault_again params lines (fault.TooMuchText entity) h = bad_again params entity lines _ (fault.TooMuchText entity) h (refl, h.holds)

-- ---- what is read is wrong

-- where the pair after some entries stops the reading
record Stop (params : ℕ) (read : List Pair) (lines : List (List ℕ)) (f : DirFault) : Type 0 where
  pub front : List (List ℕ)
  pub before : List Pair
  pub one : List ℕ
  pub two : List ℕ
  pub rest : List (List ℕ)
  pub cut : lines ≡ front ++ one ∷ two ∷ rest
  pub good : ArePairs params front before
  pub few : text_of (read ++ before) ≤ 500000
  pub stop : StopsAfter params (read ++ before) one two f

-- a pair that is read stands before the stop
one_more : (params : ℕ) (read : List Pair) (a b : List ℕ) (lines : List (List ℕ)) (pair : Pair) (f : DirFault) → ArePairs params (a ∷ b ∷ []) (pair ∷ []) → Stop params (read ++ pair ∷ []) lines f → Stop params read (a ∷ b ∷ lines) f
one_more params read a b lines pair f is s =
    let whole = append_assoc read (pair ∷ []) s.before in
    record {
      front = a ∷ b ∷ s.front;
      before = pair ∷ s.before;
      one = s.one;
      two = s.two;
      rest = s.rest;
      cut = ap (λ (ls : List (List ℕ)). a ∷ b ∷ ls) s.cut;
      good = (is.0, s.good);
      few = subst (λ (p : List Pair). text_of p ≤ 500000) whole s.few;
      stop = subst (λ (p : List Pair). StopsAfter params p s.one s.two f) whole s.stop;
    }

stops_take : (params : ℕ) (lines : List (List ℕ)) (read : List Pair) (f : DirFault) → text_of read ≤ 500000 → pairs_from params read lines ≡ Err f → Stop params read lines f
unfolding pairs_from
stops_take params [] read f few h = cc
stops_take params (a ∷ []) read f few h = cc
stops_take params (a ∷ b ∷ lines) read f few h =
    elim (one_failed (pair_in params (text_of read) (2 * length read + 1) a b) (λ pair. pairs_from params (read ++ pair ∷ []) lines) f h) [
      | inl stop ↦ record {
        front = [];
        before = [];
        one = a;
        two = b;
        rest = lines;
        cut = refl;
        good = tt;
        few = subst (λ (p : List Pair). text_of p ≤ 500000) (sym (append-nil read)) few;
        stop = subst (λ (p : List Pair). StopsAfter params p a b f) (sym (append-nil read)) stop;
      }
      | inr p ↦
          let (pair, here, after) = p in
          let (is, text) = pair_takes params (text_of read) (2 * length read + 1) a b pair here few in
          one_more params read a b lines pair f (is, tt) (stops_take params lines (read ++ pair ∷ []) f (omega (arith, text_more read pair, text)) after)
    ]

front_is_shorter : (front rest : List (List ℕ)) → length front ≤ length (front ++ rest)
front_is_shorter [] rest = omega arith
front_is_shorter (x ∷ front) rest = omega (arith, front_is_shorter front rest)

bad_pair : (params : ℕ) (lines : List (List ℕ)) (f : DirFault) (bad : List Pair → List ℕ → List ℕ → Type 0) (entity : ℕ) → length lines % 2 ≡ 0 → length lines ≤ 200000
    → (s : Stop params [] lines f) → entity ≡ 2 * length s.before + 1 → bad s.before s.one s.two → IsFirstBadPair params lines entity bad
bad_pair params lines f bad entity even few s number holds = record {
  front = s.front;
  before = s.before;
  one = s.one;
  two = s.two;
  rest = s.rest;
  even = even;
  few = few;
  good = record {
    few = omega (arith, few, front_is_shorter s.front (s.one ∷ s.two ∷ s.rest), ap length s.cut);
    entries = s.good;
    text = s.few;
  };
  holds = holds;
  cut = s.cut;
  number = number;
}

stop_is_fault : (params : ℕ) (lines : List (List ℕ)) (f : DirFault) → length lines % 2 ≡ 0 → length lines ≤ 200000 → (s : Stop params [] lines f) → IsPairFault params (2 * length s.before + 1) s.before s.one s.two f
    → IsDirectoryFault params lines f
stop_is_fault params lines (fault.Memory e) even few s h = absurd h
stop_is_fault params lines fault.OddLines even few s h = absurd h
stop_is_fault params lines fault.TooManyEntities even few s h = absurd h
stop_is_fault params lines (fault.BadField entity k) even few s h = bad_pair params lines (fault.BadField entity k) _ entity even few s h.0 h.1
stop_is_fault params lines (fault.TypeDiffers entity) even few s h = bad_pair params lines (fault.TypeDiffers entity) _ entity even few s h.0 h.1
stop_is_fault params lines (fault.TooMuchText entity) even few s h = bad_pair params lines (fault.TooMuchText entity) _ entity even few s h.0 h.1

is_odd_number : (n : ℕ) → not ((n % 2) == 0) ≡ true → n % 2 ≡ 1
is_odd_number n h = go ((n % 2) == 0) refl h where
  go : (v : Bool) → ((n % 2) == 0) ≡ v → not v ≡ true → n % 2 ≡ 1
  go true e h = cc
  go false e h = let odd : n % 2 ≢ 0 = grind arith in omega (arith, odd)

pub fault_takes : (params : ℕ) (lines : List (List ℕ)) (f : DirFault) → directory_in params lines ≡ Err f → IsDirectoryFault params lines f
unfolding directory_in
fault_takes params lines f h =
    elim (passed_or (not ((length lines % 2) == 0)) (cond (nat_lt 200000 (length lines)) (Err fault.TooManyEntities) (pairs_from params [] lines)) fault.OddLines f h) [
      | inl p ↦ subst (IsDirectoryFault params lines) p.1 (is_odd_number (length lines) p.0)
      | inr p ↦ after_odd (is_even (length lines) p.0) p.1
    ] where
      read_on : length lines % 2 ≡ 0 → length lines ≤ 200000 → pairs_from params [] lines ≡ Err f → IsDirectoryFault params lines f
      read_on even few e =
          let s = stops_take params lines [] f (omega arith) e in
          stop_is_fault params lines f even few s (pair_fault_takes params (2 * length s.before + 1) s.before s.one s.two f s.stop)

      after_odd : length lines % 2 ≡ 0 → cond (nat_lt 200000 (length lines)) (Err fault.TooManyEntities) (pairs_from params [] lines) ≡ Err f → IsDirectoryFault params lines f
      after_odd even e =
          elim (passed_or (nat_lt 200000 (length lines)) (pairs_from params [] lines) fault.TooManyEntities f e) [
            | inl p ↦ subst (IsDirectoryFault params lines) p.1 (even, test_lt 200000 (length lines) p.0)
            | inr p ↦ read_on even (at_least 200000 (length lines) p.0) p.1
          ]

-- ---- one outcome

-- a fault of lines is never out of memory
pub fault_of_text : (params : ℕ) (lines : List (List ℕ)) (f : DirFault) → IsDirectoryFault params lines f → IsOfText f
fault_of_text params lines (fault.Memory e) h = absurd h
fault_of_text params lines fault.OddLines h = λ e. omega arith
fault_of_text params lines fault.TooManyEntities h = λ e. omega arith
fault_of_text params lines (fault.BadField entity k) h = λ e. omega arith
fault_of_text params lines (fault.TypeDiffers entity) h = λ e. omega arith
fault_of_text params lines (fault.TooMuchText entity) h = λ e. omega arith

pub one_fault : (params : ℕ) (lines : List (List ℕ)) (f g : DirFault) → IsDirectoryFault params lines f → IsDirectoryFault params lines g → f ≡ g
one_fault params lines f g h k =
    let same : ◌≡◌ {A = Result (List Pair) DirFault} (Err f) (Err g) = sym (fault_again params lines f h) ∙ fault_again params lines g k in
    cc

pub one_list : (params : ℕ) (lines : List (List ℕ)) (a b : List Pair) → IsDirectory params lines a → IsDirectory params lines b → a ≡ b
one_list params lines a b h k =
    let same : ◌≡◌ {A = Result (List Pair) DirFault} (Ok a) (Ok b) = sym (directory_again params lines a h) ∙ directory_again params lines b k in
    cc

pub never_both : (params : ℕ) (lines : List (List ℕ)) (pairs : List Pair) (f : DirFault) → IsDirectory params lines pairs → IsDirectoryFault params lines f → ⊥
never_both params lines pairs f h k =
    let both : ◌≡◌ {A = Result (List Pair) DirFault} (Ok pairs) (Err f) = sym (directory_again params lines pairs h) ∙ fault_again params lines f k in
    cc

pub one_of_both : (params : ℕ) (lines : List (List ℕ)) → ((pairs : List Pair) × IsDirectory params lines pairs) ⊎ ((f : DirFault) × IsDirectoryFault params lines f)
one_of_both params lines = go (directory_in params lines) refl where
  go : (o : Result (List Pair) DirFault) → directory_in params lines ≡ o → ((pairs : List Pair) × IsDirectory params lines pairs) ⊎ ((f : DirFault) × IsDirectoryFault params lines f)
  go (Ok pairs) e = inl (pairs, directory_takes params lines pairs e)
  go (Err f) e = inr (f, fault_takes params lines f e)
