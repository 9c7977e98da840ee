-- What the class of a list of spans says of their signs, and back.
use Rattle.std.proofs.Common.{◌≡◌, ◌≢◌, ◌↔◌, ℤ, pos, Bool, true, false, ◌||◌, ◌&&◌, List, [], ◌∷◌, map, refl, arith, if◌then◌else◌}
use Rattle.std.specs.List.{All, Any, list_all, list_any}
use Rattle.std.proofs.lemmas.Int.{ints}
use Rattle.std.proofs.lemmas.List.Sums.{AllPass-from_list_all, list_all-from_AllPass}
use Rattle.std.proofs.lemmas.List.Folds.{Any-from_list_any, list_any-from_Any, list_any_none}
use Rattle.solid_base.specs.declared.classes.Class.TheVariants.{Outside, Mixed, Inside}
use Rattle.fixed_enclosure.specs.declared.enclosures.Sign.{Sign}
use Rattle.fixed_enclosure.specs.declared.enclosures.Sign.TheVariants.{Negative, Positive, Open}
use Rattle.fixed_enclosure.specs.Spans.{Span, Every, Between, Holds}
use Rattle.fixed_enclosure.specs.Values.{sign_of}
use Rattle.csg_primitives.specs.WrittenMargins.{is_negative_sign, is_positive_sign, sign_class, span_class}

abbrev pub is_negative_span : Span → Bool
is_negative_span s = is_negative_sign (sign_of s)

abbrev pub is_positive_span : Span → Bool
is_positive_span s = is_positive_sign (sign_of s)

-- ---- tests of a sign
pub negative_out : (s : Sign) → is_negative_sign s ≡ true → s ≡ Negative
negative_out Negative e = refl
negative_out Positive e = cc
negative_out Open e = cc

pub negative_in : (s : Sign) → s ≡ Negative → is_negative_sign s ≡ true
negative_in s e = rw e refl

pub positive_out : (s : Sign) → is_positive_sign s ≡ true → s ≡ Positive
positive_out Negative e = cc
positive_out Positive e = refl
positive_out Open e = cc

pub positive_in : (s : Sign) → s ≡ Positive → is_positive_sign s ≡ true
positive_in s e = rw e refl

-- ---- the class by two tests
any_map : (p : Sign → Bool) (spans : List Span) → list_any p (map sign_of spans) ≡ list_any (λ s. p (sign_of s)) spans
any_map p [] = refl
any_map p (s ∷ spans) = rw (any_map p spans) refl

all_map : (p : Sign → Bool) (spans : List Span) → list_all p (map sign_of spans) ≡ list_all (λ s. p (sign_of s)) spans
all_map p [] = refl
all_map p (s ∷ spans) = rw (all_map p spans) refl

pub by_tests : (spans : List Span) → span_class spans ≡ (if list_any is_negative_span spans then Outside else (if list_all is_positive_span spans then Inside else Mixed))
unfolding sign_class
by_tests spans = rw (any_map is_negative_sign spans, all_map is_positive_sign spans) refl

if_outside : (a b : Bool) → (if a then Outside else (if b then Inside else Mixed)) ≡ Outside → a ≡ true
if_outside true b e = refl
if_outside false true e = cc
if_outside false false e = cc

if_inside : (a b : Bool) → (if a then Outside else (if b then Inside else Mixed)) ≡ Inside → (a ≡ false) × (b ≡ true)
if_inside true b e = cc
if_inside false true e = (refl, refl)
if_inside false false e = cc

if_mixed : (a b : Bool) → (if a then Outside else (if b then Inside else Mixed)) ≡ Mixed → (a ≡ false) × (b ≡ false)
if_mixed true b e = cc
if_mixed false true e = cc
if_mixed false false e = (refl, refl)

pub outside_out : (spans : List Span) → span_class spans ≡ Outside → list_any is_negative_span spans ≡ true
outside_out spans e = if_outside (list_any is_negative_span spans) (list_all is_positive_span spans) (rw (by_tests spans) at e)

pub outside_in : (spans : List Span) → list_any is_negative_span spans ≡ true → span_class spans ≡ Outside
outside_in spans e = rw (by_tests spans, e) refl

both_tests : (s : Sign) (some all : Bool) → (all ≡ true → some ≡ false) → (is_positive_sign s && all) ≡ true → (is_negative_sign s || some) ≡ false
both_tests Negative some all h e = cc
both_tests Positive some all h e = h e
both_tests Open some all h e = cc

pub none_negative : (spans : List Span) → list_all is_positive_span spans ≡ true → list_any is_negative_span spans ≡ false
none_negative [] e = refl
none_negative (s ∷ spans) e = both_tests (sign_of s) (list_any is_negative_span spans) (list_all is_positive_span spans) (none_negative spans) e

pub inside_out : (spans : List Span) → span_class spans ≡ Inside → list_all is_positive_span spans ≡ true
inside_out spans e = (if_inside (list_any is_negative_span spans) (list_all is_positive_span spans) (rw (by_tests spans) at e)).1

pub inside_in : (spans : List Span) → list_all is_positive_span spans ≡ true → span_class spans ≡ Inside
inside_in spans e = rw (by_tests spans, none_negative spans e, e) refl

-- ---- the cause of each class
pub inside-cause : (spans : List Span) → (span_class spans ≡ Inside) ↔ All (λ s. sign_of s ≡ Positive) spans
inside-cause spans = (
  λ e. let passed = AllPass-from_list_all is_positive_span spans (inside_out spans e) in λ k d below. positive_out _ (passed k d below),
  λ h. inside_in spans (list_all-from_AllPass is_positive_span spans (λ k d below. positive_in _ (h k d below))),
)

pub outside-cause : (spans : List Span) → (span_class spans ≡ Outside) ↔ Any (λ s. sign_of s ≡ Negative) spans
outside-cause spans = (
  λ e. let found = Any-from_list_any is_negative_span spans (outside_out spans e) in (found.0, found.1, found.2, found.3, negative_out _ found.4),
  λ h. outside_in spans (list_any-from_Any is_negative_span spans (h.0, h.1, h.2, h.3, negative_in _ h.4)),
)

-- a span has no sign exactly where it holds 0
open_between : (lo hi : ℤ) → (sign_of (Between lo hi) ≡ Open) ↔ Holds 1 (Between lo hi) (pos 0)
unfolding sign_of
open_between lo hi = (λ e. grind (arith, ints), λ h. grind (arith, ints))

pub open-zero : (s : Span) → (sign_of s ≡ Open) ↔ Holds 1 s (pos 0)
unfolding sign_of
open-zero Every = (λ e. tt, λ h. refl)
open-zero (Between lo hi) = open_between lo hi

abbrev is_open : Sign → Bool
is_open Negative = false
is_open Positive = false
is_open Open = true

open_out : (s : Sign) → is_open s ≡ true → s ≡ Open
open_out Negative e = cc
open_out Positive e = cc
open_out Open e = refl

open_in : (s : Sign) → s ≡ Open → is_open s ≡ true
open_in s e = rw e refl

open_step : (s : Sign) (some all unsure : Bool) → (some ≡ false → all ≡ false → unsure ≡ true) → (is_negative_sign s || some) ≡ false → (is_positive_sign s && all) ≡ false → (is_open s || unsure) ≡ true
open_step Negative some all unsure h e f = cc
open_step Positive some all unsure h e f = h e f
open_step Open some all unsure h e f = refl

some_open : (spans : List Span) → list_any is_negative_span spans ≡ false → list_all is_positive_span spans ≡ false → list_any (λ s. is_open (sign_of s)) spans ≡ true
some_open [] e f = cc
some_open (s ∷ spans) e f =
    open_step (sign_of s) (list_any is_negative_span spans) (list_all is_positive_span spans) (list_any (λ t. is_open (sign_of t)) spans) (some_open spans) e f

closed_step : (s : Sign) (all unsure : Bool) → (unsure ≡ true → all ≡ false) → (is_open s || unsure) ≡ true → (is_positive_sign s && all) ≡ false
closed_step Negative all unsure h e = refl
closed_step Positive all unsure h e = h e
closed_step Open all unsure h e = refl

not_all_positive : (spans : List Span) → list_any (λ s. is_open (sign_of s)) spans ≡ true → list_all is_positive_span spans ≡ false
not_all_positive [] e = cc
not_all_positive (s ∷ spans) e = closed_step (sign_of s) (list_all is_positive_span spans) (list_any (λ t. is_open (sign_of t)) spans) (not_all_positive spans) e

test_negative : (s : Sign) → s ≢ Negative → is_negative_sign s ≡ false
test_negative Negative h = absurd (h refl)
test_negative Positive h = refl
test_negative Open h = refl

abbrev turned : Bool → Bool
turned b = if b then false else true

none_step : (a b c : Bool) → (b ≡ false → c ≡ true) → (a || b) ≡ false → (turned a && c) ≡ true
none_step true b c h e = cc
none_step false b c h e = h e

none_all : (spans : List Span) → list_any is_negative_span spans ≡ false → list_all (λ s. turned (is_negative_span s)) spans ≡ true
none_all [] e = refl
none_all (s ∷ spans) e = none_step (is_negative_span s) (list_any is_negative_span spans) (list_all (λ t. turned (is_negative_span t)) spans) (none_all spans) e

turned_test : (s : Sign) → turned (is_negative_sign s) ≡ true → s ≢ Negative
turned_test Negative e = cc
turned_test Positive e = λ h. cc
turned_test Open e = λ h. cc

-- neither inside nor outside is shown exactly where no margin is negative and one may be 0
pub mixed-cause : (spans : List Span) → (span_class spans ≡ Mixed) ↔ (All (λ s. sign_of s ≢ Negative) spans × Any (λ s. Holds 1 s (pos 0)) spans)
mixed-cause spans = (
  λ e. let tests = if_mixed (list_any is_negative_span spans) (list_all is_positive_span spans) (rw (by_tests spans) at e) in
      let passed = AllPass-from_list_all (λ s. turned (is_negative_span s)) spans (none_all spans tests.0) in
      let found = Any-from_list_any (λ s. is_open (sign_of s)) spans (some_open spans tests.0 tests.1) in
      (λ k d below. turned_test _ (passed k d below), (found.0, found.1, found.2, found.3, (open-zero _).0 (open_out _ found.4))),
  λ h. let none = list_any_none is_negative_span spans (λ k d below. test_negative _ (h.0 k d below)) in
      let a = h.1 in
      let unsure = list_any-from_Any (λ s. is_open (sign_of s)) spans (a.0, a.1, a.2, a.3, open_in _ ((open-zero _).1 a.4)) in
      rw (by_tests spans, none, not_all_positive spans unsure) refl,
)
