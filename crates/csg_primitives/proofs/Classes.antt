-- The class of a list of margins, both ways.
use Rattle.std.proofs.Common.{◌≡◌, ◌↔◌, ℤ, pos, Bool, true, false, cond, ◌||◌, ◌&&◌, List, [], ◌∷◌, ◌<ℤ◌, refl, arith}
use Rattle.std.specs.List.{All, Any, list_all, list_any}
use Rattle.std.proofs.lemmas.Int.{ints}
use Rattle.std.proofs.lemmas.List.Sums.{AllPass-from_list_all, list_all-from_AllPass}
use Rattle.std.proofs.lemmas.List.Folds.{Any-from_list_any, list_any-from_Any}
use Rattle.solid_base.specs.declared.classes.Class.TheVariants.{Outside, Mixed, Inside}
use Rattle.csg_primitives.specs.Classes.{is_positive, is_negative, exact_class}

pub positive_in : (m : ℤ) → pos 0 <ℤ m → is_positive m ≡ true
positive_in m h = grind (arith, ints)

pub positive_out : (m : ℤ) → is_positive m ≡ true → pos 0 <ℤ m
positive_out m h = grind (arith, ints)

pub negative_in : (m : ℤ) → m <ℤ pos 0 → is_negative m ≡ true
negative_in m h = grind (arith, ints)

pub negative_out : (m : ℤ) → is_negative m ≡ true → m <ℤ pos 0
negative_out m h = grind (arith, ints)

pub if_inside : (a b : Bool) → cond a Inside (cond b Outside Mixed) ≡ Inside → a ≡ true
if_inside true b e = refl
if_inside false true e = cc
if_inside false false e = cc

pub if_outside : (a b : Bool) → cond a Inside (cond b Outside Mixed) ≡ Outside → b ≡ true
if_outside true b e = cc
if_outside false true e = refl
if_outside false false e = cc

negative_not_positive : (m : ℤ) → is_negative m ≡ true → is_positive m ≡ false
negative_not_positive m h = grind (arith, ints)

some_excludes_all : (n p some all : Bool) → (n ≡ true → p ≡ false) → (some ≡ true → all ≡ false) → (n || some) ≡ true → (p && all) ≡ false
some_excludes_all true p some all h k e = rw (h refl) refl
some_excludes_all false false some all h k e = refl
some_excludes_all false true some all h k e = k e

not_all : (margins : List ℤ) → list_any is_negative margins ≡ true → list_all is_positive margins ≡ false
not_all [] e = cc
not_all (m ∷ margins) e = some_excludes_all (is_negative m) (is_positive m) (list_any is_negative margins) (list_all is_positive margins) (negative_not_positive m) (not_all margins) e

-- the class by two tests
pub exact_inside : (margins : List ℤ) → list_all is_positive margins ≡ true → exact_class margins ≡ Inside
exact_inside margins e = rw e refl

pub exact_outside : (margins : List ℤ) → list_any is_negative margins ≡ true → exact_class margins ≡ Outside
exact_outside margins e = rw (not_all margins e, e) refl

pub exact_class-inside : (margins : List ℤ) → (exact_class margins ≡ Inside) ↔ All (λ m. pos 0 <ℤ m) margins
exact_class-inside margins = (
  λ e. let passed = AllPass-from_list_all is_positive margins (if_inside _ (list_any is_negative margins) e) in λ k d below. positive_out _ (passed k d below),
  λ h. let all = list_all-from_AllPass is_positive margins (λ k d below. positive_in _ (h k d below)) in rw all,
)

pub exact_class-outside : (margins : List ℤ) → (exact_class margins ≡ Outside) ↔ Any (λ m. m <ℤ pos 0) margins
exact_class-outside margins = (
  λ e. let found = Any-from_list_any is_negative margins (if_outside (list_all is_positive margins) _ e) in (found.0, found.1, found.2, found.3, negative_out _ found.4),
  λ h. let some = list_any-from_Any is_negative margins (h.0, h.1, h.2, h.3, negative_in _ h.4) in
      let none = not_all margins some in
      rw (none, some),
)
