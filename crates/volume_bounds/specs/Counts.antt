-- How many verdicts are of a kind. solidd's own.
use Rattle.std.specs.Prelude.{ℕ, Bool, true, false, List}
use Rattle.std.specs.List.{count_by}
use Rattle.solid_base.specs.declared.classes.Class.{Class}
use Rattle.solid_base.specs.declared.classes.Class.TheVariants as class
use Rattle.solid_base.specs.declared.classes.Verdict.{Verdict}

-- whether the class is Inside
abbrev pub class_is_inside : Class → Bool
class_is_inside class.Outside = false
class_is_inside class.Mixed = false
class_is_inside class.Inside = true

-- whether the class isn't Outside
abbrev pub class_is_not_outside : Class → Bool
class_is_not_outside class.Outside = false
class_is_not_outside class.Mixed = true
class_is_not_outside class.Inside = true

abbrev pub is_inside : Verdict → Bool
is_inside v = class_is_inside v.class

abbrev pub is_not_outside : Verdict → Bool
is_not_outside v = class_is_not_outside v.class

-- solidd's own: how many cells lie inside
abbrev pub inside_count : List Verdict → ℕ
inside_count verdicts = count_by is_inside verdicts

-- solidd's own: how many cells aren't outside
abbrev pub not_outside_count : List Verdict → ℕ
not_outside_count verdicts = count_by is_not_outside verdicts
