-- solidd's own: where a place lies against a primitive, told by its margins. A margin is a whole
-- number that is positive on the inner side of a bounding surface, zero on it and negative beyond
-- it. `Mixed` stands for "on the boundary", so that the words on Boolean trees serve exact and
-- enclosed classes alike.
use Rattle.std.specs.Prelude.{ℤ, pos, List, Bool, if◌then◌else◌, int_lt}
use Rattle.std.specs.List.{list_all, list_any}
use Rattle.solid_base.specs.declared.classes.Class.{Class}
use Rattle.solid_base.specs.declared.classes.Class.TheVariants.{Outside, Mixed, Inside}

abbrev pub is_positive : ℤ → Bool
is_positive margin = int_lt (pos 0) margin

abbrev pub is_negative : ℤ → Bool
is_negative margin = int_lt margin (pos 0)

-- inside where all margins are positive, outside where some margin is negative, else on the
-- boundary
abbrev pub exact_class : List ℤ → Class
exact_class margins =
    if list_all is_positive margins then Inside
    else (if list_any is_negative margins then Outside else Mixed)
