-- solidd's own: what a verdict says.
use Rattle.std.specs.Prelude.{◌≡◌, ◌<◌, ℕ}
use Rattle.solid_base.specs.declared.classes.Class.{Class}
use Rattle.solid_base.specs.declared.classes.Class.TheVariants as class
use Rattle.solid_base.specs.declared.classes.Verdict.{Verdict}

-- the leaf of a class: a number above 0 where the class is mixed, else 0
abbrev pub IsLeafOf : Class → ℕ → Type 0
IsLeafOf class.Outside leaf = leaf ≡ 0
IsLeafOf class.Mixed leaf = 0 < leaf
IsLeafOf class.Inside leaf = leaf ≡ 0

-- a verdict names a primitive exactly where its class is mixed
abbrev pub IsVerdict : Verdict → Type 0
IsVerdict v = IsLeafOf v.class v.leaf
