-- Levels, of which the innermost stands last.
use Rattle.std.specs.Prelude.{◌-◌, List, length, take}
use Rattle.solid_eval.specs.declared.level_stack.Level.{Level}

-- solidd's own: all levels but the innermost
abbrev pub outer : List Level → List Level
outer levels = take (length levels - 1) levels
