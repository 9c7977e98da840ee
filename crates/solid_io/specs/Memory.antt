-- solidd's own: what contracts see of a source and of a sink in memory.
use Rattle.std.specs.Prelude.{ℕ, ◌<◌, ◌≤◌, ◌⊎◌, List, length}
use Rattle.solid_io.specs.declared.calls.Calls.{Calls}
use Rattle.solid_io.specs.Calls.{IsListed}

-- a source in memory: the bytes left, and its calls
pub record Supply : Type 0 where
  pub left : List ℕ
  pub calls : Calls

-- a sink in memory: the bytes held, how many it takes in all, and its calls
pub record Store : Type 0 where
  pub held : List ℕ
  pub room : ℕ
  pub calls : Calls

-- the next write fails if it is given these bytes: its call is listed, or there are bytes and no
-- room is left
abbrev pub Refuses : Store → List ℕ → Type 0
Refuses sink bytes = IsListed sink.calls ⊎ ((sink.room ≤ length sink.held) × (0 < length bytes))
