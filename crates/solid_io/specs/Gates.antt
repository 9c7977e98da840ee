-- solidd's own: what contracts see of a gate with two waits.
use Rattle.std.specs.Prelude.{ℕ}

-- a gate with two waits: the session whose first work is held, the session whose first answer is
-- held, the number of answers that ends the first wait, and how many looks end either of them
pub record Waits : Type 0 where
  pub held : ℕ
  pub until : ℕ
  pub answer_count : ℕ
  pub turns : ℕ
