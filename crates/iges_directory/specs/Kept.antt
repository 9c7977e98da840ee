-- What the entries of a directory keep, whatever stands in its lines: the ranges of a model's rows;
-- solidd's own.
use Rattle.std.specs.Prelude.{◌≡◌, ◌≤◌, ℕ, List, length}
use Rattle.std.specs.List.{AllByRecursion}
use Rattle.solid_base.specs.Texts.{IsOneLine}
use Rattle.iges_directory.specs.declared.pairs.Pair.{Pair}
use Rattle.iges_directory.specs.Pairs.{null_pair}

-- lines of 80 columns without a line feed
abbrev pub AreColumns : List (List ℕ) → Type 0
AreColumns lines = AllByRecursion (λ line. (length line ≡ 80) × IsOneLine line) lines

-- an entry: 96 bytes of attributes without a line feed, numbers that fit their fields, and of the
-- null entity nothing else
pub record IsKept (pair : Pair) : Type 0 where
  pub kind : pair.kind ≤ 99999
  pub form : pair.form ≤ 99999
  pub matrix : pair.matrix ≤ 9999999
  pub null : pair.kind ≡ 0 → pair ≡ null_pair
  pub attributes : length pair.attrs ≡ 96
  pub in_line : IsOneLine pair.attrs
