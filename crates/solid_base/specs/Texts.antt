-- solidd's own: texts of one line, and the kept fields of an entity that has none of its own.
use Rattle.std.specs.Prelude.{◌≢◌, ℕ, List, ◌++◌, replicate}
use Rattle.std.specs.List.{AllByRecursion}

-- no byte is a line feed
abbrev pub IsOneLine : List ℕ → Type 0
IsOneLine text = AllByRecursion (λ b. b ≢ 10) text

-- IGES 5.3, 2.2.4.4 (directory entry section): the twelve directory fields that are kept unread,
-- where nothing stands in them but zeros in field 9
abbrev pub blank_attributes : List ℕ
blank_attributes = (replicate 40 32 ++ replicate 8 48) ++ replicate 48 32
