-- What the cards of a file in the fixed form keep, whatever stands in them: solidd's own bounds on
-- a model's lines.
use Rattle.std.specs.Prelude.{◌≡◌, ◌≤◌, ℕ, List, length}
use Rattle.std.specs.List.{AllByRecursion}
use Rattle.solid_base.specs.Texts.{IsOneLine}
use Rattle.iges_cards.specs.declared.reader.Cards.{Cards}

-- each line has so many bytes
abbrev pub AreWide : ℕ → List (List ℕ) → Type 0
AreWide width lines = AllByRecursion (λ line. length line ≡ width) lines

-- no line has a line feed
abbrev pub NoneHasFeed : List (List ℕ) → Type 0
NoneHasFeed lines = AllByRecursion IsOneLine lines

-- 1 to 9,999,999 start lines of 72 bytes; directory lines of 80 and parameter lines of 64, at most
-- 9,999,999 each; and no line feed in any of them, nor in the global text
pub record AreKept (cards : Cards) : Type 0 where
  pub some_start : 1 ≤ length cards.start
  pub few_start : length cards.start ≤ 9999999
  pub few_directory : length cards.directory ≤ 9999999
  pub few_params : length cards.params ≤ 9999999
  pub start : AllByRecursion (λ line. (length line ≡ 72) × IsOneLine line) cards.start
  pub global : IsOneLine cards.global
  pub directory_wide : AreWide 80 cards.directory
  pub directory_plain : NoneHasFeed cards.directory
  pub params_wide : AreWide 64 cards.params
  pub params_plain : NoneHasFeed cards.params
