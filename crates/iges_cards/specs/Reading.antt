-- The cards that stand in the bytes, or the first fault.
use Rattle.std.specs.Prelude.{ℕ, ◌+◌, List, [], ◌∷◌, ◌++◌, cond, length, take, Option, None, Some}
use Rattle.std.specs.Prelude.{Result, Ok, Err}
use Rattle.iges_cards.specs.declared.faults.CardFault.{CardFault}
use Rattle.iges_cards.specs.declared.faults.CardFault.TheVariants as fault
use Rattle.iges_cards.specs.declared.reader.Cards.{Cards}
use Rattle.iges_cards.specs.declared.sections.Counts.{Counts}
use Rattle.iges_cards.specs.declared.sections.Section.{Section}
use Rattle.iges_cards.specs.declared.sections.Section.TheVariants as section
use Rattle.solid_base.specs.Outcomes.{◌>>=◌}
use Rattle.iges_cards.specs.Checks.{card_in, terminated}
use Rattle.iges_cards.specs.Lines.{line_texts, line_of}
use Rattle.iges_cards.specs.Sections.{width_of, is_terminate, one_more, no_lines}

-- the columns that are kept of a line more
abbrev pub keep : Section → List ℕ → Cards → Cards
keep section.Start kept cards = record cards { start = cards.start ++ kept ∷ [] }
keep section.Global kept cards = record cards { global = cards.global ++ kept }
keep section.Directory kept cards = record cards { directory = cards.directory ++ kept ∷ [] }
keep section.Parameter kept cards = record cards { params = cards.params ++ kept ∷ [] }
keep section.Terminate kept cards = cards

-- nothing was read
abbrev pub no_cards : Cards
no_cards = record { start = []; global = []; directory = []; params = []; end = 0 }

-- a line is checked and kept, and then those after it; the section of the line before, the numbers
-- of lines, what was kept and the place are those of what was read before
unfoldable pub read_from
    : Option Section → Counts → Cards → ℕ → List (List ℕ) → Result Cards CardFault
read_from before counts cards place [] = Err fault.NoTerminate
read_from before counts cards place (text ∷ texts) =
    card_in before counts (line_of text) >>= λ card.
    cond (is_terminate card.0)
    (terminated counts card.1 >>= λ _. Ok (record cards { end = place + length text }))
    (read_from (Some card.0) (one_more card.0 counts)
    (keep card.0 (take (width_of card.0) card.1) cards) (place + length text) texts)

-- the cards that stand in the bytes, or the first fault
unfoldable pub cards_in : List ℕ → Result Cards CardFault
cards_in bytes = read_from None no_lines no_cards 0 (line_texts bytes)
