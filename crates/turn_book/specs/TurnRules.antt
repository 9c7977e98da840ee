-- solidd's own: the rule of the turn, which holds between any two atomic steps of any threads.
use Rattle.std.specs.Prelude.{◌≡◌, ℕ, ◌+◌, ◌<◌, ◌≤◌, List, [], ◌∷◌, length, Option as Maybe, Some}
use mathlib.Core.Option.{Option, some}
use mathlib.Core.List.{IsPrefix}
use lib.ListN.{get_elem?}
use Rattle.atomic_table.specs.Table.{State}
use Rattle.turn_book.specs.declared.view.View.{View}
use Rattle.turn_book.specs.Steps.{all_parts}

-- the sum of f over a list
abbrev pub total : {A : Type 0} → (A → ℕ) → List A → ℕ
total f [] = 0
total f (x ∷ xs) = f x + total f xs

module _ {O E : Type 0} where
  abbrev pub turns_of : View O E → ℕ
  turns_of v = v.turns

  abbrev pub made_of : View O E → ℕ
  made_of v = v.made

  abbrev pub parts_of : View O E → ℕ
  parts_of v = v.parts

  -- a view that was taken in by another has no part left
  abbrev pub IsSpent : View O E → Type 0
  IsSpent v = v.parts ≡ 0

  -- what one view says is true of the turn with this opening and opening count, and of its history
  pub record IsTrueOf (opening : O) (count : ℕ) (history : List E) (v : View O E) : Type 0 where
    -- A view that isn't spent has the turn's opening and opening count.
    pub of_turn : 0 < v.parts → (v.opening ≡ Some opening) × (v.opening_count ≡ count)
    -- The front is a prefix of the history.
    pub front : IsPrefix v.front history
    -- The front is at most seen long, and seen is at most the count.
    pub front_seen : length v.front ≤ v.seen
    pub seen : v.seen ≤ length history
    -- The taken log of a view that has the turn is the history.
    pub taken : v.turns ≡ 1 → v.taken ≡ history
    -- The two fronts that a view keeps when it has taken in another are prefixes of its front.
    pub old_front : IsPrefix v.old_front v.front
    pub met_front : IsPrefix v.met_front v.front
    -- A spent view doesn't have the turn, has made nothing, and has an empty front and seen
    -- nothing.
    pub spent : IsSpent v → (v.turns ≡ 0) × (v.made ≡ 0) × (v.front ≡ []) × (v.seen ≡ 0)

module _ {B O E : Type 0} (opening : B → O) (log : B → List E) where
  -- the book stands in the slot, with the opening of the first book and the history as its log
  abbrev pub IsHome : B → List E → Option (Maybe B) → Type 0
  IsHome first history slot =
      (book : B) × (slot ≡ some (Some book))
      × (opening book ≡ opening first) × (log book ≡ history)

  -- the rule of a turn that was made with the book `first`
  pub record TurnRule (first : B) (s : State (Maybe B) (View O E)) : Type 0 where
    pub turn_word : ℕ
    -- all entries of the book up to now
    pub history : List E
    pub slot : Option (Maybe B)
    -- The words are the turn word and the count, which is the length of the history.
    pub words : s.words ≡ turn_word ∷ length history ∷ []
    pub slots : s.homes ≡ slot ∷ []
    -- The turn word is the number of views that have the turn, which is 0 or 1.
    pub holders : total turns_of s.views ≡ turn_word
    pub one_holder : turn_word ≤ 1
    -- What was made with all views is what the history has beyond the opening count.
    pub made : total made_of s.views + length (log first) ≡ length history
    -- All parts are with the views.
    pub parts : total parts_of s.views ≡ all_parts
    -- The book is at home whenever no view has the turn, and then has the history as its log.
    pub home : turn_word ≡ 0 → IsHome first history slot
    -- Each view is true.
    pub views : (i : ℕ) (v : View O E) → get_elem? s.views i ≡ some v →
        IsTrueOf (opening first) (length (log first)) history v
