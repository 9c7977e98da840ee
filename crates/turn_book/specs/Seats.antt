-- solidd's own: what is known of the seat of a pass.
use Rattle.std.specs.Prelude.{◌≡◌, ◌+◌, ◌<◌, List, [], ◌∷◌, length, Option, Some, None}
use Rattle.atomic_table.specs.declared.shared.Seat.{Seat}
use Rattle.atomic_table.specs.Seated.{TableId}
use Rattle.turn_book.specs.declared.view.View.{View}

module _ {B O E : Type 0} where
  -- the seat is of this table, and its view is of the turn that was made with the book `first`
  abbrev pub IsSeatOf : (B → O) → (B → List E) → TableId → B → Seat (Option B) (View O E) → Type 0
  IsSeatOf opening log id first seat =
      (seat.table_id ≡ id) × (0 < seat.me.0.parts)
      × (seat.me.0.opening ≡ Some (opening first))
      × (seat.me.0.opening_count ≡ length (log first))

  -- the seat doesn't have the turn, and no slot is out with it
  abbrev pub IsAside : Seat (Option B) (View O E) → Type 0
  IsAside seat = (seat.me.1 ≡ []) × (seat.me.0.turns ≡ 0)

  -- the seat has the turn, and its slot is empty
  abbrev pub HasTurn : Seat (Option B) (View O E) → Type 0
  HasTurn seat = (seat.me.1 ≡ (0, None) ∷ []) × (seat.me.0.turns ≡ 1)

module _ {O E : Type 0} where
  -- w is the view v after the book was given back with this log
  pub record IsGiven (v : View O E) (log : List E) (w : View O E) : Type 0 where
    pub of_turn : (w.opening ≡ v.opening) × (w.opening_count ≡ v.opening_count)
    pub turns : w.turns ≡ 0
    pub taken : w.taken ≡ []
    pub front : w.front ≡ log
    pub seen : w.seen ≡ length log
    pub heard : w.heard ≡ v.heard
    pub made : w.made + length v.taken ≡ v.made + length log
    pub parts : w.parts ≡ v.parts
