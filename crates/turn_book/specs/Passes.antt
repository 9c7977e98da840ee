-- solidd's own: what contracts see of a turn and of a pass.
use Rattle.std.specs.Prelude.{◌≡◌, ℕ, List, Bool, true, false, Option, refl}
use Rattle.std.specs.Coded.{Coded, code_by, coded×, coded_ℕ, coded_bool, coded_list, coded_option}
use Rattle.atomic_table.specs.Seated.{TableId, table_id_coded}
use Rattle.turn_book.specs.Steps.{all_parts}

-- which turn it is, and the opening and the length of the log of the book with which it was made
pub record TurnFacts (O : Type 0) : Type 0 where
  pub id : TableId
  pub opening : Option O
  pub opening_count : ℕ

-- what a pass shows
pub record PassFacts (O E : Type 0) : Type 0 where
  -- the turn that it is of, with its opening and opening count
  pub id : TableId
  pub opening : Option O
  pub opening_count : ℕ
  -- the entries that it has been shown
  pub front : List E
  -- the greatest count that it has been shown
  pub seen : ℕ
  -- the answers of newest, in order
  pub heard : List ℕ
  -- the entries that were added with it, or with passes that it met
  pub made : ℕ
  -- its share of the right to make passes
  pub parts : ℕ
  -- whether it holds the turn, and the log of the book that it then took
  pub holds : Bool
  pub taken : List E

abbrev TurnCode : Type 0 → Type 0
TurnCode O = TableId × (Option O × ℕ)

abbrev pub turn_code : {O : Type 0} → Coded O → Coded (TurnFacts O)
turn_code {O} o =
    code_by (TurnCode O) (coded× table_id_coded (coded× (coded_option o) coded_ℕ))
    (λ t. (t.id, (t.opening, t.opening_count)))
    (λ c. record { id = c.0; opening = c.1.0; opening_count = c.1.1 })
    (λ _. refl)

-- the parts of PassFacts in three groups
abbrev PassCode : Type 0 → Type 0 → Type 0
PassCode O E = TurnCode O × ((List E × (ℕ × List ℕ)) × ((ℕ × ℕ) × (Bool × List E)))

abbrev pub pass_code : {O E : Type 0} → Coded O → Coded E → Coded (PassFacts O E)
pass_code {O} {E} o e =
    code_by (PassCode O E)
    (coded× (coded× table_id_coded (coded× (coded_option o) coded_ℕ))
    (coded× (coded× (coded_list e) (coded× coded_ℕ (coded_list coded_ℕ)))
    (coded× (coded× coded_ℕ coded_ℕ) (coded× coded_bool (coded_list e)))))
    (λ p. (
      (p.id, (p.opening, p.opening_count)),
      ((p.front, (p.seen, p.heard)), ((p.made, p.parts), (p.holds, p.taken))),
    ))
    (λ c. record {
      id = c.0.0;
      opening = c.0.1.0;
      opening_count = c.0.1.1;
      front = c.1.0.0;
      seen = c.1.0.1.0;
      heard = c.1.0.1.1;
      made = c.1.1.0.0;
      parts = c.1.1.0.1;
      holds = c.1.1.1.0;
      taken = c.1.1.1.1;
    })
    (λ _. refl)

module _ {O E : Type 0} where
  -- the pass is of this turn
  abbrev pub IsPassOf : TurnFacts O → PassFacts O E → Type 0
  IsPassOf turn pass =
      (pass.id ≡ turn.id) × (pass.opening ≡ turn.opening)
      × (pass.opening_count ≡ turn.opening_count)

  -- the pass doesn't hold the turn
  abbrev pub IsIdle : PassFacts O E → Type 0
  IsIdle pass = pass.holds ≡ false

  -- the pass holds the turn
  abbrev pub HoldsTurn : PassFacts O E → Type 0
  HoldsTurn pass = pass.holds ≡ true

  -- the pass has all parts, so it is the only one of its turn
  abbrev pub IsWhole : PassFacts O E → Type 0
  IsWhole pass = pass.parts ≡ all_parts
