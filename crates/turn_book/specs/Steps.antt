-- solidd's own: what a view is after each of the seven kinds of step, and what the step tells its
-- caller. Word 0 of the table is the turn word, and word 1 the count. The one slot holds the book,
-- or nothing while it is out. In each "tells", m is the seat before the step, n the number that the
-- step found in its word, and m' the seat after.
use Rattle.std.specs.Prelude.{◌≡◌, ◌≢◌, ℕ, ◌+◌, ◌-◌, ◌≤◌, List, [], ◌∷◌, ◌++◌, length, max, nat_lt}
use Rattle.std.specs.Prelude.{if◌then◌else◌, Option, Some, None}
use mathlib.Core.List.{IsPrefix}
use Rattle.atomic_table.specs.Table.{Me, Step, rest}
use Rattle.turn_book.specs.declared.view.View.{View}

-- the parts that the first pass of a turn has
abbrev pub all_parts : ℕ
all_parts = 4294967296

-- the longer of two lists; the first where they are equally long
abbrev pub longer : {E : Type 0} → List E → List E → List E
longer xs ys = if nat_lt (length xs) (length ys) then ys else xs

module _ {O E : Type 0} where
  -- Kind 1. The turn was taken with a book of this log.
  abbrev pub with_turn : View O E → List E → View O E
  with_turn v log = record v { turns = 1; taken = log }

  -- Kind 2. An entry was added, and this is the log with it.
  abbrev pub with_entry : View O E → List E → View O E
  with_entry v log = record v { front = log; seen = length log; made = v.made + 1; taken = log }

  -- Kind 3. The turn was given up with the log that was taken.
  abbrev pub without_turn : View O E → View O E
  without_turn v = record v { front = v.taken; seen = length v.taken; turns = 0; taken = [] }

  -- Kind 4. The count was loaded.
  abbrev pub with_count : View O E → ℕ → View O E
  with_count v n = record v { seen = n; heard = v.heard ++ n ∷ [] }

  -- Kind 5. One part was cut off.
  abbrev pub without_part : View O E → View O E
  without_part v = record v { parts = v.parts - 1 }

  -- Kind 5. The new view, which has the part.
  abbrev pub new_part : View O E → View O E
  new_part v = record v {
    heard = [];
    made = 0;
    parts = 1;
    turns = 0;
    taken = [];
    old_front = [];
    met_front = [];
  }

  -- Kind 6. The view v took in the view w, and keeps the fronts of both.
  abbrev pub met : View O E → View O E → View O E
  met v w = record v {
    front = longer v.front w.front;
    seen = max v.seen w.seen;
    made = v.made + w.made;
    parts = v.parts + w.parts;
    old_front = v.front;
    met_front = w.front;
  }

  -- Kind 6. The view that was taken in is spent.
  abbrev pub spent_view : View O E
  spent_view = record {
    opening = None;
    opening_count = 0;
    front = [];
    seen = 0;
    heard = [];
    made = 0;
    parts = 0;
    turns = 0;
    taken = [];
    old_front = [];
    met_front = [];
  }

  -- Kind 7. The two fronts that were kept are given up.
  abbrev pub without_old_fronts : View O E → View O E
  without_old_fronts v = record v { old_front = []; met_front = [] }

  -- Kind 3 tells that the turn is given up, and that the book is in its slot again.
  abbrev pub TellsGive : {S : Type 0} → Step S → Me S (View O E) → ℕ → Me S (View O E) → Type 0
  TellsGive _ m n m' = m' ≡ (without_turn m.0, rest m.1)

  -- Kind 4 tells that the count was seen, and that no smaller count follows a greater one.
  abbrev pub TellsCount : {S : Type 0} → Step S → Me S (View O E) → ℕ → Me S (View O E) → Type 0
  TellsCount _ m n m' = (m' ≡ (with_count m.0 n, m.1)) × (m.0.seen ≤ n)

  -- Kind 7 tells that each of the two fronts is a prefix of the front.
  abbrev pub TellsFronts : {S : Type 0} → Step S → Me S (View O E) → ℕ → Me S (View O E) → Type 0
  TellsFronts _ m n m' =
      (m' ≡ (without_old_fronts m.0, m.1))
      × IsPrefix m.0.old_front m.0.front × IsPrefix m.0.met_front m.0.front

module _ {B O E : Type 0} (opening : B → O) (log : B → List E) where
  -- a view, and the slots that are out with it
  abbrev Seat : Type 0
  Seat = Me (Option B) (View O E)

  -- the view of the one pass with which a turn for this book begins
  abbrev pub first_view : B → View O E
  first_view book = record {
    opening = Some (opening book);
    opening_count = length (log book);
    front = log book;
    seen = length (log book);
    heard = [];
    made = 0;
    parts = all_parts;
    turns = 0;
    taken = [];
    old_front = [];
    met_front = [];
  }

  -- The turn was taken with a book of the turn's opening, and its log goes on from what was known.
  abbrev pub TakesBook : Seat → Seat → Type 0
  TakesBook m m' =
      (book : B) × (m' ≡ (with_turn m.0 (log book), (0, Some book) ∷ m.1))
      × (m.0.opening ≡ Some (opening book))
      × IsPrefix m.0.front (log book) × (m.0.seen ≤ length (log book))

  -- Kind 1 tells that the turn was taken where the turn word was 0, and that nothing changed where
  -- it wasn't.
  abbrev pub TellsTake : Step (Option B) → Seat → ℕ → Seat → Type 0
  TellsTake _ m n m' = (n ≡ 0 → TakesBook m m') × (n ≢ 0 → m' ≡ m)

  -- Kind 2 tells that the entry was added with which the book in the slot ends.
  abbrev pub TellsAdd : Step (Option B) → Seat → ℕ → Seat → Type 0
  TellsAdd _ m n m' =
      (book : B) → m.1 ≡ (0, Some book) ∷ [] → m' ≡ (with_entry m.0 (log book), m.1)
