-- The steps on a word, and the start, keep the rule.
use Rattle.std.proofs.Common.{◌≡◌, ℕ, ◌+◌, ◌<◌, ◌%◌, eqb, List, [], ◌∷◌, ◌++◌, length, map, set}
use Rattle.std.proofs.Common.{length-append, refl, ap, sym, ◌∙◌, subst, arith, le_refl}
use Rattle.std.proofs.Common.{Option as Maybe, Some, None}
use mathlib.Core.Option.{none, some}
use mathlib.Core.List.{IsPrefix}
use Rattle.std.proofs.Math.Nat.{mod-eq_of_lt}
use lib.ListN.{get_elem?}
use prog.Atomic.{either}
use Rattle.atomic_table.specs.Table.{State, Me, step, keeps, takes, gives, Allows, opening}
use Rattle.atomic_table.proofs.Lists.{exchanged}
use Rattle.turn_book.specs.Steps.{with_turn, with_entry, without_turn, with_count}
use Rattle.turn_book.specs.Steps.{without_old_fronts, first_view, TellsTake, TellsAdd, TellsGive}
use Rattle.turn_book.specs.Steps.{TellsCount, TellsFronts}
use Rattle.turn_book.specs.TurnRules.{turns_of}
use Rattle.turn_book.proofs.Prefixes.{prefix_self, prefix_trans}
use Rattle.turn_book.proofs.Totals.{total_at, total_two}
use Rattle.turn_book.proofs.Views.{V, Rule, IsTrue, Owes, changed, as_ruled, only_one}

module _ {B O E : Type 0} (open_of : B → O) (log : B → List E) where
  abbrev View : Type 0
  View = V {B = B} {O = O} {E = E} open_of log

  abbrev Ruled : B → State (Maybe B) View → Type 0
  Ruled = Rule {B = B} {O = O} {E = E} open_of log

  abbrev True : B → List E → View → Type 0
  True = IsTrue {B = B} {O = O} {E = E} open_of log

  abbrev Seat : Type 0
  Seat = Me (Maybe B) View

  -- what kinds 1, 2 and 3 ask of a seat
  abbrev pub AllowsTake : B → ℕ → ℕ → Seat → Type 0
  AllowsTake first slots id me =
      Allows (Ruled first) slots id me 0 (λ n. either (eqb n 0) 1 n)
      (TellsTake open_of log (step slots 0 0 1 none) me)

  abbrev pub AllowsAdd : B → ℕ → ℕ → Seat → Type 0
  AllowsAdd first slots id me =
      Allows (Ruled first) slots id me 1 (λ n. (n + 1) % 18446744073709551616)
      (TellsAdd open_of log (step slots 1 1 0 none) me)

  abbrev pub AllowsGive : B → ℕ → ℕ → Seat → Type 0
  AllowsGive first slots id me =
      Allows (Ruled first) slots id me 0 (λ _. 0) (TellsGive (step slots 0 0 0 none) me)

  -- the table and the one view of a new turn meet the rule
  pub begins : (book : B) (n : ℕ) (xs : List (Maybe B))
      → n ≡ length (log book) → xs ≡ Some book ∷ []
      → Ruled book (opening (0 ∷ n ∷ []) xs (first_view open_of log book))
  begins book n xs count there = record {
    turn_word = 0;
    history = log book;
    slot = some (Some book);
    words = ap (λ (m : ℕ). 0 ∷ m ∷ []) count;
    slots = ap (map some) there;
    holders = refl;
    one_holder = omega arith;
    made = omega arith;
    parts = refl;
    home = λ _. (book, refl, refl, refl);
    views = λ j d at. subst (True book (log book))
        (only_one (first_view open_of log book) j d at) record {
          of_turn = λ _. (refl, refl);
          front = prefix_self (log book);
          front_seen = le_refl (length (log book));
          seen = le_refl (length (log book));
          taken = λ one. absurd (omega (arith, one));
          old_front = (log book, refl);
          met_front = (log book, refl);
          spent = λ none_left. absurd (omega (arith, none_left));
        };
  }

  -- Kind 1, where the turn word is 0: the view has the turn, and the slot is out.
  turn_taken : (first : B) (s : State (Maybe B) View) (r : Ruled first s) (id : ℕ) (v : View)
      (book : B)
      → 0 < v.parts → get_elem? s.views id ≡ some v → r.turn_word ≡ 0 → log book ≡ r.history
      → Ruled first record {
        words = 1 ∷ length r.history ∷ [];
        homes = none ∷ [];
        views = set s.views id (with_turn v (log book));
      }
  turn_taken first s r id v book live at free whole =
      let f = r.views id v at in
      let holders = r.holders in let mine = total_at turns_of s.views id v at in
      changed open_of log first s r id v (with_turn v (log book)) at 1 r.history none
      (omega arith) (omega (arith, free, holders, mine)) (omega arith) refl
      (λ zero_now. absurd (omega (arith, zero_now)))
      record {
        of_turn = f.of_turn;
        front = f.front;
        front_seen = f.front_seen;
        seen = f.seen;
        taken = λ _. whole;
        old_front = f.old_front;
        met_front = f.met_front;
        spent = λ none_left. absurd (omega (arith, live, none_left));
      }
      (λ _ _ _ _ still. still)

  -- A step that leaves its view as it is, and words and slot too.
  unchanged : (first : B) (s : State (Maybe B) View) (r : Ruled first s) (id : ℕ) (v : View)
      → get_elem? s.views id ≡ some v
      → Ruled first record {
        words = r.turn_word ∷ length r.history ∷ [];
        homes = r.slot ∷ [];
        views = set s.views id v;
      }
  unchanged first s r id v at =
      changed open_of log first s r id v v at r.turn_word r.history r.slot
      r.one_holder (omega arith) (omega arith) refl r.home (r.views id v at)
      (λ _ _ _ _ still. still)

  pub takes_turn : (first : B) (slots id : ℕ) (v : View) → 0 < v.parts
      → AllowsTake first slots id (v, [])
  takes_turn first slots id v live s r _ at _ =
      let f = r.views id v at in
      let tells = TellsTake open_of log (step slots 0 0 1 none) (v, []) in
      let P = Owes open_of log first s.views id (v, []) 0 (λ n. either (eqb n 0) 1 n) tells in
      let F : ℕ → Type 0 = λ n. Owes open_of log first s.views id (v, []) 0 (λ _. n) tells
      (r.turn_word ∷ length r.history ∷ [], r.slot ∷ []) in
      as_ruled open_of log first s r P (exchanged r.turn_word 0 1 F
      (λ free. let home = r.home free in let book : B = home.0 in
      let whole : log book ≡ r.history = home.3 in
      let long : length (log book) ≡ length r.history = ap length whole in
      let seen = f.seen in (
        with_turn v (log book),
        takes 0 (Some book),
        ap some home.1,
        turn_taken first s r id v book live at free whole,
        (
          (λ _. (
            book,
            refl,
            (f.of_turn live).0 ∙ ap Some (sym home.2),
            subst (IsPrefix v.front) (sym whole) f.front,
            omega (arith, seen, long),
          )),
          (λ busy. absurd (busy free)),
        ),
      ))
      (λ busy. (
        v,
        keeps,
        tt,
        unchanged first s r id v at,
        ((λ free. absurd (busy free)), (λ _. refl)),
      )))

  -- Kind 2: the history has the entry too. No other view has the turn, so no other taken log is too
  -- short.
  pub adds_entry : (first : B) (slots id : ℕ) (v : View) (book : B) (entry : E) → 0 < v.parts
      → v.turns ≡ 1 → log book ≡ v.taken ++ entry ∷ [] → length (log book) < 18446744073709551616
      → AllowsAdd first slots id (v, (0, Some book) ∷ [])
  adds_entry first slots id v book entry live has more room s r _ at _ =
      let f = r.views id v at in let new : List E = log book in
      let holders = r.holders in let mine = total_at turns_of s.views id v at in
      let whole : new ≡ r.history ++ entry ∷ [] =
      more ∙ ap (λ xs. xs ++ entry ∷ []) (f.taken has) in
      let long : length new ≡ length r.history + 1 =
      ap length whole ∙ length-append r.history (entry ∷ []) in
      let count : (length r.history + 1) % 18446744073709551616 ≡ length new =
      mod-eq_of_lt (omega (arith, long, room)) ∙ sym long in
      let goes_on : IsPrefix r.history new = (entry ∷ [], sym whole) in
      let me : Seat = (v, (0, Some book) ∷ []) in
      let P = Owes open_of log first s.views id me 1 (λ n. (n + 1) % 18446744073709551616)
      (TellsAdd open_of log (step slots 1 1 0 none) me) in
      as_ruled open_of log first s r P (
        with_entry v new,
        keeps,
        tt,
        subst (λ (n : ℕ). Ruled first record {
          words = r.turn_word ∷ n ∷ [];
          homes = r.slot ∷ [];
          views = set s.views id (with_entry v new);
        }) (sym count)
            (changed open_of log first s r id v (with_entry v new) at r.turn_word new r.slot
            r.one_holder (omega arith) (omega (arith, long)) refl
            (λ free. absurd (omega (arith, mine, holders, has, free)))
            record {
              of_turn = f.of_turn;
              front = prefix_self new;
              front_seen = le_refl (length new);
              seen = le_refl (length new);
              taken = λ _. refl;
              old_front = prefix_trans v.old_front r.history new
                  (prefix_trans v.old_front v.front r.history f.old_front f.front) goes_on;
              met_front = prefix_trans v.met_front r.history new
                  (prefix_trans v.met_front v.front r.history f.met_front f.front) goes_on;
              spent = λ none_left. absurd (omega (arith, live, none_left));
            }
            (λ j d apart there still. record {
              of_turn = still.of_turn;
              front = prefix_trans d.front r.history new still.front goes_on;
              front_seen = still.front_seen;
              seen = let within = still.seen in omega (arith, within, long);
              taken = λ one.
                  let two = total_two turns_of s.views j id d v apart there at in
                  let most = r.one_holder in
                  absurd (omega (arith, two, holders, most, has, one));
              old_front = still.old_front;
              met_front = still.met_front;
              spent = still.spent;
            })),
        (λ book' same. let eq : book ≡ book' = ap (in_slot book) same in
            λ i. (with_entry v (log (eq i)), (0, Some book) ∷ [])),
      )
    where
      in_slot : B → List (ℕ × Maybe B) → B
      in_slot d [] = d
      in_slot d ((k, None) ∷ xs) = d
      in_slot d ((k, Some b) ∷ xs) = b

  -- Kind 3: no view has the turn, and the book is at home.
  pub gives_turn : (first : B) (slots id : ℕ) (v : View) (book : B) → 0 < v.parts → v.turns ≡ 1
      → open_of book ≡ open_of first → log book ≡ v.taken
      → AllowsGive first slots id (v, (0, Some book) ∷ [])
  gives_turn first slots id v book live has opens same s r _ at _ =
      let f = r.views id v at in
      let holders = r.holders in let mine = total_at turns_of s.views id v at in
      let most = r.one_holder in
      let whole : v.taken ≡ r.history = f.taken has in
      let long : length v.taken ≡ length r.history = ap length whole in
      let me : Seat = (v, (0, Some book) ∷ []) in
      let P = Owes open_of log first s.views id me 0 (λ _. 0)
      (TellsGive (step slots 0 0 0 none) me) in
      let to_taken : IsPrefix v.front v.taken = subst (IsPrefix v.front) (sym whole) f.front in
      as_ruled open_of log first s r P (
        without_turn v,
        gives,
        tt,
        changed open_of log first s r id v (without_turn v) at 0 r.history (some (Some book))
            (omega arith) (omega (arith, holders, mine, most, has)) (omega arith) refl
            (λ _. (book, refl, opens, same ∙ whole))
            record {
              of_turn = f.of_turn;
              front =
                  subst (λ (xs : List E). IsPrefix xs r.history) (sym whole)
                  (prefix_self r.history);
              front_seen = le_refl (length v.taken);
              seen = omega (arith, long);
              taken = λ one. absurd (omega (arith, one));
              old_front = prefix_trans v.old_front v.front v.taken f.old_front to_taken;
              met_front = prefix_trans v.met_front v.front v.taken f.met_front to_taken;
              spent = λ none_left. absurd (omega (arith, live, none_left));
            }
            (λ _ _ _ _ still. still),
        refl,
      )

  -- Kind 4: the count is the length of the history, so at least what the view had seen.
  pub loads_count : (first : B) (slots id : ℕ) (me : Seat) → 0 < me.0.parts
      → Allows (Ruled first) slots id me 1 (λ n. n) (TellsCount (step slots 1 0 0 none) me)
  loads_count first slots id me live s r _ at _ =
      let v : View = me.0 in let n : ℕ = length r.history in let f = r.views id v at in
      let front = f.front_seen in let seen = f.seen in
      let P = Owes open_of log first s.views id me 1 (λ n. n)
      (TellsCount (step slots 1 0 0 none) me) in
      as_ruled open_of log first s r P (
        with_count v n,
        keeps,
        tt,
        changed open_of log first s r id v (with_count v n) at r.turn_word r.history r.slot
            r.one_holder (omega arith) (omega arith) refl r.home
            record {
              of_turn = f.of_turn;
              front = f.front;
              front_seen = omega (arith, front, seen);
              seen = le_refl n;
              taken = f.taken;
              old_front = f.old_front;
              met_front = f.met_front;
              spent = λ none_left. absurd (omega (arith, live, none_left));
            }
            (λ _ _ _ _ still. still),
        (refl, seen),
      )

  -- Kind 7: the rule has that both old fronts are prefixes of the front.
  pub learns_fronts : (first : B) (slots id : ℕ) (me : Seat) → 0 < me.0.parts
      → Allows (Ruled first) slots id me 0 (λ n. n) (TellsFronts (step slots 0 0 0 none) me)
  learns_fronts first slots id me live s r _ at _ =
      let v : View = me.0 in let f = r.views id v at in
      let P = Owes open_of log first s.views id me 0 (λ n. n)
      (TellsFronts (step slots 0 0 0 none) me) in
      as_ruled open_of log first s r P (
        without_old_fronts v,
        keeps,
        tt,
        changed open_of log first s r id v (without_old_fronts v) at r.turn_word r.history r.slot
            r.one_holder (omega arith) (omega arith) refl r.home
            record {
              of_turn = f.of_turn;
              front = f.front;
              front_seen = f.front_seen;
              seen = f.seen;
              taken = f.taken;
              old_front = (v.front, refl);
              met_front = (v.front, refl);
              spent = f.spent;
            }
            (λ _ _ _ _ still. still),
        (refl, f.old_front, f.met_front),
      )
