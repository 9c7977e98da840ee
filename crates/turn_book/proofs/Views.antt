-- A step that changes one view keeps the rule where the new view is true, the others stay true, and
-- the sums fit.
use Rattle.std.proofs.Common.{◌≡◌, ℕ, zero, suc, ◌+◌, ◌≤◌, ◌≢◌, List, [], ◌∷◌, length, get_or, set}
use Rattle.std.proofs.Common.{refl, sym, subst, ⊎_elim, arith, Option as Maybe}
use mathlib.Core.Option.{Option, some, some-injective, some-ne-none}
use lib.ListN.{get_elem?}
use Rattle.atomic_table.specs.Table.{State, Me, Act, Valid, homes_after, carried_after}
use Rattle.atomic_table.proofs.Lists.{at_set}
use Rattle.turn_book.specs.declared.view.View.{View}
use Rattle.turn_book.specs.TurnRules.{TurnRule, IsTrueOf, IsHome, turns_of, made_of, parts_of}
use Rattle.turn_book.proofs.Totals.{total_set}

module _ {A : Type 0} where
  -- what holds of each after one was replaced
  pub each_set : (P : A → Type 0) (vs : List A) (i : ℕ) (w : A) → P w
      → ((j : ℕ) (d : A) → j ≢ i → get_elem? vs j ≡ some d → P d)
      → (j : ℕ) (d : A) → get_elem? (set vs i w) j ≡ some d → P d
  each_set P vs i w mine others j d at =
      ⊎_elim (λ (t : (j ≡ i) × (w ≡ d)). subst P t.1 mine)
      (λ (t : (j ≢ i) × (get_elem? vs j ≡ some d)). others j d t.0 t.1)
      (at_set vs i j w d at)

  pub only_one : (w : A) (j : ℕ) (d : A) → get_elem? (w ∷ []) j ≡ some d → w ≡ d
  only_one w zero d at = some-injective w d at
  only_one w (suc j) d at = absurd (some-ne-none d (sym at))

module _ {B O E : Type 0} (open_of : B → O) (log : B → List E) where
  abbrev pub V : Type 0
  V = View O E

  abbrev pub Rule : B → State (Maybe B) V → Type 0
  Rule = TurnRule {B = B} {O = O} {E = E} open_of log

  abbrev pub IsTrue : B → List E → V → Type 0
  IsTrue first = IsTrueOf (open_of first) (length (log first))

  -- the other views stay true of the new history
  abbrev pub OthersStay : B → List V → ℕ → List E → List E → Type 0
  OthersStay first views id history new =
      (j : ℕ) (d : V) → j ≢ id → get_elem? views j ≡ some d
      → IsTrue first history d → IsTrue first new d

  pub changed : (first : B) (s : State (Maybe B) V) (r : Rule first s) (id : ℕ) (v w : V)
      → get_elem? s.views id ≡ some v
      → (turn : ℕ) (new : List E) (slot : Option (Maybe B))
      → turn ≤ 1 → w.turns + r.turn_word ≡ turn + v.turns
      → w.made + length r.history ≡ length new + v.made → w.parts ≡ v.parts
      → (turn ≡ 0 → IsHome open_of log first new slot)
      → IsTrue first new w → OthersStay first s.views id r.history new
      → Rule first record {
        words = turn ∷ length new ∷ [];
        homes = slot ∷ [];
        views = set s.views id w;
      }
  changed first s r id v w at turn new slot one turns made parts home mine others =
      let t = total_set turns_of s.views id v w at in
      let m = total_set made_of s.views id v w at in
      let p = total_set parts_of s.views id v w at in
      let rt = r.holders in let rm = r.made in let rp = r.parts in record {
        turn_word = turn;
        history = new;
        slot = slot;
        words = refl;
        slots = refl;
        holders = omega (arith, t, rt, turns);
        one_holder = one;
        made = omega (arith, m, rm, made);
        parts = omega (arith, p, rp, parts);
        home = home;
        views = each_set (IsTrue first new) s.views id w mine
            (λ j d apart there. others j d apart there (r.views j d there));
      }

  -- what a step owes in a table with these words and this slot
  abbrev pub Owes : B → List V → ℕ → Me (Maybe B) V → ℕ → (ℕ → ℕ) → (ℕ → Me (Maybe B) V → Type 0)
      → List ℕ × List (Option (Maybe B)) → Type 0
  Owes first views id me word f tells t =
      (w : V) × (a : Act (Maybe B)) × Valid t.1 me.1 a
      × Rule first record {
        words = set t.0 word (f (get_or t.0 word 0));
        homes = homes_after t.1 me.1 a;
        views = set views id w;
      }
      × tells (get_or t.0 word 0) (w, carried_after me.1 a)

  -- the words and the slot of a table may be taken as the rule says
  pub as_ruled : (first : B) (s : State (Maybe B) V) (r : Rule first s)
      → (P : List ℕ × List (Option (Maybe B)) → Type 0)
      → P (r.turn_word ∷ length r.history ∷ [], r.slot ∷ []) → P (s.words, s.homes)
  as_ruled first s r P h = subst P (λ i. (sym r.words i, sym r.slots i)) h
