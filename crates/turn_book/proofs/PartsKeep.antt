-- Cutting a view in two and taking a view in keep the rule; and a view with all parts has made all.
use Rattle.std.proofs.Common.{◌≡◌, ℕ, ◌+◌, ◌<◌, ◌≤◌, List, [], length, set, refl, ap, sym, ◌∙◌}
use Rattle.std.proofs.Common.{subst, arith, ⊎_elim, Option as Maybe}
use mathlib.Core.Option.{some}
use lib.ListN.{get_elem?}
use Rattle.atomic_table.specs.Table.{State, Splits, Joins, Final, Seen}
use Rattle.atomic_table.proofs.Lists.{at_snoc, set_else}
use Rattle.turn_book.specs.Steps.{all_parts, without_part, new_part, met, spent_view}
use Rattle.turn_book.specs.TurnRules.{total, turns_of, made_of, parts_of}
use Rattle.turn_book.proofs.Prefixes.{longer_goes_on}
use Rattle.turn_book.proofs.Totals.{total_set, total_snoc, all_of_both}
use Rattle.turn_book.proofs.Views.{V, Rule, IsTrue, each_set}

module _ {B O E : Type 0} (open_of : B → O) (log : B → List E) where
  abbrev View : Type 0
  View = V {B = B} {O = O} {E = E} open_of log

  abbrev Ruled : B → State (Maybe B) View → Type 0
  Ruled = Rule {B = B} {O = O} {E = E} open_of log

  abbrev True : B → List E → View → Type 0
  True = IsTrue {B = B} {O = O} {E = E} open_of log

  -- Kind 5: the part that one view gives up is that of the new one.
  pub splits : (first : B) (id : ℕ) (v : View) → 2 ≤ v.parts → v.turns ≡ 0
      → Splits (Ruled first) id v (without_part v) (new_part v)
  splits first id v enough idle s r at =
      let f = r.views id v at in
      let kept : View = without_part v in let new : View = new_part v in
      let vs : List View = set s.views id kept in
      let t = total_set turns_of s.views id v kept at in let t' = total_snoc turns_of vs new in
      let m = total_set made_of s.views id v kept at in let m' = total_snoc made_of vs new in
      let p = total_set parts_of s.views id v kept at in let p' = total_snoc parts_of vs new in
      let rt = r.holders in let rm = r.made in let rp = r.parts in
      let live : 0 < v.parts = omega (arith, enough) in record {
        turn_word = r.turn_word;
        history = r.history;
        slot = r.slot;
        words = r.words;
        slots = r.slots;
        holders = omega (arith, t, t', rt);
        one_holder = r.one_holder;
        made = omega (arith, m, m', rm);
        parts = omega (arith, p, p', rp, enough);
        home = r.home;
        views = λ j d there. ⊎_elim
            (each_set (True first r.history) s.views id kept record {
              of_turn = λ _. f.of_turn live;
              front = f.front;
              front_seen = f.front_seen;
              seen = f.seen;
              taken = f.taken;
              old_front = f.old_front;
              met_front = f.met_front;
              spent = λ none_left. absurd (omega (arith, enough, none_left));
            } (λ i u _. r.views i u) j d)
            (λ (same : new ≡ d). subst (True first r.history) same record {
              of_turn = λ _. f.of_turn live;
              front = f.front;
              front_seen = f.front_seen;
              seen = f.seen;
              taken = λ one. absurd (omega (arith, one));
              old_front = (v.front, refl);
              met_front = (v.front, refl);
              spent = λ none_left. absurd (omega (arith, none_left));
            })
            (at_snoc vs new d j there);
      }

  -- Kind 6: of two prefixes of the history the longer goes on from both.
  pub joins : (first : B) (id : ℕ) (v : View) (other : ℕ) (w : View)
      → 0 < v.parts → v.turns ≡ 0 → w.turns ≡ 0
      → Joins (Ruled first) id v other w (met v w) spent_view
  joins first id v other w live idle other_idle s r at apart there =
      let both : View = met v w in let vs : List View = set s.views id both in
      let was : get_elem? s.views other ≡ some w =
      sym (set_else s.views id other both apart) ∙ there in
      let f = r.views id v at in let g = r.views other w was in
      let t = total_set turns_of s.views id v both at in
      let t' = total_set turns_of vs other w spent_view there in
      let m = total_set made_of s.views id v both at in
      let m' = total_set made_of vs other w spent_view there in
      let p = total_set parts_of s.views id v both at in
      let p' = total_set parts_of vs other w spent_view there in
      let rt = r.holders in let rm = r.made in let rp = r.parts in
      let front = longer_goes_on v.front w.front r.history f.front g.front in
      let long = front.3 in
      let f_front = f.front_seen in let g_front = g.front_seen in
      let f_seen = f.seen in let g_seen = g.seen in record {
        turn_word = r.turn_word;
        history = r.history;
        slot = r.slot;
        words = r.words;
        slots = r.slots;
        holders = omega (arith, t, t', rt, other_idle);
        one_holder = r.one_holder;
        made = omega (arith, m, m', rm);
        parts = omega (arith, p, p', rp);
        home = r.home;
        views = each_set (True first r.history) vs other spent_view record {
          of_turn = λ some_left. absurd (omega (arith, some_left));
          front = (r.history, refl);
          front_seen = omega arith;
          seen = omega arith;
          taken = λ one. absurd (omega (arith, one));
          old_front = ([], refl);
          met_front = ([], refl);
          spent = λ _. (refl, refl, refl, refl);
        } (λ j d _. each_set (True first r.history) s.views id both record {
          of_turn = λ _. f.of_turn live;
          front = front.0;
          front_seen = omega (arith, f_front, g_front, long);
          seen = omega (arith, f_seen, g_seen);
          taken = λ one. absurd (omega (arith, idle, one));
          old_front = front.1;
          met_front = front.2;
          spent = λ none_left. absurd (omega (arith, live, none_left));
        } (λ i u _. r.views i u) j d);
      }

  -- a view with all parts that has the turn was there when each entry was made
  pub all_made : (first : B) (ws : List ℕ) (xs : List (Maybe B)) (id : ℕ) (v : View)
      → Final (Seen (Ruled first) id v) ws xs → v.parts ≡ all_parts → v.turns ≡ 1
      → length v.taken ≡ length (log first) + v.made
  all_made first ws xs id v last all has =
      let s : State (Maybe B) View = last.0 in
      let r : Ruled first s = last.1.0 in let at : get_elem? s.views id ≡ some v = last.1.1 in
      let made = r.made in
      let mine : total made_of s.views ≡ v.made = all_of_both parts_of made_of s.views id v
      (λ j d there none_left. ((r.views j d there).spent none_left).1) at (r.parts ∙ sym all) in
      let whole : length v.taken ≡ length r.history = ap length ((r.views id v at).taken has) in
      omega (arith, made, mine, whole)
