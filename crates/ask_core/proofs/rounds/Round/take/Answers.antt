use Rattle.std.proofs.Common.{ℕ, ◌++◌, [], ◌∷◌, Some, slice_get, sym, ap, ◌∙◌, subst, arith, Contains}
use Rattle.solid_base.specs.Stack.{Stack}
use Rattle.ask_core.specs.Rounds.{IsPrimitiveKey}
use Rattle.ask_core.specs.declared.rounds.Round.{Round}
use Rattle.ask_core.proofs.Taking.{held_taken, new_taken, one_too_many, only_one}
use Rattle.ask_core.proofs.rounds.Round.take.Goals as goal
use Rattle.ask_core.proofs.rounds.Round.take.Goals.{in-Some, in-None}

pub returns-in-None-2-clause-full : goal.returns-in-None-2-clause-full
returns-in-None-2-clause-full c version taken u own is _ =
    let full = c.if-len-lt-MOST_KEYS.false in
    let len = c.len.ensures in
    one_too_many version taken u c.args.self.now.keys.list is.keys (omega (arith, full, len))
    (subst (λ k. ¬ Contains c.args.self.now.keys.list k) (sym own) c.in-None.ensures)

pub returns-clause-taken : goal.returns-clause-taken
returns-clause-taken c version taken u own primitive is _ =
    let put = rw c.unwrap.ensures at c.push.ensures.ok in
    let own_primitive = subst (IsPrimitiveKey version.model.rows) (sym own) primitive in
    elim c.match-place_of.branch [
      | in-Some w ↦
          held_taken version taken u c.args.self.now _ c.match-place_of.place is
          (ap (slice_get c.args.self.now.keys.list) w.place-is
          ∙ only_one _ _ w.in-Some.ensures ∙ ap Some (sym own))
          (ap (λ (r : Round). r.keys.list) w.self-is)
          (put ∙ ap (λ (r : Round). r.places.list ++ c.match-place_of.place ∷ []) w.self-is)
      | in-None w ↦
          new_taken version taken u c.args.self.now _ is
          (subst (λ k. ¬ Contains c.args.self.now.keys.list k) (sym own) w.in-None.ensures)
          (let less = w.if-len-lt-MOST_KEYS.true in let len = w.len.ensures in omega (arith, less, len))
          own_primitive
          (ap (λ (r : Round). r.keys.list) w.self-is ∙ w.add-place.ensures.keys ∙ ap (λ k. c.args.self.now.keys.list ++ k ∷ []) (sym own))
          (put ∙ ap (λ (r : Round). r.places.list ++ c.match-place_of.place ∷ []) w.self-is
          ∙ ap (λ (p : Stack ℕ). p.list ++ c.match-place_of.place ∷ []) w.add-place.ensures.places
          ∙ ap (λ n. c.args.self.now.places.list ++ n ∷ []) (w.place-is ∙ w.add-place.ensures.place))
    ]
