use Rattle.std.proofs.Common.{◌≡◌, List, ◌∷◌, [], ◌++◌, ◌∙◌, map, rules, sym, ap, arith, append_assoc, length-append}
use Rattle.iges_directory.specs.declared.pairs.Pair.{Pair}
use Rattle.std.specs.Arc.{arc_value}
use Rattle.iges_parameters.specs.Accepted.{IsAcceptedEntity}
use Rattle.iges_parameters.proofs.TailLoop.{all_pushed}
use Rattle.iges_file.proofs.RowLoops.{entities_pushed, row_blamed}
use Rattle.iges_file.proofs.rows.read_rows.Goals as goal

pub loop-pair-preserved : goal.loop-pair-preserved
loop-pair-preserved c =
    let i = c.loop-pair.invariant in
    let step : c.loop-pair.pair-iterator.rest.items ≡ c.in-Some.pair ∷ c.next.new.self.rest.items = search rules in
    let lines = rw step at i.lines in
    let entries = rw step at i.entries in
    record {
      can_next = tt;
      is_finite = tt;
      cut = i.cut ∙ ap (λ (ps : List Pair). c.loop-pair.yielded ++ ps) step ∙ sym (append_assoc c.loop-pair.yielded (c.in-Some.pair ∷ []) c.next.new.self.rest.items);
      good = rw c.in_ok-push_entity-in-Ok.ensures (entities_pushed c.args.comma c.args.semi c.args.params.now c.loop-pair.yielded (map arc_value c.loop-pair.rows.items) c.in-Some.pair c.in-Ok.entity i.good c.in-Ok.ensures.found);
      count = omega (arith, i.count, length-append c.loop-pair.yielded (c.in-Some.pair ∷ []));
      entries = entries.1;
      lines = lines.1;
      accepted = rw c.in_ok-push_entity-in-Ok.ensures (all_pushed IsAcceptedEntity (map arc_value c.loop-pair.rows.items) c.in-Ok.entity i.accepted c.in-Ok.ensures.accepted);
    }

pub returns-in-Err-clause-first_fault : goal.returns-in-Err-clause-first_fault
returns-in-Err-clause-first_fault c =
    let i = c.loop-pair.invariant in
    let step : c.loop-pair.pair-iterator.rest.items ≡ c.in-Some.pair ∷ c.next.new.self.rest.items = search rules in
    let cut = i.cut ∙ ap (λ (ps : List Pair). c.loop-pair.yielded ++ ps) step in
    rw (c.of_row.ensures.value, cut) (row_blamed c.args.comma c.args.semi c.args.params.now c.loop-pair.yielded c.next.new.self.rest.items
    (map arc_value c.loop-pair.rows.items) c.in-Some.pair c.loop-pair.number c.in-Err.fault i.good (omega (arith, i.count)) c.in-Err.ensures.first_fault)
