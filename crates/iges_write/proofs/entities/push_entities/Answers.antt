use Rattle.std.proofs.Common.{◌≡◌, ◌+◌, ◌++◌, List, [], ◌∷◌, ℕ, length, sym, ap, ◌∙◌, arith}
use Rattle.std.specs.List.{concat}
use Rattle.solid_base.proofs.Slices.{prefix_trans}
use Rattle.iges_parameters.specs.Accepted.{lines_of}
use Rattle.iges_parameters.specs.Writing.{record_text, lines_for}
use Rattle.iges_write.specs.Cards.{card, cards, lines_in}
use Rattle.iges_write.specs.CanonicalFile.{entry_first, entry_second, record_lines, with_number}
use Rattle.iges_write.proofs.EntitySteps.{record_lines_count, entry_step, entries_done, record_step, records_done, lines_up_to, lines_next, all_lines}
use Rattle.iges_write.proofs.entities.push_entities.Goals as goal

pub push_entity-requires-clause-lines : goal.push_entity-requires-clause-lines
push_entity-requires-clause-lines c =
    let m = c.args.model.now in
    let size = ap (λ (x : List ℕ). length x) (c.as_slice.ensures ∙ c.in_ok-text.ensures) in
    omega (arith, size, lines_up_to m.comma m.semi c.loop-at.at m.rows c.get-entity.result.now c.get-entity.ensures, c.loop-at.invariant.first, c.requires.few_lines)

pub overflow_add-place-in-loop-at : goal.overflow_add-place-in-loop-at
overflow_add-place-in-loop-at c =
    let m = c.args.model.now in
    let size = ap (λ (x : List ℕ). length x) (c.as_slice.ensures ∙ c.in_ok-text.ensures) in
    omega (arith, size, lines_up_to m.comma m.semi c.loop-at.at m.rows c.get-entity.result.now c.get-entity.ensures, c.loop-at.invariant.first, c.requires.few_lines, c.in_ok-count.ensures.count)

pub loop-at-preserved : goal.loop-at-preserved
loop-at-preserved c =
    let m = c.args.model.now in
    let l = c.loop-at in
    let e = c.get-entity.result.now in
    let is = c.get-entity.ensures in
    let text : c.as_slice.result.now ≡ record_text m.comma m.semi e.row e.tail = c.as_slice.ensures ∙ c.in_ok-text.ensures in
    let size = ap (λ (x : List ℕ). length x) text in
    let count : c.in_ok-count.count ≡ lines_of m.comma m.semi (e ∷ []) = omega (arith, size, c.in_ok-count.ensures.count) in
    let lines : lines_for (length c.as_slice.result.now) ≡ length (record_lines m.comma m.semi e) = ap lines_for size ∙ sym (record_lines_count m.comma m.semi e) in
    let one = card 68 l.place.number (entry_first l.place.first e) in
    let entry = c.in_ok-count.ensures.directory ∙ ap (λ (n : ℕ). l.directory ++ (one ++ card 68 (l.place.number + 1) (entry_second n e))) lines in
    let put = c.in_ok-count.ensures.params ∙ ap (λ (x : List ℕ). l.params ++ concat (cards 80 l.place.first (with_number l.place.number (lines_in 64 x)))) text in
    record {
      number = omega (arith, l.invariant.number);
      first = omega (arith, lines_next m.comma m.semi l.at m.rows e is, l.invariant.first, count);
      directory = entry_step m.comma m.semi l.at l.place.number l.place.first l.directory c.push_entity.new.directory m.rows e _ is l.invariant.first entry l.invariant.directory;
      front = prefix_trans c.args.directory.now l.directory c.push_entity.new.directory l.invariant.front c.in_ok-count.ensures.front;
      params = record_step m.comma m.semi l.at l.place.number l.place.first c.in_ok-count.count l.params c.push_entity.new.params m.rows e _ is (omega arith) l.invariant.number count put l.invariant.params;
    }

pub returns-clause-directory : goal.returns-clause-directory
returns-clause-directory c =
    let m = c.args.model.now in
    let l = c.loop-at in
    entries_done m.comma m.semi l.at l.place.number l.directory m.rows _ (omega arith) l.invariant.directory

pub returns-clause-params : goal.returns-clause-params
returns-clause-params c =
    let m = c.args.model.now in
    let l = c.loop-at in
    records_done m.comma m.semi l.at l.place.first l.params m.rows _ (omega arith) l.invariant.params

pub returns-clause-count : goal.returns-clause-count
returns-clause-count c =
    let m = c.args.model.now in
    let l = c.loop-at in
    omega (arith, all_lines m.comma m.semi l.at l.place.first m.rows (omega arith) l.invariant.first)
