use Rattle.std.proofs.Common.{◌≤◌, length, refl, arith}
use Rattle.std.proofs.lemmas.Result.{err_from_is_err_and}
use Rattle.solid_base.specs.declared.entities.Model.{Model}
use Rattle.iges_cards.proofs.KeptLaws.{cards_are_kept}
use Rattle.iges_file.proofs.AcceptedFacts.{model_accepted}
use Rattle.iges_file.proofs.FormFacts.{global_short}
use Rattle.iges_file.proofs.DirectoryFacts.{few_pairs, all_have_lines, all_are_kept}
use Rattle.iges_file.proofs.FirstFaults.{card_refused, global_refused, directory_refused, rows_refused, lines_refused, graph_refused}
use Rattle.iges_file.proofs.RowLoops.{entities_counted}
use Rattle.iges_parameters.specs.Accepted.{lines_of, most_lines}
use Rattle.iges_file.proofs.model.read_file.Goals as goal

pub read_global-requires : goal.read_global-requires
read_global-requires c =
    record { size = rw c.as_slice.ensures (omega (arith, global_short c.args.bytes.now c.in_ok-cards.cards c.in_ok-cards.ensures.fixed_form, c.requires)) }

pub returns-in_err-cards-clause-refused : goal.returns-in_err-cards-clause-refused
returns-in_err-cards-clause-refused c =
    let p = err_from_is_err_and c.from_residual.result c.from_residual.ensures.1 in
    rw (p.1, p.2) (card_refused c.args.bytes.now c.in_err-cards.field-0.0 c.in_err-cards.ensures.first_fault)

pub returns-in_err-global-clause-refused : goal.returns-in_err-global-clause-refused
returns-in_err-global-clause-refused c =
    let p = err_from_is_err_and c.from_residual-in_err-global.result c.from_residual-in_err-global.ensures.1 in
    let first = rw c.as_slice.ensures at c.in_err-global.ensures.first_fault in
    rw (p.1, p.2) (global_refused c.args.bytes.now c.in_ok-cards.cards c.in_err-global.field-0.0 c.in_ok-cards.ensures.fixed_form first)

pub overflow_cast-len : goal.overflow_cast-len
overflow_cast-len c =
    rw c.len.ensures (omega (arith, (cards_are_kept c.args.bytes.now c.in_ok-cards.cards c.in_ok-cards.ensures.fixed_form).few_params))

pub read_directory-requires : goal.read_directory-requires
read_directory-requires c =
    record { eighty = (cards_are_kept c.args.bytes.now c.in_ok-cards.cards c.in_ok-cards.ensures.fixed_form).directory_wide }

pub returns-in_err-pairs-clause-refused : goal.returns-in_err-pairs-clause-refused
returns-in_err-pairs-clause-refused c =
    let p = err_from_is_err_and c.from_residual-in_err-pairs.result c.from_residual-in_err-pairs.ensures.1 in
    let whole = rw c.as_slice.ensures at c.in_ok-global.ensures.found in
    let first = rw c.len.ensures at c.in_err-pairs.ensures.first_fault in
    rw (p.1, p.2) (directory_refused c.args.bytes.now c.in_ok-cards.cards c.in_ok-global.global c.in_err-pairs.field-0.0 c.in_ok-cards.ensures.fixed_form whole first)

pub read_rows-requires-clause-few : goal.read_rows-requires-clause-few
read_rows-requires-clause-few c =
    few_pairs (length c.in_ok-cards.cards.params) c.in_ok-cards.cards.directory c.in_ok-pairs.pairs.items (rw c.len.ensures at c.in_ok-pairs.ensures.directory)

pub read_rows-requires-clause-lines : goal.read_rows-requires-clause-lines
read_rows-requires-clause-lines c =
    all_have_lines (length c.in_ok-cards.cards.params) c.in_ok-cards.cards.directory c.in_ok-pairs.pairs.items (rw c.len.ensures at c.in_ok-pairs.ensures.directory)

pub read_rows-requires-clause-entries : goal.read_rows-requires-clause-entries
read_rows-requires-clause-entries c =
    all_are_kept (length c.in_ok-cards.cards.params) c.args.bytes.now c.in_ok-cards.cards c.in_ok-pairs.pairs.items c.in_ok-cards.ensures.fixed_form (rw c.len.ensures at c.in_ok-pairs.ensures.directory)

pub read_rows-requires-clause-wide : goal.read_rows-requires-clause-wide
read_rows-requires-clause-wide c = (cards_are_kept c.args.bytes.now c.in_ok-cards.cards c.in_ok-cards.ensures.fixed_form).params_wide

pub read_rows-requires-clause-plain : goal.read_rows-requires-clause-plain
read_rows-requires-clause-plain c = (cards_are_kept c.args.bytes.now c.in_ok-cards.cards c.in_ok-cards.ensures.fixed_form).params_plain

pub returns-in_err-rows-clause-refused : goal.returns-in_err-rows-clause-refused
returns-in_err-rows-clause-refused c =
    let p = err_from_is_err_and c.from_residual-in_err-rows.result c.from_residual-in_err-rows.ensures.1 in
    let whole = rw c.as_slice.ensures at c.in_ok-global.ensures.found in
    let all = rw c.len.ensures at c.in_ok-pairs.ensures.directory in
    rw (p.1, p.2) (rows_refused c.args.bytes.now c.in_ok-cards.cards c.in_ok-global.global c.in_ok-pairs.pairs.items c.in_err-rows.field-0.0 c.in_ok-cards.ensures.fixed_form whole all c.in_err-rows.ensures.first_fault)

pub checked_lines-requires : goal.checked_lines-requires
checked_lines-requires c = c.in_ok-rows.ensures.accepted

pub returns-in_err-lines-clause-refused : goal.returns-in_err-lines-clause-refused
returns-in_err-lines-clause-refused c =
    let p = err_from_is_err_and c.from_residual-in_err-lines.result c.from_residual-in_err-lines.ensures.1 in
    let whole = rw c.as_slice.ensures at c.in_ok-global.ensures.found in
    let all = rw c.len.ensures at c.in_ok-pairs.ensures.directory in
    let many = c.in_err-lines.ensures.many in
    rw (p.1, p.2) (lines_refused c.args.bytes.now c.in_ok-cards.cards c.in_ok-global.global c.in_ok-pairs.pairs.items c.in_ok-rows.rows c.in_err-lines.field-0.0 c.in_ok-cards.ensures.fixed_form whole all c.in_ok-rows.ensures.found many.0 (many.1 c.in_ok-global.global.comma c.in_ok-global.global.semi))

pub check-requires : goal.check-requires
check-requires c =
    let all = rw c.len.ensures at c.in_ok-pairs.ensures.directory in
    let same = entities_counted c.in_ok-global.global.comma c.in_ok-global.global.semi c.in_ok-cards.cards.params c.in_ok-pairs.pairs.items c.in_ok-rows.rows c.in_ok-rows.ensures.found in
    rw same (few_pairs (length c.in_ok-cards.cards.params) c.in_ok-cards.cards.directory c.in_ok-pairs.pairs.items all)

pub returns-in_err-graph-clause-refused : goal.returns-in_err-graph-clause-refused
returns-in_err-graph-clause-refused c =
    let p = err_from_is_err_and c.from_residual-in_err-graph.result c.from_residual-in_err-graph.ensures.1 in
    let whole = rw c.as_slice.ensures at c.in_ok-global.ensures.found in
    let all = rw c.len.ensures at c.in_ok-pairs.ensures.directory in
    let few : lines_of c.in_ok-global.global.comma c.in_ok-global.global.semi c.in_ok-rows.rows ≤ most_lines = omega (arith, c.in_ok-lines.ensures.few, c.in_ok-lines.ensures.count c.in_ok-global.global.comma c.in_ok-global.global.semi) in
    rw (p.1, p.2) (graph_refused c.args.bytes.now c.in_ok-cards.cards c.in_ok-global.global c.in_ok-pairs.pairs.items c.in_ok-rows.rows c.in_err-graph.field-0.0 c.in_ok-cards.ensures.fixed_form whole all c.in_ok-rows.ensures.found few c.in_err-graph.ensures.first_fault)

pub returns-clause-reads : goal.returns-clause-reads
returns-clause-reads c =
    let whole = rw c.as_slice.ensures at c.in_ok-global.ensures.found in
    let all = rw c.len.ensures at c.in_ok-pairs.ensures.directory in
    record {
      cards = c.in_ok-cards.cards;
      pairs = c.in_ok-pairs.pairs.items;
      form = c.in_ok-cards.ensures.fixed_form;
      place = refl;
      start = refl;
      globals = whole;
      directory = all;
      entities = c.in_ok-rows.ensures.found;
      few = omega (arith, c.in_ok-lines.ensures.few, c.in_ok-lines.ensures.count c.in_ok-global.global.comma c.in_ok-global.global.semi);
      sound = c.in_ok-graph.ensures.sound;
    }

pub returns-clause-lines : goal.returns-clause-lines
returns-clause-lines c = c.in_ok-lines.ensures.count c.in_ok-global.global.comma c.in_ok-global.global.semi

pub returns-clause-accepted : goal.returns-clause-accepted
returns-clause-accepted c =
    let model : Model = record { start = c.in_ok-cards.cards.start; comma = c.in_ok-global.global.comma; semi = c.in_ok-global.global.semi; global = c.in_ok-global.global.tokens; rows = c.in_ok-rows.rows } in
    model_accepted c.args.bytes.now model c.in_ok-cards.cards.end c.requires (returns-clause-reads c) c.in_ok-rows.ensures.accepted
