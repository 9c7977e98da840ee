use Rattle.std.proofs.Common.{rules, ◌≤◌, pos, get_or, FitsSigned, to_z-of_z}
use Rattle.std.specs.Int.{w128}
use Rattle.iges_parameters.specs.Tables.{list_rules}
use Rattle.iges_parameters.proofs.WholeBounds.{count_within}
use Rattle.iges_parameters.proofs.reading.counts.count.Goals as goal

pub overflow_cast-result : goal.overflow_cast-result
unfolding list_rules
overflow_cast-result c =
    let h = count_within c.in_ok-count.field-0 c.args.parameters.now c.numbers_of.new.parameters c.in_ok-count.ensures.value in
    let fit : FitsSigned w128 (get_or c.in_ok-count.field-0 0 (pos 0)) = search rules in
    let is = rw (to_z-of_z fit) at c.unsigned_abs.ensures.value in
    let most : c.unsigned_abs.result ≤ 9999999 = rw is h.1 in
    search (rules, most)

pub returns-clause-within : goal.returns-clause-within
unfolding list_rules
returns-clause-within c =
    let h = count_within c.in_ok-count.field-0 c.args.parameters.now c.numbers_of.new.parameters c.in_ok-count.ensures.value in
    let fit : FitsSigned w128 (get_or c.in_ok-count.field-0 0 (pos 0)) = search rules in
    rw (c.unsigned_abs.ensures.value, to_z-of_z fit) h
