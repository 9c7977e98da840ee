use Rattle.std.proofs.Common.{◌≡◌, ◌*◌, [], List, ℕ, length, ap, ◌∙◌, arith}
use Rattle.iges_write.specs.CanonicalFile.{global_lines, directory_lines}
use Rattle.iges_write.proofs.FileParts.{entries_count, few_globals, few_parameters, same_counts}
use Rattle.iges_write.proofs.files.push_sections.Goals as goal

pub push_cards-requires-2 : goal.push_cards-requires-2
push_cards-requires-2 c =
    let m = c.args.model.now in
    omega (arith, ap (length {A = List ℕ}) c.as_slice-2.ensures, ap (length {A = List ℕ}) c.in_ok-globals.ensures, few_globals m c.requires)

pub overflow_cast-result-2 : goal.overflow_cast-result-2
overflow_cast-result-2 c =
    let m = c.args.model.now in
    omega (arith, c.len-2.ensures, ap (length {A = List ℕ}) c.in_ok-globals.ensures, few_globals m c.requires)

pub returns-clause-counts : goal.returns-clause-counts
returns-clause-counts c =
    let m = c.args.model.now in
    let globals : c.len-2.result ≡ length (global_lines m) = c.len-2.ensures ∙ ap (length {A = List ℕ}) c.in_ok-globals.ensures in
    let entries : 2 * c.len-3.result ≡ length (directory_lines m) = omega (arith, c.len-3.ensures, entries_count m.comma m.semi [] m.rows) in
    same_counts _ _ _ _ _ c.len.ensures globals entries c.in_ok-parameter.ensures.count

pub returns-clause-few : goal.returns-clause-few
returns-clause-few c =
    let m = c.args.model.now in
    omega (arith, c.len.ensures, c.requires.few_start, c.len-2.ensures, ap (length {A = List ℕ}) c.in_ok-globals.ensures, few_globals m c.requires, c.len-3.ensures, c.requires.few_entities, c.in_ok-parameter.ensures.count, few_parameters m c.requires)
