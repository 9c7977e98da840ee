use Rattle.std.proofs.Common.{◌≡◌, ◌∙◌, ◌++◌, List, ℕ, sym, ap, subst, length, codes}
use Rattle.solid_base.specs.declared.entities.Model.{Model}
use Rattle.iges_parameters.specs.Accepted.{IsAccepted, lines_of}
use Rattle.iges_write.specs.CanonicalFile.{canonical_lines, canonical_text}
use Rattle.ask_core.proofs.Evaluated.{ok_then}
use Rattle.ask_core.proofs.Exports.{pushed_export}
use Rattle.ask_core.proofs.answers.push_export.Goals as goal

pub file_lines-requires-clause-accepted : goal.file_lines-requires-clause-accepted
file_lines-requires-clause-accepted c = subst IsAccepted (sym c.in_ok-model.ensures) c.obeys.ensures.accepted

pub file_lines-requires-clause-records : goal.file_lines-requires-clause-records
file_lines-requires-clause-records c =
    subst (λ (m : Model). c.lines.result ≡ lines_of m.comma m.semi m.rows) (sym c.in_ok-model.ensures) c.lines.ensures

pub push_file-requires : goal.push_file-requires
push_file-requires c = subst IsAccepted (sym c.in_ok-model.ensures) c.obeys.ensures.accepted

pub returns-clause-export : goal.returns-clause-export
returns-clause-export c =
    let is = c.in_ok-model.ensures in
    let lines = c.in_ok-lines.ensures ∙ ap (λ (m : Model). length (canonical_lines m)) is in
    let named = c.in_ok-extend_from_slice.ensures.ok ∙ ap (λ (x : List ℕ). x ++ codes "EXPORT ") c.reserve.ensures in
    ok_then c.push_file.result
    (λ cut. pushed_export c.args.table.now.model c.args.out.now _ _ _ _ _ named c.in_ok-push_decimal.ensures.ok c.in_ok-extend_from_slice-2.ensures.ok lines
    (λ front ends. cut front (ap (λ (m : Model). canonical_text m) is ∙ ends)))
    c.push_file.ensures.file
