use Rattle.std.proofs.Common.{refl, sym, subst, arith}
use Rattle.solid_base.specs.Texts.{IsOneLine}
use Rattle.solid_base.proofs.Texts.{blank_attributes_in_line}
use Rattle.edit_core.specs.Edits.{taken, bad_number, IsNumberToAdd}
use Rattle.edit_core.proofs.ChangeFaults.{if_err, not_null, addition_blamed}
use Rattle.edit_core.proofs.staged_rows.added.Goals.{then-number-eq0-via-then-number-eq0, then-number-eq0-via-else-number-eq0+then-number-gt-MOST_NUMBER}
use Rattle.edit_core.proofs.staged_rows.added.Goals as goal

pub returns-then-not-is_null-clause-first_fault : goal.returns-then-not-is_null-clause-first_fault
returns-then-not-is_null-clause-first_fault c t = taken (not_null c.if-not-is_null.ensures.1)

pub returns-then-number-eq0-clause-first_fault : goal.returns-then-number-eq0-clause-first_fault
returns-then-number-eq0-clause-first_fault c t =
    bad_number (λ stands. stands (c.if-not-is_null.ensures.0 refl)) (λ may. elim c.then-number-eq0.branch [
      | then-number-eq0-via-then-number-eq0 w ↦ omega (arith, w.if-number-eq0.true, may.0)
      | then-number-eq0-via-else-number-eq0+then-number-gt-MOST_NUMBER w ↦ omega (arith, w.if-number-gt-MOST_NUMBER.true, may.1)
    ])

pub read_entity-requires-clause-in_line : goal.read_entity-requires-clause-in_line
read_entity-requires-clause-in_line c = subst IsOneLine (sym c.in_ok-blank_attributes.ensures) blank_attributes_in_line

pub returns-clause-first_fault : goal.returns-clause-first_fault
returns-clause-first_fault c =
    let may : IsNumberToAdd c.args.number = (omega (arith, c.if-number-eq0.false), omega (arith, c.if-number-gt-MOST_NUMBER.false)) in
    if_err c.read_entity.result _ _ (λ f h t. addition_blamed c.args.rows.now c.args.source.now c.args.number f (λ stands. stands (c.if-not-is_null.ensures.0 refl)) may (h t)) c.read_entity.ensures.first_fault
