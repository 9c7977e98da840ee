use Rattle.std.proofs.Common.{◌∙◌, ℕ, List, length, refl, sym, subst, ap}
use Rattle.solid_base.specs.Texts.{IsOneLine}
use Rattle.edit_core.specs.Edits.{nothing_to_replace}
use Rattle.edit_core.proofs.ChangeFaults.{if_err, if_ok, not_null, replacement_blamed}
use Rattle.edit_core.proofs.Placing.{standing, standing_accepted}
use Rattle.edit_core.proofs.staged_rows.replaced.Goals as goal

pub returns-then-is_null-clause-first_fault : goal.returns-then-is_null-clause-first_fault
returns-then-is_null-clause-first_fault c t = nothing_to_replace (λ stands. stands (c.if-is_null.ensures.0 refl))

pub read_entity-requires-clause-size : goal.read_entity-requires-clause-size
read_entity-requires-clause-size c =
    let (old, is, accepted) = standing_accepted c.args.rows.now c.args.number (not_null c.if-is_null.ensures.1) c.requires.accepted in
    ap (λ (attrs : List ℕ). length attrs) (c.in_ok-attrs.ensures.kept old is) ∙ accepted.attributes

pub read_entity-requires-clause-in_line : goal.read_entity-requires-clause-in_line
read_entity-requires-clause-in_line c =
    let (old, is, accepted) = standing_accepted c.args.rows.now c.args.number (not_null c.if-is_null.ensures.1) c.requires.accepted in
    subst IsOneLine (sym (c.in_ok-attrs.ensures.kept old is)) accepted.attributes_in_line

pub returns-clause-made : goal.returns-clause-made
returns-clause-made c =
    let old = standing c.args.rows.now c.args.number (not_null c.if-is_null.ensures.1) in
    if_ok c.read_entity.result _ _ _ (λ e read attrs. (not_null c.if-is_null.ensures.1, read, (old.0, old.1, attrs ∙ c.in_ok-attrs.ensures.kept old.0 old.1))) c.read_entity.ensures.read c.read_entity.ensures.attributes

pub returns-clause-first_fault : goal.returns-clause-first_fault
returns-clause-first_fault c =
    if_err c.read_entity.result _ _ (λ f h t. replacement_blamed c.args.rows.now c.args.source.now c.args.number f (not_null c.if-is_null.ensures.1) (h t)) c.read_entity.ensures.first_fault
