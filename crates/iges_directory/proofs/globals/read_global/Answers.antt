use Rattle.std.proofs.Common.{◌∙◌, ap, refl, inl, inr, Some}
use Rattle.std.proofs.lemmas.Result.{err_from_is_err_and}
use Rattle.iges_directory.proofs.GlobalLaws.{second, lacks_first, lacks_second, lawful_told, other_fault, second_shorter, is_short, is_long}
use Rattle.iges_directory.proofs.globals.read_global.Goals.{then-second, else-second+in_ok-tokens}
use Rattle.iges_directory.proofs.globals.read_global.Goals as goal

pub returns-in_default-clause-first_fault : goal.returns-in_default-clause-first_fault
returns-in_default-clause-first_fault c = inl (refl, lacks_first c.args.text.now c.in_default.ensures)

pub returns-in_default-second_in-clause-first_fault :
    goal.returns-in_default-second_in-clause-first_fault
returns-in_default-second_in-clause-first_fault c = inr (inl (refl, lacks_second c.args.text.now c.in-Some.first.rest.now c.in-Some.first.comma c.in-Some.ensures c.in_default-second_in.ensures))

pub read_fields-requires-clause-size : goal.read_fields-requires-clause-size
read_fields-requires-clause-size c =
    let s = c.in-Some-second_in.second in
    second_shorter c.args.text.now c.in-Some.first.rest.now s.rest.now c.in-Some.first.comma s.semi 33554432 s.ended c.in-Some.ensures c.in-Some-second_in.ensures c.requires.size

pub read_fields-requires-clause-delimiters : goal.read_fields-requires-clause-delimiters
read_fields-requires-clause-delimiters c =
    let s = c.in-Some-second_in.second in
    lawful_told c.args.text.now c.in-Some.first.rest.now s.rest.now c.in-Some.first.comma s.semi s.ended c.in-Some.ensures c.in-Some-second_in.ensures

pub returns-in_err-tokens-clause-first_fault : goal.returns-in_err-tokens-clause-first_fault
returns-in_err-tokens-clause-first_fault c =
    let s = c.in-Some-second_in.second in
    let first = c.in-Some.first in
    let goes_on = c.in-Some-second_in.ensures ∙ ap (λ v. Some (second s.semi v s.rest.now)) c.if-second.false in
    let p = err_from_is_err_and c.from_residual.result c.from_residual.ensures.1 in
    rw (p.1, p.2) (other_fault c.args.text.now first.rest.now s.rest.now first.comma s.semi c.in_err-tokens.field-0.0 c.in-Some.ensures goes_on c.in_err-tokens.ensures.fault)

pub returns-clause-found : goal.returns-clause-found
returns-clause-found c =
    let s = c.in-Some-second_in.second in
    let first = c.in-Some.first in
    elim c.if-second.branch [
      | then-second w ↦
          let ends = c.in-Some-second_in.ensures ∙ ap (λ v. Some (second s.semi v s.rest.now)) w.if-second.true in
          rw (w.tokens-is, w.new-tokens.ensures) (is_short c.args.text.now first.rest.now s.rest.now first.comma s.semi c.in-Some.ensures ends)
      | else-second+in_ok-tokens w ↦
          let goes_on = c.in-Some-second_in.ensures ∙ ap (λ v. Some (second s.semi v s.rest.now)) w.if-second.false in
          rw w.tokens-is
          (is_long c.args.text.now first.rest.now s.rest.now first.comma s.semi w.in_ok-tokens.tokens c.in-Some.ensures goes_on w.in_ok-tokens.ensures.some w.in_ok-tokens.ensures.fields)
    ]
