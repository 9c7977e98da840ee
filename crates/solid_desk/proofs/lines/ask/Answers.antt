use Rattle.std.proofs.Common.{◌∙◌, ap}
use Rattle.edit_core.specs.Versions.{Version}
use Rattle.solid_desk.specs.Outcomes.{answered, reply_of, reply_text}
use Rattle.solid_desk.proofs.LineSteps.{versioned_joined, asked_done}
use Rattle.solid_desk.proofs.lines.ask.Goals as goal

pub returns-clause-done : goal.returns-clause-done
returns-clause-done g c =
    let (body, afresh, added) = c.in_ok-push_answer.ensures.answer in
    let version = c.version-version.result in
    let number = c.version-version.ensures ∙ ap (λ (v : Version). v.number) c.table.ensures in (
      reply_text (reply_of (answered version body)),
      (λ n live. asked_done c.args.book.now c.push_answer.new.self n c.args.session.now c.go_on.new.self c.args.question.now live body version _ _ c.obeys.ensures afresh number c.push_answer.ensures.most c.in_ok-push_answer.ensures.thrifty c.push_answer.ensures.opening c.push_answer.ensures.log c.go_on.ensures),
      versioned_joined c.args.out.now c.push_version.new.out c.extend_from_slice.new.self c.push_answer.new.out c.extend_from_slice-2.new.self body version
          c.in_ok-push_version.ensures.ok c.in_ok-extend_from_slice.ensures.ok added c.in_ok-extend_from_slice-2.ensures.ok,
    )
