use Rattle.std.proofs.Common.{◌∙◌, ◌++◌, List, ℕ, ap}
use Rattle.memo_graph.proofs.Steps.{on_ok}
use Rattle.solid_desk.specs.Outcomes.{no_memory, reply_of, reply_text}
use Rattle.solid_desk.proofs.LineSteps.{cut_to, passed_done}
use Rattle.solid_desk.proofs.lines.do_line.Goals as goal

pub returns-in-Err-clause-done : goal.returns-in-Err-clause-done
returns-in-Err-clause-done g c =
    let text = reply_text (reply_of no_memory) in
    let cut = cut_to c.args.out.now c.try_line.new.out c.truncate.new.self c.len-start.result c.len-start.ensures c.try_line.ensures.front c.truncate.ensures in
    on_ok c.push_no_memory.result c.push_no_memory.ensures (λ added. (
      text,
      passed_done c.args.book.now c.try_line.new.book c.args.number c.args.session.now c.try_line.new.session c.go_on.new.self c.args.command _ _ c.in-Err.ensures.opening c.in-Err.ensures.log c.in-Err.ensures.stands c.go_on.ensures,
      added ∙ ap (λ (t : List ℕ). t ++ text) cut,
    ))
