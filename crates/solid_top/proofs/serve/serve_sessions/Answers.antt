use Rattle.std.proofs.Common.{◌≡◌, length, List, subst, ap, ◌∙◌, arith}
use Rattle.script_lines.specs.declared.commands.SessionLines.{SessionLines}
use Rattle.turn_book.specs.Steps.{all_parts}
use Rattle.solid_top.specs.declared.serve.Job.{Job}
use Rattle.solid_top.specs.declared.serve.Done.{Done}
use Rattle.solid_top.specs.Serving.{AreServedBy}
use Rattle.solid_top.proofs.ServeLaws.{same_images}
use Rattle.solid_top.proofs.ServeSteps.{book_lawful, lines_of_done, served_end}
use Rattle.solid_top.proofs.serve.serve_sessions.Goals as goal

pub returns-clause-lawful : goal.returns-clause-lawful
returns-clause-lawful g c = book_lawful c.close-last.result c.args.book.opening c.obeys.ensures (c.close-last.ensures.opening ∙ c.in_ok-turn.ensures.opening)

pub returns-clause-served : goal.returns-clause-served
returns-clause-served g c =
    let jobs = c.in_ok-jobs.ensures in
    let run = c.in_ok-done.ensures in
    let met = c.in_ok-served.ensures in
    let pass = c.meet_all.new.pass in
    let log = c.close-last.result.log in
    let lines : lines_of_done c.in_ok-done.done.items ≡ c.args.sessions.items =
    same_images (λ (d : Done). d.lines) (λ (j : Job). j.lines) c.in_ok-done.done.items c.in_ok-jobs.jobs.items run.len run.lines ∙ jobs.lines in
    let many = run.len in
    let parts = met.parts in
    let left = jobs.parts in
    let first = c.in_ok-turn.ensures.parts in
    let whole : pass.parts ≡ all_parts = omega (arith, many, parts, left, first) in
    let opened = c.in_ok-turn.ensures.opening_count in
    let none = ap length c.requires.start in
    let made = c.close-last.ensures.all_made whole in
    let all : length log ≡ pass.made = omega (arith, opened, none, made) in
    served_end c.args.book.opening pass.front log pass.seen pass.made c.args.sessions.items c.in_ok-served.served.items c.close-last.ensures.front c.close-last.ensures.seen all
    (subst (λ (ss : List SessionLines). AreServedBy c.args.book.opening pass.front pass.seen pass.made ss c.in_ok-served.served.items) lines (met.served c.args.book.opening c.in_ok-turn.ensures.opening))
