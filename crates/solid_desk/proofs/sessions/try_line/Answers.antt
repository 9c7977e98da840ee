use Rattle.std.proofs.Common.{ap}
use Rattle.solid_desk.specs.Sessions.{Standing}
use Rattle.solid_desk.proofs.SessionLines.{asked_line, replaced_line, added_line, dropped_line, bad_line_over}
use Rattle.solid_desk.proofs.sessions.try_line.Goals as goal

pub returns-in_ok-reply-in-Ask-clause-reply : goal.returns-in_ok-reply-in-Ask-clause-reply
returns-in_ok-reply-in-Ask-clause-reply g c opening same =
    let (outcome, printed, asked) = c.in_ok-reply-in-Ask.ensures.answer opening same in
    rw c.in-Ask.is (asked_line c.args.pass.now c.ask.new.pass opening c.args.number c.args.session.now c.go_on.new.self c.in-Ask.question c.in-Ask.live outcome c.in_ok-reply-in-Ask.reply
    c.ask.ensures.made (ap (λ (s : Standing). s.line) c.go_on.ensures) (ap (λ (s : Standing). s.batch) c.go_on.ensures) printed asked)

pub returns-in-Replace-clause-reply : goal.returns-in-Replace-clause-reply
returns-in-Replace-clause-reply g c =
    rw c.in-Replace.is (replaced_line c.args.turn.now c.args.pass.now c.args.number c.args.session.now c.replace.new.session c.in-Replace.de c.in-Replace.row c.replace.result
    c.requires.of_turn c.requires.idle c.replace.ensures.staged c.replace.ensures.reply)

pub returns-in-Add-clause-reply : goal.returns-in-Add-clause-reply
returns-in-Add-clause-reply g c =
    rw c.in-Add.is (added_line c.args.turn.now c.args.pass.now c.args.number c.args.session.now c.add.new.session c.in-Add.de c.in-Add.row c.add.result
    c.requires.of_turn c.requires.idle c.add.ensures.staged c.add.ensures.reply)

pub returns-in-Drop-clause-reply : goal.returns-in-Drop-clause-reply
returns-in-Drop-clause-reply g c =
    rw c.in-Drop.is (dropped_line c.args.turn.now c.args.pass.now c.args.number c.args.session.now c.drop_row.new.session c.in-Drop.de c.drop_row.result
    c.requires.of_turn c.requires.idle c.drop_row.ensures.staged c.drop_row.ensures.reply)

pub returns-in_ok-reply-in-Bad-clause-reply : goal.returns-in_ok-reply-in-Bad-clause-reply
returns-in_ok-reply-in-Bad-clause-reply g c opening same =
    rw c.in-Bad.is (bad_line_over c.args.turn.now c.args.pass.now opening c.args.number c.args.session.now c.go_on-in-Bad.new.self c.in-Bad.fault c.in_ok-reply-in-Bad.reply
    c.requires.of_turn c.requires.idle (ap (λ (s : Standing). s.line) c.go_on-in-Bad.ensures) (ap (λ (s : Standing). s.batch) c.go_on-in-Bad.ensures) c.in_ok-reply-in-Bad.ensures)
