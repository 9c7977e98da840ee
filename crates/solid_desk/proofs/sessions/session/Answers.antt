use Rattle.std.proofs.Common.{◌≡◌, List, take, subst, ap, ◌∙◌, arith}
use Rattle.std.proofs.lemmas.List.{take_all}
use Rattle.script_lines.specs.declared.commands.Command.{Command}
use Rattle.solid_desk.specs.Sessions.{Standing}
use Rattle.solid_desk.specs.Turns.{IsServedOver}
use Rattle.solid_desk.proofs.SessionLines.{pass_stays, goes_further, none_served, next_served}
use Rattle.solid_desk.proofs.sessions.session.Goals as goal

pub loop-command-init : goal.loop-command-init
loop-command-init g c = record {
  goes_on = pass_stays c.args.turn.now c.args.pass.now c.requires.of_turn c.requires.idle;
  line = ap (λ (s : Standing). s.line) c.new-stands.ensures;
  items = c.as_slice-command-items.ensures;
  served = λ opening same. none_served c.args.pass.now opening c.args.lines.now.session c.new-replies.result c.new-stands.result c.new-replies.ensures c.new-stands.ensures;
  light = (omega arith, omega arith);
}

pub loop-command-preserved : goal.loop-command-preserved
loop-command-preserved g c =
    let here = c.loop-command.invariant in
    let i = c.loop-command.command-index in
    let next = c.in_ok-reply.ensures.next_line in
    let line = here.line in
    let light = here.light in
    let more = c.do_line.ensures.light in record {
      goes_on = goes_further c.args.turn.now c.args.pass.now c.loop-command.pass c.do_line.new.pass here.goes_on c.do_line.ensures.goes_on;
      line = omega (arith, next, line);
      items = here.items;
      served = λ opening same.
          next_served c.args.turn.now c.args.pass.now c.loop-command.pass c.do_line.new.pass opening c.args.lines.now.session c.as_slice-command-items.result.now i c.command-item.result c.loop-command.replies c.push.new.self
          c.loop-command.stands c.do_line.new.session c.in_ok-reply.reply c.loop-command-test.true c.command-item.is c.in_ok-push.ensures.ok here.goes_on.front c.do_line.ensures.goes_on (here.served opening same)
          (c.in_ok-reply.ensures.reply opening same);
      light = (omega (arith, light, more), omega (arith, light, more));
    }

pub returns-clause-replies : goal.returns-clause-replies
returns-clause-replies g c opening same =
    let here = c.loop-command.invariant in
    let items = c.as_slice-command-items.result.now in
    let all : take c.loop-command.command-index items ≡ c.args.lines.now.commands = take_all c.loop-command.command-index items (omega (arith, c.loop-command-test.false)) ∙ here.items in
    subst (λ (cs : List Command). IsServedOver c.args.pass.now c.loop-command.pass opening c.args.lines.now.session cs c.loop-command.replies) all (here.served opening same).over
