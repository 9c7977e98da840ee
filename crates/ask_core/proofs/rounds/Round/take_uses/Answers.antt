use Rattle.std.proofs.Common.{◌++◌, sym, ap, ◌∙◌}
use Rattle.ask_core.specs.Rounds.{uses_ahead}
use Rattle.ask_core.specs.declared.course.Ahead.{Ahead}
use Rattle.ask_core.proofs.UseKeys.{taken_whole}
use Rattle.ask_core.proofs.rounds.Round.take_uses.Goals as goal

pub loop-preserved : goal.loop-preserved
loop-preserved c =
    let now = c.loop.invariant in
    let next = c.take_next.ensures in
    let has = next.taken _ now.taken c.loop-test.true in
    record {
      taken = has;
      room = next.room;
      few = next.few;
      few_keys = has.is.few;
      ahead = next.ahead;
      primitives = next.primitives;
      found = next.rest.0 ∙ now.found;
      values = next.rest.1 ∙ now.values;
    }

pub returns-clause-taken : goal.returns-clause-taken
returns-clause-taken c =
    let now = c.loop.invariant in
    let has = now.taken in
    let next = c.take_next.ensures in
    let same = next.unchanged c.loop-test.false in
    let stops = next.stops has.taken has.is c.loop-test.false in
    let whole = taken_whole c.args.table.now _ c.loop.ahead c.loop.self c.requires.some has now.few stops in (
      has.taken,
      whole,
      rw same.0 has.is,
      has.front ∙ ap (λ (a : Ahead). has.taken ++ uses_ahead c.args.table.now.model.rows a) (sym same.1),
    )
