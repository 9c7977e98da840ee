use Rattle.std.proofs.Common.{◌≡◌, ◌∷◌, ◌∙◌, refl, sym, subst}
use Rattle.solid_eval.specs.Walking.{uses_left}
use Rattle.ask_core.specs.Rounds.{use_of, uses_ahead, IsPrimitiveKey}
use Rattle.ask_core.proofs.Courses.{accepted_lawful}
use Rattle.ask_core.proofs.UseKeys.{key_is, primitive_there, one_use_taken}
use Rattle.ask_core.proofs.rounds.Round.take_next.Goals as goal

pub stamp-requires : goal.stamp-requires
stamp-requires c = primitive_there c.args.table.now.model.rows c.in-Some.de (rw c.in-Some.is at c.requires.primitives).0

pub pass-requires-clause-rows : goal.pass-requires-clause-rows
pass-requires-clause-rows c = rw c.rows.ensures (accepted_lawful c.args.table.now.model.rows c.obeys.ensures.accepted.entities)

pub returns-then-taken-clause-taken : goal.returns-then-taken-clause-taken
returns-then-taken-clause-taken c left has yes' =
    let rows = c.args.table.now.model.rows in
    let u = use_of c.in-Some.de c.args.ahead.now.at in
    let next : uses_ahead rows c.args.ahead.now ≡ u ∷ uses_left rows c.args.ahead.now.walk = rw c.in-Some.is refl in
    let passed = (rw c.rows.ensures at c.pass.ensures.passed) u (uses_left rows c.args.ahead.now.walk) next in
    let own = key_is c.args.table.now c.in-Some.de c.stamp.result c.args.ahead.now.at c.stamp.ensures ∙ sym c.new-key.ensures in
    let primitive : IsPrimitiveKey rows (record { de = c.in-Some.de; stamp = c.stamp.result; at = c.args.ahead.now.at }) = ((rw c.in-Some.is at c.requires.primitives).0, c.requires.ahead.at) in
    one_use_taken c.args.table.now left c.args.ahead.now c.pass.new.self c.args.self.now c.take-taken.new.self u _ has next passed
    (c.take-taken.ensures.taken c.args.table.now has.taken u own (subst (IsPrimitiveKey rows) (sym c.new-key.ensures) primitive) has.is yes')
