use Rattle.std.proofs.Common.{◌<◌, [], ◌∷◌, ◌++◌, length, get_or, None, ap, ◌∙◌, arith}
use Rattle.ask_core.specs.Books.{key_verdict}
use Rattle.solid_base.specs.Ledgers.{counted}
use Rattle.ask_core.specs.Rounds.{unfound, IsPrimitiveKey}
use Rattle.ask_core.proofs.RoundSteps.{one_found_each, right_here, all_here, one_value, counted_here, put_length, no_key}
use Rattle.ask_core.proofs.rounds.evaluate.Goals as goal

pub loop-place-preserved : goal.loop-place-preserved
loop-place-preserved g c =
    let rows = c.args.rows.now in
    let keys = c.args.keys.now in
    let found = c.args.found.now in
    let n = c.loop-place.place in
    let inside = c.loop-place-test.true in
    let now = c.loop-place.invariant in
    let each = one_found_each rows keys found c.requires.right in
    let within : n < length found = omega (arith, inside, each) in
    let put = rw c.unwrap.ensures at c.push.ensures.ok in
    let less = rw c.unwrap.ensures at c.push.ensures.spare in
    let value = c.verdict_on-value.ensures in
    let room = now.room in
    let kept = now.kept in
    let spare = less (omega (arith, room, inside)) in
    let long = put_length c.loop-place.values.list c.push.new.self.list _ put in
    record {
      right = (right_here rows keys found n no_key None inside within now.right).1;
      primitives = (all_here (IsPrimitiveKey rows) keys n no_key inside now.primitives).1;
      values = one_value (key_verdict rows) keys n _ c.loop-place.values.list c.push.new.self.list _ inside (put ∙ ap (λ v. c.loop-place.values.list ++ v ∷ []) (value.verdict ∙ ap (key_verdict rows) c.index-keys-place.is)) now.values;
      kept = omega (arith, long, spare, kept);
      room = omega (arith, room, spare);
      counted = counted_here keys found n _ _ _ _ _ inside within (value.counted ∙ ap (λ k. counted (g.L.Ledger.count c.loop-place.leaves) (length (unfound (k ∷ []) (get_or found n None ∷ [])))) c.index-keys-place.is) now.counted;
    }

pub bounds-found-place : goal.bounds-found-place
bounds-found-place g c =
    let each = one_found_each c.args.rows.now c.args.keys.now c.args.found.now c.requires.right in
    let inside = c.loop-place-test.true in
    omega (arith, each, inside)
