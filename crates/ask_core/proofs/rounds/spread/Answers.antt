use Rattle.std.proofs.Common.{◌<◌, length, arith}
use Rattle.ask_core.proofs.RoundSteps.{all_here, one_picked, left_length, put_length}
use Rattle.ask_core.proofs.rounds.spread.Goals as goal

pub loop-place-preserved : goal.loop-place-preserved
loop-place-preserved c =
    let values = c.args.values.now in
    let places = c.args.places.now in
    let n = c.loop-place.place-index in
    let inside = c.loop-place-test.true in
    let now = c.loop-place.invariant in
    let here = all_here (λ place. place < length values) places n 0 inside now.inside in
    let put = rw c.unwrap.ensures at c.push.ensures.ok in
    let less = rw c.unwrap.ensures at c.push.ensures.spare in
    let left = left_length places n 0 inside in
    let room = now.room in
    let kept = now.kept in
    let spare = less (omega (arith, left, room)) in
    let long = put_length c.loop-place.known.list c.push.new.self.list _ put in
    record {
      inside = here.1;
      room = omega (arith, left, room, spare);
      known = one_picked values places n 0 _ c.loop-place.known.list c.push.new.self.list _ inside here.0 put now.known;
      kept = omega (arith, long, spare, kept);
    }
