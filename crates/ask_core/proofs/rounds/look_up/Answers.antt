use Rattle.std.proofs.Common.{◌+◌, ◌++◌, [], ◌∷◌, drop, get_or, sym, ap, ◌∙◌, arith}
use Rattle.memo_graph.specs.Memos.{verdict_of, promoted}
use Rattle.memo_graph.proofs.Keeping.{verdicts-promoted}
use Rattle.ask_core.specs.Runs.{looked}
use Rattle.ask_core.proofs.RoundSteps.{cut_at, one_value, put_length}
use Rattle.ask_core.proofs.rounds.look_up.Goals as goal

pub loop-place-preserved : goal.loop-place-preserved
loop-place-preserved c =
    let keys = c.args.keys.now in
    let n = c.loop-place.place in
    let inside = c.loop-place-test.true in
    let now = c.loop-place.invariant in
    let read = c.index-keys-place.result in
    let key = get_or keys n read in
    let was = c.args.memo.now.entries in
    let put = rw c.unwrap.ensures at c.push.ensures.ok in
    let less = rw c.unwrap.ensures at c.push.ensures.spare in
    let room = now.room in
    let kept = now.kept in
    let spare = less (omega (arith, room, inside)) in
    let long = put_length c.loop-place.found.list c.push.new.self.list _ put in
    let verdict = c.look.ensures.verdict ∙ ap (λ k. verdict_of k c.loop-place.memo.entries) c.index-keys-place.is ∙ now.same key in
    let entries = c.look.ensures.entries ∙ ap (λ k. promoted k c.loop-place.memo.entries) c.index-keys-place.is in
    record {
      found = one_value (λ k. verdict_of k was) keys n read c.loop-place.found.list c.push.new.self.list _ inside (put ∙ ap (λ o. c.loop-place.found.list ++ o ∷ []) verdict) now.found;
      entries = ap (looked (drop (n + 1) keys)) entries ∙ sym (ap (λ l. looked l c.loop-place.memo.entries) (cut_at keys n read inside)) ∙ now.entries;
      same = λ other. ap (verdict_of other) entries ∙ verdicts-promoted key other c.loop-place.memo.entries ∙ now.same other;
      capacity = c.look.ensures.capacity ∙ now.capacity;
      kept = omega (arith, long, spare, kept);
      room = omega (arith, room, spare);
    }
