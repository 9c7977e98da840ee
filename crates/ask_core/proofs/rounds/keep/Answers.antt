use Rattle.std.proofs.Common.{◌+◌, ◌++◌, [], ◌∷◌, drop, get_or, not, sym, ap, ◌∙◌, append_assoc}
use Rattle.memo_graph.specs.declared.key.Key.{Key}
use Rattle.memo_graph.specs.Memos.{Entry, MemoFacts, filled}
use Rattle.ask_core.specs.Rounds.{fresh_entries}
use Rattle.ask_core.proofs.KeptEntries.{kept_front, kept_more, on_err}
use Rattle.ask_core.proofs.RoundSteps.{one_key_on, one_fresh, not_fresh, no_key, no_verdict}
use Rattle.ask_core.proofs.rounds.keep.Goals as goal
use Rattle.ask_core.proofs.rounds.keep.Goals.{then-is_none+in_ok-fill, else-is_none}

pub loop-place-preserved : goal.loop-place-preserved
loop-place-preserved c =
    let values = c.args.values.now in
    let keys = c.args.keys.now in
    let found = c.args.found.now in
    let n = c.loop-place.place in
    let was = c.loop-place.invariant in
    let most = c.args.memo.now.capacity in
    let here = λ (k : Key). one_key_on values keys found was.front n k c.requires.values c.requires.found c.loop-place-test.true was.all in
    elim c.if-is_none.branch [
      | then-is_none+in_ok-fill w ↦
          let key = w.index-keys-place.result in
          let entry : Entry = (get_or keys n key, get_or values n no_verdict) in
          let one = ap (λ l. l ++ fresh_entries (drop (n + 1) values) (drop (n + 1) keys) (drop (n + 1) found)) (one_fresh _ _ _ (c.is_none.ensures ∙ ap not w.if-is_none.true)) in
          record {
            front = was.front ++ entry ∷ [];
            all = here key ∙ ap (λ l. was.front ++ l) one ∙ sym (append_assoc was.front (entry ∷ []) (fresh_entries (drop (n + 1) values) (drop (n + 1) keys) (drop (n + 1) found)));
            so_far = ap (λ (m : MemoFacts). m.entries) w.memo-is ∙ w.in_ok-fill.ensures.entries ∙ ap (λ k. filled c.loop-place.memo.capacity k entry.1 c.loop-place.memo.entries) w.index-keys-place.is
                ∙ (λ i. filled (was.capacity i) entry.0 entry.1 (was.so_far i))
                ∙ sym (kept_more most was.front entry c.args.memo.now.entries);
            capacity = ap (λ (m : MemoFacts). m.capacity) w.memo-is ∙ w.in_ok-fill.ensures.capacity ∙ was.capacity;
            valid = rw w.memo-is w.in_ok-fill.ensures.valid;
          }
      | else-is_none w ↦
          let none = ap (λ l. l ++ fresh_entries (drop (n + 1) values) (drop (n + 1) keys) (drop (n + 1) found)) (not_fresh _ _ _ (c.is_none.ensures ∙ ap not w.if-is_none.false)) in
          record {
            front = was.front;
            all = here no_key ∙ ap (λ l. was.front ++ l) none;
            so_far = ap (λ (m : MemoFacts). m.entries) w.memo-is ∙ was.so_far;
            capacity = ap (λ (m : MemoFacts). m.capacity) w.memo-is ∙ was.capacity;
            valid = rw w.memo-is was.valid;
          }
    ]

pub returns-in_err-fill-clause-err : goal.returns-in_err-fill-clause-err
returns-in_err-fill-clause-err c =
    let values = c.args.values.now in
    let keys = c.args.keys.now in
    let found = c.args.found.now in
    let n = c.loop-place.place in
    let was = c.loop-place.invariant in
    let here = one_key_on values keys found was.front n no_key c.requires.values c.requires.found c.loop-place-test.true was.all in
    let one = ap (λ l. was.front ++ (l ++ fresh_entries (drop (n + 1) values) (drop (n + 1) keys) (drop (n + 1) found))) (one_fresh _ _ _ (c.is_none.ensures ∙ ap not c.if-is_none.true)) in
    on_err c.from_residual.result
    (kept_front c.args.memo.now.capacity _ was.front _ c.args.memo.now.entries _ (get_or keys n no_key, get_or values n no_verdict) (here ∙ one) (ap (λ (m : MemoFacts). m.entries) c.in_err-fill.ensures.err ∙ was.so_far))
