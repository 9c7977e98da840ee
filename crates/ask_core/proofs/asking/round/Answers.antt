use Rattle.std.proofs.Common.{◌≡◌, ◌-◌, length, sym, ap, subst, ◌∙◌}
use Rattle.solid_base.specs.Ledgers.{counted, RisesUpTo}
use Rattle.ask_core.specs.Books.{memo_capacity}
use Rattle.ask_core.specs.Runs.{RunFacts, IsRunning, with_taken, worked, settled, kept_all, left_of}
use Rattle.ask_core.proofs.Evaluated.{ok_then}
use Rattle.ask_core.proofs.ThriftyRounds.{round_light, round_thrifty}
use Rattle.ask_core.proofs.asking.round.Goals as goal

pub returns-clause-light : goal.returns-clause-light
returns-clause-light g c =
    let run = c.args.run.now in
    let es = c.args.book.now.memo.entries in
    let taken = c.look.new.run.taken in
    let before = g.L.Ledger.count c.args.leaves.now in
    let after = g.L.Ledger.count c.work.new.leaves in
    let is : c.work.new.self ≡ worked (with_taken run taken es) = c.work.ensures.run ∙ ap worked c.look.ensures.run in
    let count = c.work.ensures.counted ∙ ap (λ (r : RunFacts). counted before (length r.wanted)) c.look.ensures.run in
    subst (λ (r : RunFacts). RisesUpTo before after (left_of run - left_of r)) (sym (c.fill.ensures.run ∙ ap settled is))
    (round_light run taken es before after (g.met.L.Ledger.bounded c.args.leaves.now) (subst IsRunning is c.obeys-2.ensures) count)

pub returns-clause-thrifty : goal.returns-clause-thrifty
returns-clause-thrifty g c =
    let run = c.args.run.now in
    let es = c.args.book.now.memo.entries in
    let taken = c.look.new.run.taken in
    let before = g.L.Ledger.count c.args.leaves.now in
    let after = g.L.Ledger.count c.work.new.leaves in
    let is : c.work.new.self ≡ worked (with_taken run taken es) = c.work.ensures.run ∙ ap worked c.look.ensures.run in
    let count = c.work.ensures.counted ∙ ap (λ (r : RunFacts). counted before (length r.wanted)) c.look.ensures.run in
    ok_then c.fill.result (λ kept. round_thrifty run taken es before after c.args.book.now.memo.capacity c.fill.new.self.memo.entries c.obeys.ensures.memo (subst IsRunning is c.obeys-2.ensures) count
    (kept ∙ ap (λ (r : RunFacts). kept_all memo_capacity r.fresh c.look.new.self.memo.entries) is
    ∙ ap (kept_all memo_capacity (worked (with_taken run taken es)).fresh) c.look.ensures.entries))
    c.fill.ensures.ok
