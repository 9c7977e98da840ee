use Rattle.std.proofs.Common.{◌≡◌, ◌<◌, ℕ, length, take, OnErr, subst}
use Rattle.ask_core.specs.Runs.{RunFacts, kept_all}
use Rattle.ask_core.proofs.runs.Run.keep.Goals as goal

pub returns-clause-err : goal.returns-clause-err
returns-clause-err c =
    subst (λ (r : RunFacts). OnErr c.keep.result ((k : ℕ) × (k < length r.fresh) × (c.keep.new.memo.entries ≡ kept_all c.args.memo.now.capacity (take k r.fresh) c.args.memo.now.entries)))
    c.self.view_is c.keep.ensures.err
