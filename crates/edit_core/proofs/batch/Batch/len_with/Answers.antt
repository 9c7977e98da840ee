use Rattle.std.proofs.Common.{◌≡◌, ◌+◌, ◌∙◌, List, length, not, is_some, nat_eq, sym, ap}
use Rattle.std.specs.Int.{from_bool}
use Rattle.std.specs.Map.{lookup}
use Rattle.edit_core.specs.Batches.{Staged, stage}
use Rattle.edit_core.proofs.Batches.{staged_size}
use Rattle.edit_core.proofs.batch.Batch.len_with.Goals as goal

pub returns : goal.returns
returns c = λ change.
    let e = c.self.inside.changes.entries in
    let n = c.args.de in
    let new : c.from.result ≡ from_bool (not (is_some (lookup (nat_eq n) e))) =
    c.from.ensures ∙ ap (λ b. from_bool (not b)) c.contains_key.ensures in
    ap (λ k. k + c.from.result) c.len.ensures.len ∙ ap (λ k. length e + k) new ∙ sym (staged_size e n change)
    ∙ ap (λ (b : List Staged). length (stage b n change)) c.self.view_is
