use Rattle.std.proofs.Common.{ℕ, ◌*◌, ◌<◌}
use Rattle.solid_base.specs.References.{Refers}
use Rattle.edit_core.proofs.graphs.first_naming.Given as goal

-- no row so far names the number
abbrev pub invariant-loop-place : goal.invariant-loop-place
invariant-loop-place l = (e : ℕ) → e < 2 * l.place → ¬ Refers l.rows e l.number
