use Rattle.std.proofs.Common.{◌∙◌}
use Rattle.solid_eval.specs.Solids.{solid_of}
use Rattle.solid_eval.proofs.FromUses.{uses_counted, of_primitives}
use Rattle.solid_eval.proofs.Uses.{count_exact}
use Rattle.solid_eval.proofs.use_laws.uses_of_solids.Goals as goal

pub returns : goal.returns
returns c = record {
  counted = λ solid s. uses_counted solid s;
  weighed = λ rows e s lawful none. uses_counted (solid_of rows e) s ∙ count_exact rows e lawful none;
  primitives = λ rows e s. of_primitives rows e s;
}
