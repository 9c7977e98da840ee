use Rattle.std.proofs.Common.{◌≡◌, ℤ, List, ℕ, IfOk, subst, to_z, of_z, rules, arith, FitsSigned}
use Rattle.std.specs.Int.{w128}
use Rattle.solid_base.proofs.Ring.{code}
use Rattle.decimal_scale.specs.Writing.{real_text}
use Rattle.decimal_scale.proofs.ReadingBack.{ok_reads_back}
use Rattle.decimal_scale.proofs.writing.write_real.Goals as goal

pub returns-clause-reads_back : goal.returns-clause-reads_back
returns-clause-reads_back c = λ twelve.
    let fits : FitsSigned w128 c.args.value = search rules in
    let same : to_z w128 (of_z w128 c.args.value) ≡ c.args.value = omega (arith, code) in
    let text = subst (λ (z : ℤ). IfOk c.write.result (λ (t : List ℕ). t ≡ real_text z c.args.places)) same c.write.ensures in
    ok_reads_back c.write.result c.args.value c.args.places twelve c.requires.within text
