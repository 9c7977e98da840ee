use Rattle.std.proofs.Common.{arith, to_z-of_z, FitsSigned, ◌*ℤ◌}
use Rattle.std.specs.Int.{w128}
use Rattle.solid_base.proofs.Ring.{code}
use Rattle.fixed_enclosure.proofs.Words.{product_in, narrowed_back}
use Rattle.fixed_enclosure.proofs.products.product.Goals as goal

pub overflow_mul-result : goal.overflow_mul-result
overflow_mul-result c =
    let w = product_in c.args.a c.args.b c.requires.a_within c.requires.b_within in
    rw (narrowed_back c.args.a c.requires.a_within, narrowed_back c.args.b c.requires.b_within) (omega (arith, code))

pub returns-clause-value : goal.returns-clause-value
returns-clause-value c =
    let w = product_in c.args.a c.args.b c.requires.a_within c.requires.b_within in
    let f : FitsSigned w128 (c.args.a *ℤ c.args.b) = omega (arith, code) in
    rw (narrowed_back c.args.a c.requires.a_within, narrowed_back c.args.b c.requires.b_within) (to_z-of_z f)

pub returns-clause-within : goal.returns-clause-within
returns-clause-within c =
    let w = product_in c.args.a c.args.b c.requires.a_within c.requires.b_within in
    let f : FitsSigned w128 (c.args.a *ℤ c.args.b) = omega (arith, code) in
    rw (narrowed_back c.args.a c.requires.a_within, narrowed_back c.args.b c.requires.b_within, to_z-of_z f) w
