use Rattle.std.proofs.Common.{◌≡◌, sym, arith}
use Rattle.decimal_scale.proofs.Zeros.{zero_kept}
use Rattle.decimal_scale.proofs.writing.decimals_length.Goals as goal

pub returns-then-part-eq0-clause-value : goal.returns-then-part-eq0-clause-value
returns-then-part-eq0-clause-value c =
    let none : c.args.part ≡ 0 = omega (arith, c.if-part-eq0.true) in
    rw none (sym (zero_kept c.args.places (omega (arith, c.requires.places.0))))
