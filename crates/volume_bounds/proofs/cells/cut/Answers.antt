use Rattle.std.proofs.Common.{◌≡◌, ℕ, ◌∙◌, ap, ◌*◌, ◌/◌, arith, to_z, of_z, pos, ◌+ℤ◌, ◌-ℤ◌, unsigned_abs}
use Rattle.std.specs.Int.{w128}
use Rattle.std.proofs.Math.Facts.{to_z_pos}
use Rattle.std.proofs.Math.Nat.{mul_comm}
use Rattle.solid_base.proofs.Ring.{code, lines}
use Rattle.volume_bounds.specs.Cells.{parts_of}
use Rattle.volume_bounds.proofs.Cuts.{part_fits, cut_within, width_is}
use Rattle.volume_bounds.proofs.cells.cut.Goals as goal

pub returns-clause-cut : goal.returns-clause-cut
returns-clause-cut c =
    let gap : to_z w128 (of_z w128 (to_z w128 (of_z w128 c.args.hi) -ℤ to_z w128 (of_z w128 c.args.lo)))
    ≡ c.args.hi -ℤ c.args.lo = omega (arith, code) in
    let width : c.unsigned_abs.result ≡ unsigned_abs (c.args.hi -ℤ c.args.lo) = rw gap at c.unsigned_abs.ensures.value in
    let fits = part_fits c.args.k (parts_of c.args.depth) c.unsigned_abs.result c.requires.inside in
    let is = width_is c.args.lo c.args.hi c.requires.order in
    let near : pos c.unsigned_abs.result ≡ c.args.hi -ℤ c.args.lo = rw width is in
    let turned : c.unsigned_abs.result / parts_of c.args.depth * c.args.k
    ≡ c.args.k * (c.unsigned_abs.result / parts_of c.args.depth) = mul_comm _ _ in
    let back : to_z w128 (c.unsigned_abs.result / parts_of c.args.depth * c.args.k) ≡
    pos (c.unsigned_abs.result / parts_of c.args.depth * c.args.k) =
    to_z_pos w128 (omega (arith, lines, turned, fits, near, c.requires.near)) in
    let sum : to_z w128 (of_z w128 (to_z w128 (of_z w128 c.args.lo) +ℤ pos (c.unsigned_abs.result / parts_of c.args.depth * c.args.k)))
    ≡ c.args.lo +ℤ pos (c.unsigned_abs.result / parts_of c.args.depth * c.args.k) =
    omega (arith, code, turned, fits, near, c.requires.near) in
    rw back (sum ∙ ap (λ (n : ℕ). c.args.lo +ℤ pos n) (turned ∙ ap (λ (n : ℕ). c.args.k * (n / parts_of c.args.depth)) width))

pub returns-clause-within : goal.returns-clause-within
returns-clause-within c = rw (returns-clause-cut c) (cut_within c.args.lo c.args.hi (parts_of c.args.depth) c.args.k c.requires.order c.requires.inside)
