use Rattle.std.proofs.Common.{arith, sym, ◌≡◌, ◌^◌, ◌*◌, ◌≤◌, pos, nat_abs, to_z, to_z-of_z}
use Rattle.std.specs.Int.{w128}
use Rattle.std.proofs.lemmas.Int.{ints, to_z_pos}
use Rattle.solid_base.proofs.Ring.{code}
use Rattle.fixed_enclosure.proofs.SpanRoots.{floor_root-low, floor_root-found, root_small}
use Rattle.fixed_enclosure.proofs.roots.floor_root.Goals as goal

pub returns-then-z-le0-clause-value : goal.returns-then-z-le0-clause-value
returns-then-z-le0-clause-value c = sym (floor_root-low c.args.z (omega (arith, code)))

low : (c : goal.After-whole_root) → c.whole_root.result ≤ 4 * 10 ^ 18
low c =
    let b = rw (to_z-of_z c.ranges.z) at c.whole_root.ensures.below in
    root_small (nat_abs c.args.z) c.whole_root.result b (omega (arith, ints))

pub returns-else-z-le0-clause-value : goal.returns-else-z-le0-clause-value
returns-else-z-le0-clause-value c =
    let z = c.args.z in
    let r = c.whole_root.result in
    let b = rw (to_z-of_z c.ranges.z) at c.whole_root.ensures.below in
    let a = rw (to_z-of_z c.ranges.z) at c.whole_root.ensures.above in
    let back : to_z w128 r ≡ pos r = to_z_pos w128 r (omega (arith, low c)) in
    rw (back, floor_root-found z r (omega (arith, code)) b a) (λ i. pos r)

pub returns-else-z-le0-clause-within : goal.returns-else-z-le0-clause-within
returns-else-z-le0-clause-within c =
    let r = c.whole_root.result in
    let l = low c in
    let back : to_z w128 r ≡ pos r = to_z_pos w128 r (omega (arith, l)) in
    rw back (omega (arith, ints), omega (arith, ints))
