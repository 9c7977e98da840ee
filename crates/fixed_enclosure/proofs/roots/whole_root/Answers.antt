use Rattle.std.proofs.Common.{arith, ◌-◌, ◌*◌, ◌/◌, ◌^◌}
use Rattle.std.proofs.lemmas.Nat.{leading_length}
use lib.Count.{count_leading_zeros}
use Rattle.fixed_enclosure.proofs.Newton.{short_below, leading_below, leading_root, bits_below}
use Rattle.fixed_enclosure.proofs.roots.whole_root.Goals as goal

pub overflow_cast-z : goal.overflow_cast-z
overflow_cast-z c =
    let z = c.args.z in
    let length = leading_length 128 z (omega arith) in
    let s = short_below z length.0 length.2 (omega (arith, length.1)) in
    omega arith

pub short_root-requires : goal.short_root-requires
short_root-requires c =
    let z = c.args.z in
    let length = leading_length 128 z (omega arith) in
    short_below z length.0 length.2 (omega (arith, length.1))

pub overflow_cast-z-2 : goal.overflow_cast-z-2
overflow_cast-z-2 c =
    let z = c.args.z in
    let length = leading_length 128 z (omega arith) in
    let s = (128 - count_leading_zeros 128 z - 61) / 2 in
    let l = leading_below z length.0 s length.2 (omega (arith, length.1)) in
    omega arith

pub short_root-leading-requires : goal.short_root-leading-requires
short_root-leading-requires c =
    let z = c.args.z in
    let length = leading_length 128 z (omega arith) in
    let s = (128 - count_leading_zeros 128 z - 61) / 2 in
    leading_below z length.0 s length.2 (omega (arith, length.1))

pub nearer-requires-clause-leading_small : goal.nearer-requires-clause-leading_small
nearer-requires-clause-leading_small c =
    let z = c.args.z in
    let length = leading_length 128 z (omega arith) in
    let s = (128 - count_leading_zeros 128 z - 61) / 2 in
    let l = leading_below z length.0 s length.2 (omega (arith, length.1)) in
    leading_root c.short_root-leading.result (z / 2 ^ (2 * s)) c.short_root-leading.ensures.below l

pub nearer-requires-clause-shift_small : goal.nearer-requires-clause-shift_small
nearer-requires-clause-shift_small c =
    let z = c.args.z in
    let length = leading_length 128 z (omega arith) in
    let bits = bits_below z length.0 length.3 c.requires in
    omega (arith, length.1)
