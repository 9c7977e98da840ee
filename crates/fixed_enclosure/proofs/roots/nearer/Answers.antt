use Rattle.std.proofs.Common.{arith, ◌+◌, ◌-◌, ◌*◌, ◌/◌, ◌^◌}
use Rattle.fixed_enclosure.proofs.Newton.{moved, next_square, excess_small, room, step_within, step_back}
use Rattle.fixed_enclosure.proofs.roots.nearer.Goals as goal

pub overflow_sub-excess : goal.overflow_sub-excess
overflow_sub-excess c =
    let z = c.args.z in
    let m = moved c.args.leading c.args.shift c.requires.leading_small c.requires.shift_small in
    let n = next_square z c.args.leading c.args.shift c.requires.above in
    rw m.0 (omega arith)

pub overflow_cast-excess-2 : goal.overflow_cast-excess-2
overflow_cast-excess-2 c =
    let m = moved c.args.leading c.args.shift c.requires.leading_small c.requires.shift_small in
    let e = excess_small c.args.z c.args.leading c.args.shift c.requires.below c.requires.leading_small c.requires.shift_small in
    rw m.0 (omega arith)

pub overflow_sub-root : goal.overflow_sub-root
overflow_sub-root c =
    let z = c.args.z in
    let l = c.args.leading in
    let p = 2 ^ c.args.shift in
    let s = (l + 1) * p in
    let m = moved l c.args.shift c.requires.leading_small c.requires.shift_small in
    let r = room z l c.args.shift c.requires.above in
    rw m.0 (step_within z s ((s * s - z) / p / (2 * (l + 1))) r.0 r.1)

pub returns-else-z-root-clause-from_above : goal.returns-else-z-root-clause-from_above
returns-else-z-root-clause-from_above c =
    let z = c.args.z in
    let l = c.args.leading in
    let p = 2 ^ c.args.shift in
    let s = (l + 1) * p in
    let q = (s * s - z) / p / (2 * (l + 1)) in
    let m = moved l c.args.shift c.requires.leading_small c.requires.shift_small in
    let r = room z l c.args.shift c.requires.above in
    let w = step_within z s q r.0 r.1 in
    let b = step_back z s q w r.1 in
    rw m.0 (omega arith)
