use Rattle.std.proofs.Common.{◌≤◌, ◌++◌, arith, length, length-append, take}
use Rattle.std.proofs.KnownBytes.{Consumes-trans}
use Rattle.solid_top.specs.Streams.{most_bytes}
use Rattle.solid_top.proofs.Reading.{stopped_memory}
use Rattle.solid_top.proofs.streams.read_input.Goals as goal

pub returns-then-count-len-clause-err : goal.returns-then-count-len-clause-err
returns-then-count-len-clause-err g c =
    let count = c.in_ok-count.count in
    let bytes = c.loop-piece.bytes in
    let taken = Consumes-trans _ _ _ _ _ c.loop-piece.invariant.gone c.in_ok-count.ensures.bytes.0 in
    let some = c.in_ok-count.ensures.bound.1 in
    (_, omega (arith, length-append bytes (take count c.read.new.buf), some, c.len.ensures, c.if-count-len.true), taken)

pub returns-in_err-extend_from_slice-clause-err : goal.returns-in_err-extend_from_slice-clause-err
returns-in_err-extend_from_slice-clause-err g c =
    let count = c.in_ok-count.count in
    let bytes = c.loop-piece.bytes in
    let taken = Consumes-trans _ _ _ _ _ c.loop-piece.invariant.gone c.in_ok-count.ensures.bytes.0 in
    let some = c.in_ok-count.ensures.bound.1 in
    let fits : length (bytes ++ take count c.read.new.buf) ≤ most_bytes = omega (arith, length-append bytes (take count c.read.new.buf), some, c.len.ensures, c.if-count-len.false, c.loop-piece.invariant.fits) in
    stopped_memory _ _ c.from_residual-in_err-extend_from_slice.result c.from_residual-in_err-extend_from_slice.ensures.1 (_, fits, taken)
