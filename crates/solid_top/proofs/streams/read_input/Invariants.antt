use Rattle.std.proofs.Common.{◌≡◌, ◌<◌, ◌≤◌, ◌+◌, ◌-◌, length}
use Rattle.std.specs.Io.KnownBytes.{Consumes}
use Rattle.solid_io.specs.Causes.{SameKnown}
use Rattle.solid_top.specs.Streams.{most_bytes}
use Rattle.solid_top.proofs.streams.read_input.Given as goal

abbrev pub invariant-loop-piece : goal.invariant-loop-piece
invariant-loop-piece g l = record {
  room : 0 < length l.piece.items;
  fits : length l.bytes ≤ most_bytes;
  gone : Consumes (g.S.Source.left l.fn.source) (g.S.Source.left l.source) l.bytes;
  known : SameKnown (g.S.Source.left l.fn.source) (g.S.Source.left l.source);
  count : g.S.Source.faults l.source ≡ g.S.Source.faults l.fn.source;
}

abbrev pub decreases-loop-piece : goal.decreases-loop-piece
decreases-loop-piece g l = (most_bytes + 1) - length l.bytes
