use Rattle.std.proofs.Common.{◌≡◌, ◌≢◌, ◌-◌, arith, rules}
use Rattle.iges_file.specs.Entities.{text_of}
use Rattle.iges_file.proofs.JoinedLines.{joined_short, joined_in_line}
use Rattle.iges_file.proofs.entities.read_entity.Goals as goal

pub entity_with-requires-clause-short : goal.entity_with-requires-clause-short
entity_with-requires-clause-short c =
    let short = joined_short 64 (c.args.pair.first - 1) 1 c.args.params.now c.requires.wide in
    rw c.only_line-line.ensures (omega (arith, short))

pub entity_with-requires-clause-in_line : goal.entity_with-requires-clause-in_line
entity_with-requires-clause-in_line c =
    rw c.only_line-line.ensures (joined_in_line (c.args.pair.first - 1) 1 c.args.params.now c.requires.plain)

pub entity_with-requires-2-clause-short : goal.entity_with-requires-2-clause-short
entity_with-requires-2-clause-short c =
    let other : c.args.pair.kind ≢ 0 = search rules in
    let lines = c.requires.lines other in
    let short = joined_short 64 (c.args.pair.first - 1) c.args.pair.count c.args.params.now c.requires.wide in
    let text : c.as_slice.result.now ≡ text_of c.args.params.now c.args.pair = search rules in
    rw text (omega (arith, short, lines.1))

pub entity_with-requires-2-clause-in_line : goal.entity_with-requires-2-clause-in_line
entity_with-requires-2-clause-in_line c =
    let text : c.as_slice.result.now ≡ text_of c.args.params.now c.args.pair = search rules in
    rw text (joined_in_line (c.args.pair.first - 1) c.args.pair.count c.args.params.now c.requires.plain)
