use Rattle.std.proofs.Common.{◌≡◌, arith, ap, min}
use Rattle.iges_parameters.specs.Writing.{tokens_of}
use Rattle.iges_parameters.specs.WrittenRows.{room_of, room_up_to_most, most_counted}
use Rattle.iges_parameters.proofs.Rooms.{room_laid, counted_room}
use Rattle.iges_parameters.proofs.writing.line_counts.laid_size.Goals as goal

pub returns : goal.returns
returns c = λ comma semi.
    let ts = tokens_of c.args.entity.now.row c.args.entity.now.tail in
    let used : c.push_record.new.tokens.used ≡ room_up_to_most 0 ts = ap (λ m. m.used) c.in-Ok.ensures in
    let room : room_up_to_most 0 ts ≡ min (room_of 0 ts) most_counted = counted_room 0 ts (omega arith) in
    omega (arith, used, room, room_laid comma semi 0 ts)
