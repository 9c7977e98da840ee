use Rattle.solid_io.proofs.Fronts.{front_given}
use Rattle.std.proofs.lemmas.List.{take_rest}
use Rattle.solid_io.proofs.memory.MemSourceSource.read.Goals as goal

pub returns-clause-bytes : goal.returns-clause-bytes
returns-clause-bytes c =
    let s = c.self.inside in
    let least = rw (take_rest, c.as_slice.ensures) at c.min-count.ensures in
    let copied = rw (take_rest, c.as_slice.ensures) at c.copy_from_slice.ensures.after in
    let given = front_given s.bytes c.args.buf.now c.copy_from_slice.new.self s.at c.min-count.result c.self.invariant least copied in
    rw (← c.self.view_is) given
