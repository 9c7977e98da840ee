use Rattle.std.proofs.Common.{arith, ◌≡◌, ◌∙◌, sym, length}
use Rattle.iges_parameters.proofs.PlacedItems.{placed_long, placed_lawful}
use Rattle.iges_parameters.proofs.reading.assemblies.placed.Goals as goal

pub returns-clause-moves : goal.returns-clause-moves
returns-clause-moves c =
    let is = rw (c.as_slice.ensures, c.as_slice-2.ensures) at c.in_ok-placed_all.ensures in
    let same = c.in_ok-items.ensures.long ∙ sym c.in_ok-matrices.ensures.long in
    let long : length c.in_ok-placed_all.field-0 ≡ length c.in_ok-items.items = rw is (placed_long c.in_ok-items.items c.in_ok-matrices.matrices same) in
    (omega (arith, long, c.in_ok-items.ensures.long, c.in_ok-items.ensures.moves.0, c.in_ok-matrices.ensures.moves.0), omega (arith, c.in_ok-items.ensures.moves.1, c.in_ok-matrices.ensures.moves.1))

pub returns-clause-long : goal.returns-clause-long
returns-clause-long c =
    let is = rw (c.as_slice.ensures, c.as_slice-2.ensures) at c.in_ok-placed_all.ensures in
    let same = c.in_ok-items.ensures.long ∙ sym c.in_ok-matrices.ensures.long in
    rw is (placed_long c.in_ok-items.items c.in_ok-matrices.matrices same) ∙ c.in_ok-items.ensures.long

pub returns-clause-lawful : goal.returns-clause-lawful
returns-clause-lawful c =
    let is = rw (c.as_slice.ensures, c.as_slice-2.ensures) at c.in_ok-placed_all.ensures in
    rw is (placed_lawful c.in_ok-items.items c.in_ok-matrices.matrices c.in_ok-items.ensures.within c.in_ok-matrices.ensures.within)
