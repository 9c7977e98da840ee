use Rattle.std.proofs.Common.{arith, ◌<◌, ◌≤◌, length}
use Rattle.std.proofs.lemmas.Nat.{pow_pos}
use Rattle.volume_bounds.specs.Cells.{parts_of}
use Rattle.volume_bounds.proofs.Extremes.{found_still, found_more, found_none, found_some, extent_of, in_grid, cells_seen, seen_at, unseen_at, not_outside}
use Rattle.volume_bounds.proofs.bounds.bounds_flat.Goals as goal
use Rattle.volume_bounds.proofs.bounds.bounds_flat.Goals.{in-Outside, in-Mixed}

pub loop-place-preserved : goal.loop-place-preserved
loop-place-preserved c =
    let list = c.as_slice-verdict-items.ensures in
    let parts = c.parts-parts.ensures in
    let inside : c.loop-place.place < length c.args.verdicts.now.list = rw list at c.loop-place-test.true in
    elim c.match-verdict.branch [
      | in-Outside w ↦
          let outside = rw list at w.in-Outside.is in
          let unseen = unseen_at _ _ _ outside in
          rw w.found-is (found_still _ _ _ c.loop-place.found unseen c.loop-place.invariant)
      | in-Mixed w ↦
          let is = rw list at w.in-Mixed.is in
          let seen = seen_at _ _ _ inside (not_outside _ is) in
          let cell = rw parts at w.cell_at.ensures.cell in
          rw (w.found-is, w.with_one.ensures, cell)
          (found_more (parts_of c.args.depth) _ _ c.loop-place.found seen c.loop-place.invariant)
    ]

pub returns-in_err-block : goal.returns-in_err-block
returns-in_err-block c =
    let long : length c.args.verdicts.now.list ≤ c.loop-place.place =
    rw c.as_slice-verdict-items.ensures at c.loop-place-test.false in
    let none = found_none (parts_of c.args.depth) c.args.verdicts.now.list c.loop-place.place
    c.loop-place.found long c.in_err-block.was c.loop-place.invariant in
    record { extent = rw c.from_residual.ensures none; near = rw c.from_residual.ensures tt }

pub cell_cube-requires-clause-cell : goal.cell_cube-requires-clause-cell
cell_cube-requires-clause-cell c =
    let few : c.loop-place.place ≤ length c.args.verdicts.now.list =
    rw c.as_slice-verdict-items.ensures at c.loop-place.auto.place-end in
    let cells = cells_seen (parts_of c.args.depth) c.args.verdicts.now.list c.loop-place.place
    (pow_pos c.args.depth) (omega (arith, few, c.requires.verdicts)) in
    (in_grid _ _ _ cells (found_some _ _ _ c.loop-place.found _ c.in_ok-block.was c.loop-place.invariant)).0

pub cell_cube-requires-2-clause-cell : goal.cell_cube-requires-2-clause-cell
cell_cube-requires-2-clause-cell c =
    let few : c.loop-place.place ≤ length c.args.verdicts.now.list =
    rw c.as_slice-verdict-items.ensures at c.loop-place.auto.place-end in
    let cells = cells_seen (parts_of c.args.depth) c.args.verdicts.now.list c.loop-place.place
    (pow_pos c.args.depth) (omega (arith, few, c.requires.verdicts)) in
    (in_grid _ _ _ cells (found_some _ _ _ c.loop-place.found _ c.in_ok-block.was c.loop-place.invariant)).1

pub returns : goal.returns
returns c =
    let long : length c.args.verdicts.now.list ≤ c.loop-place.place =
    rw c.as_slice-verdict-items.ensures at c.loop-place-test.false in
    let block = found_some (parts_of c.args.depth) c.args.verdicts.now.list c.loop-place.place
    c.loop-place.found _ c.in_ok-block.was c.loop-place.invariant in
    let extent = extent_of c.args.verdicts.now.list c.args.cube.now (parts_of c.args.depth)
    c.loop-place.place _ long block in
    record {
      extent = rw (c.cell_cube.ensures.cell, c.cell_cube-2.ensures.cell) extent;
      near = (c.cell_cube.ensures.near.0, c.cell_cube-2.ensures.near.1);
    }
