use Rattle.volume_bounds.proofs.Cuts.{cut_is, near_between}
use Rattle.volume_bounds.proofs.cells.grid_corner.Goals as goal

pub returns-clause-corner : goal.returns-clause-corner
returns-clause-corner c =
    let near = c.requires.cube.near in
    let x = cut_is _ c.args.cube.now.lo.x c.args.cube.now.hi.x _ _ near.0.0 near.1.0 c.cut.ensures.within c.cut.ensures.cut in
    let y = cut_is _ c.args.cube.now.lo.y c.args.cube.now.hi.y _ _ near.0.1 near.1.1 c.cut-2.ensures.within c.cut-2.ensures.cut in
    let z = cut_is _ c.args.cube.now.lo.z c.args.cube.now.hi.z _ _ near.0.2 near.1.2 c.cut-3.ensures.within c.cut-3.ensures.cut in
    λ i. record { x = x i; y = y i; z = z i }

pub returns-clause-near : goal.returns-clause-near
returns-clause-near c =
    let near = c.requires.cube.near in (
      near_between _ c.args.cube.now.lo.x c.args.cube.now.hi.x near.0.0 near.1.0 c.cut.ensures.within,
      near_between _ c.args.cube.now.lo.y c.args.cube.now.hi.y near.0.1 near.1.1 c.cut-2.ensures.within,
      near_between _ c.args.cube.now.lo.z c.args.cube.now.hi.z near.0.2 near.1.2 c.cut-3.ensures.within,
    )
