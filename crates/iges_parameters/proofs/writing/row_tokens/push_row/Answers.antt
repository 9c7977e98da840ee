use Rattle.iges_parameters.specs.Writing.{parameters_of}
use Rattle.iges_parameters.proofs.Nearness.{prim_near}
use Rattle.iges_parameters.proofs.writing.row_tokens.push_row.Goals as goal

pub push_prim-requires : goal.push_prim-requires
push_prim-requires g c = record { near = prim_near c.in-Prim.prim (rw c.in-Prim.is at c.requires) }

pub returns-in-Matrix : goal.returns-in-Matrix
unfolding parameters_of
returns-in-Matrix g c = rw c.in-Matrix.is c.push_affine.ensures
