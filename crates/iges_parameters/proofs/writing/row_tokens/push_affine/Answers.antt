use Rattle.std.proofs.Common.{refl, sym, subst, arith}
use Rattle.iges_parameters.specs.Tables.{matrix_rules}
use Rattle.iges_parameters.proofs.Nearness.{AreNear, affine_near}
use Rattle.iges_parameters.proofs.Pushed.{by_names}
use Rattle.iges_parameters.proofs.writing.row_tokens.push_affine.Goals as goal

pub push_numbers-requires : goal.push_numbers-requires
push_numbers-requires g c =
    let near : AreNear c.numbers_of_affine.result = subst AreNear (sym c.numbers_of_affine.ensures) (affine_near c.args.affine.now c.requires) in
    (omega arith, (omega arith, (omega arith, near)))

pub returns : goal.returns
unfolding matrix_rules
returns g c = by_names g.S.TokenSink.with c.push_numbers.result _ _ 124 _ _ _ _ refl c.numbers_of_affine.ensures c.push_numbers.ensures
