use Rattle.std.proofs.Common.{◌≡◌, [], length, sym, ap, subst, arith}
use Rattle.solid_eval.specs.Walking.{AreLevels}
use Rattle.solid_eval.proofs.Heavy.{solid_weighs}
use Rattle.solid_eval.proofs.use_walk.Walk.restart.Goals as goal

pub returns-clause-walk : goal.returns-clause-walk
returns-clause-walk c = λ rows lawful sound reads solid walk.
    let empty : c.clear.new.self.list ≡ [] = c.clear.ensures.list in
    let none : length c.clear.new.self.list ≡ 0 = ap length empty in
    record {
      start = (c.requires.at, reads, solid_weighs rows lawful sound c.args.e solid, empty);
      levels = record {
        each = subst (AreLevels rows 0) (sym empty) tt;
        room = omega (arith, none, c.clear.ensures.spare, walk.levels.room);
      };
    }
