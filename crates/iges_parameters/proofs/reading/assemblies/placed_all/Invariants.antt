use Rattle.std.proofs.Common.{◌≡◌, ◌++◌, map, pos}
use Rattle.iges_parameters.specs.Lists.{placed_all}
use Rattle.iges_parameters.proofs.reading.assemblies.placed_all.Given as goal

abbrev pub invariant-loop-item : goal.invariant-loop-item
invariant-loop-item l = l.placed ++ placed_all (map (λ n. pos n) l.item-iterator.a.rest.now) (map (λ n. pos n) l.item-iterator.b.rest.now) ≡ placed_all (map (λ n. pos n) l.fn.items) (map (λ n. pos n) l.fn.matrices)
