use Rattle.std.proofs.Common.{◌≡◌, ◌+◌, ◌-◌, ◌≤◌, ◌<◌, drop, get_or, sum_by, ap, ◌∙◌, subst, arith}
use Rattle.std.specs.List.{AllByRecursion}
use Rattle.std.proofs.lemmas.List.{drop_more}
use Rattle.std.proofs.lemmas.List.Sums.{sum_by-cons}
use Rattle.solid_base.specs.declared.solids.Placed.{Placed}
use Rattle.solid_eval.specs.Passing.{Passes, item_weight, NamesEntity}
use Rattle.solid_eval.proofs.PassedParts.{item_here, item_on}
use Rattle.solid_eval.proofs.places.item_at.Goals as goal

pub returns-then-rest-weight : goal.returns-then-rest-weight
returns-then-rest-weight c =
    let weight = item_weight c.args.graph.now in
    let items = c.as_slice-placed-items.result.now in
    let rest = c.loop-placed.rest in
    let inside = subst (λ n. rest < n) c.weight-weight.ensures c.if-rest-weight.true in
    let none : Placed = record { item = 0; matrix = 0 } in
    subst (λ l. Passes weight l c.args.k (get_or items c.loop-placed.placed-index none) rest) c.as_slice-placed-items.ensures
    (c.loop-placed.invariant.passes _ rest (item_here weight items c.loop-placed.placed-index none c.loop-placed-test.true rest inside))

pub loop-placed-preserved : goal.loop-placed-preserved
loop-placed-preserved c =
    let weight = item_weight c.args.graph.now in
    let items = c.as_slice-placed-items.result.now in
    let index = c.loop-placed.placed-index in
    let rest = c.loop-placed.rest in
    let here = c.loop-placed.invariant in
    let inside = c.loop-placed-test.true in
    let none : Placed = record { item = 0; matrix = 0 } in
    let p = get_or items index none in
    let next = drop_more items index none inside in
    let counts = ap (sum_by weight) next ∙ sum_by-cons weight p (drop (index + 1) items) in
    let past : weight p ≤ rest = omega (arith, c.weight-weight.ensures, c.if-rest-weight.false) in
    let left : rest - c.weight-weight.result ≡ rest - weight p = ap (λ n. rest - n) c.weight-weight.ensures in
    record {
      numbers = (subst (AllByRecursion (NamesEntity c.args.graph.now)) next here.numbers).1;
      within = omega (arith, counts, here.within, left, past);
      passes = λ q r h. here.passes q r (item_on weight items index none inside rest q r past (subst (λ x. Passes weight (drop (index + 1) items) x q r) left h));
    }
