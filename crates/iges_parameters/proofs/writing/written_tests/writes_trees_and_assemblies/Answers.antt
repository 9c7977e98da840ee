use Rattle.std.proofs.Common.{◌≡◌, List, [], ◌∷◌, refl, sym, subst, ◌∙◌, arith}
use Rattle.solid_base.specs.declared.solids.Item.{Item}
use Rattle.solid_base.specs.declared.solids.Item.TheVariants as item
use Rattle.solid_base.specs.declared.solids.Row.TheVariants as row
use Rattle.solid_base.specs.Ranges.{IsLawfulRow}
use Rattle.solid_base.specs.Trees.{difference, operand, combination}
use Rattle.iges_parameters.proofs.writing.written_tests.writes_trees_and_assemblies.Goals as goal

pub has_lines-requires-clause-lawful : goal.has_lines-requires-clause-lawful
has_lines-requires-clause-lawful g c =
    let items : List Item = item.Operand 1 ∷ item.Operand 9999999 ∷ item.Less ∷ [] in
    let is : c.from_vec.result ≡ items = c.from_vec.ensures ∙ c.in_ok-items.ensures.items in
    let lawful : IsLawfulRow (row.Tree items 0) = (omega arith, ((omega arith, omega arith), ((omega arith, omega arith), (tt, tt))), (combination difference (operand 1) (operand 9999999), refl)) in
    subst (λ (xs : List Item). IsLawfulRow (row.Tree xs 0)) (sym is) lawful
