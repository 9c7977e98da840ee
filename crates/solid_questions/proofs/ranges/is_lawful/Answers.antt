use Rattle.std.proofs.Common.{refl, rules, to_z-of_z, FitsSigned}
use Rattle.std.specs.Int.{w128}
use Rattle.solid_questions.proofs.ranges.is_lawful.Goals as goal

pub returns-then-is_entity_number-3 : goal.returns-then-is_entity_number-3
returns-then-is_entity_number-3 c =
    let z : FitsSigned w128 c.in-Section.z = search rules in
    let x0 : FitsSigned w128 c.in-Section.x0 = search rules in
    let y0 : FitsSigned w128 c.in-Section.y0 = search rules in
    let step : FitsSigned w128 c.in-Section.step = search rules in
    let e = (rw c.if-is_entity_number-3.true at c.is_entity_number-in-Section.ensures).0 refl in
    let section = rw (to_z-of_z z, to_z-of_z x0, to_z-of_z y0, to_z-of_z step) at c.is_lawful_section.ensures in
    rw c.in-Section.is (λ t. (e, section.0 t), λ h. section.1 h.1)
