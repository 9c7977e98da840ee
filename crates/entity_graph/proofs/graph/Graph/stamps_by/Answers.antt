use Rattle.std.proofs.Common.{◌≡◌, ◌∙◌, ap, ℕ, length, subst}
use Rattle.std.specs.Prelude.{Some}
use Rattle.solid_base.specs.References.{at_number}
use Rattle.entity_graph.specs.FirstFaults.{ArePresent}
use Rattle.entity_graph.specs.Marks.{with_marks, IsRenewed}
use Rattle.entity_graph.specs.Stamps.{IsStamp}
use Rattle.entity_graph.proofs.Stamping.{if_both, all_size, known_old, stamps_are}
use Rattle.entity_graph.proofs.graph.Graph.stamps_by.Goals as goal

pub mark_reaching-marks-requires-clause-size : goal.mark_reaching-marks-requires-clause-size
mark_reaching-marks-requires-clause-size c =
    let present : ArePresent c.args.links.now = subst ArePresent (c.self.view_is ∙ c.requires.graph) c.self.invariant.sound.present in
    let marked = c.mark_numbers.ensures ∙ ap (with_marks c.in_ok-marked.marked) c.as_slice.ensures in
    all_size c.args.links.now c.len.result c.len.ensures present c.args.changed.now c.in_ok-marked.marked c.mark_numbers.new.self c.mark_numbers.new.self c.in_ok-marked.ensures marked

pub renewed-requires-clause-known : goal.renewed-requires-clause-known
renewed-requires-clause-known c =
    let present : ArePresent c.args.links.now = subst ArePresent (c.self.view_is ∙ c.requires.graph) c.self.invariant.sound.present in
    let marked = c.mark_numbers.ensures ∙ ap (with_marks c.in_ok-marked.marked) c.as_slice.ensures in
    known_old c.args.links.now c.len.result c.len.ensures present c.args.changed.now c.in_ok-marked.marked c.mark_numbers.new.self c.mark_reaching-marks.result c.in_ok-marked.ensures marked c.mark_reaching-marks.ensures.reaching c.args.old.now
    c.mark_reaching-marks.ensures.size c.requires.known

pub returns-clause-stamps : goal.returns-clause-stamps
returns-clause-stamps c =
    let present : ArePresent c.args.links.now = subst ArePresent (c.self.view_is ∙ c.requires.graph) c.self.invariant.sound.present in
    let marked = c.mark_numbers.ensures ∙ ap (with_marks c.in_ok-marked.marked) c.as_slice.ensures in
    if_both c.renewed.result (λ stamps. length stamps ≡ length c.mark_reaching-marks.result) (λ stamps. (e s : ℕ) → at_number stamps e ≡ Some s → IsRenewed c.mark_reaching-marks.result c.args.version c.args.old.now e s)
    (λ stamps. (e s : ℕ) → at_number stamps e ≡ Some s → IsStamp c.args.links.now c.args.changed.now c.args.version c.args.old.now e s)
    (λ stamps one renewed. stamps_are c.args.links.now c.len.result c.len.ensures present c.args.changed.now c.in_ok-marked.marked c.mark_numbers.new.self c.mark_reaching-marks.result c.in_ok-marked.ensures marked c.mark_reaching-marks.ensures.reaching
    c.args.version c.args.old.now stamps c.mark_reaching-marks.ensures.size one renewed)
    c.renewed.ensures.one_each c.renewed.ensures.renewed
