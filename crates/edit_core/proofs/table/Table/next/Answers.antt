use Rattle.std.proofs.Common.{◌≡◌, ◌+◌, ◌≤◌, suc, sym, subst, add-one, arith}
use Rattle.std.specs.Arc.{arc_value}
use Rattle.iges_parameters.specs.Accepted.{IsAccepted, lines_of, most_lines}
use Rattle.edit_core.specs.declared.table.Frame.{Frame}
use Rattle.edit_core.specs.Edits.{MayBegin, AreAfter}
use Rattle.edit_core.specs.Placing.{AreNextStamps}
use Rattle.edit_core.specs.Versions.{Version, version_of, IsNext}
use Rattle.edit_core.proofs.NextVersions.{accepted_after, next_is}
use Rattle.edit_core.proofs.table.Table.next.Goals as goal

pub invariant_of-result : goal.invariant_of-result
invariant_of-result c =
    let i = c.self.inside in
    let frame = arc_value i.frame in
    let made = subst (λ (v : Version). AreAfter v.model.rows c.args.batch.now c.args.rows) (sym c.self.view_is) c.requires.after in
    let may = subst (λ (v : Version). MayBegin v.number c.args.batch.now) (sym c.self.view_is) c.requires.begins in
    let lines : c.args.lines ≡ lines_of frame.comma frame.semi c.args.rows = subst (λ (v : Version). c.args.lines ≡ lines_of v.model.comma v.model.semi c.args.rows) (sym c.self.view_is) c.requires.lines in
    let few_lines : lines_of frame.comma frame.semi c.args.rows ≤ most_lines = omega (arith, lines, c.requires.few) in
    let accepted = accepted_after i.version (i.version + 1) frame i.rows c.args.rows i.stamps c.args.stamps c.args.batch.now c.self.invariant.accepted made c.requires.ready c.requires.sound few_lines in
    record {
      accepted = subst (λ (f : Frame). IsAccepted (version_of (i.version + 1) f c.args.rows c.args.stamps).model) (sym c.in_ok-shared_frame.ensures) accepted;
      graph_of_rows = c.requires.graph;
      lines_of_rows = subst (λ (f : Frame). c.args.lines ≡ lines_of f.comma f.semi c.args.rows) (sym c.in_ok-shared_frame.ensures) lines;
      one_each = c.requires.stamps.one_each;
      few = omega (arith, may.below, c.self.invariant.few);
    }

pub returns : goal.returns
returns c =
    let i = c.self.inside in
    let batch = c.args.batch.now in
    let made = subst (λ (v : Version). AreAfter v.model.rows batch c.args.rows) (sym c.self.view_is) c.requires.after in
    let may = subst (λ (v : Version). MayBegin v.number batch) (sym c.self.view_is) c.requires.begins in
    let stamps = subst (λ (v : Version). AreNextStamps v batch c.args.rows c.args.stamps) (sym c.self.view_is) c.requires.stamps in
    let frame = arc_value i.frame in
    let lines : c.args.lines ≡ lines_of frame.comma frame.semi c.args.rows = subst (λ (v : Version). c.args.lines ≡ lines_of v.model.comma v.model.semi c.args.rows) (sym c.self.view_is) c.requires.lines in
    let few_lines : lines_of frame.comma frame.semi c.args.rows ≤ most_lines = omega (arith, lines, c.requires.few) in
    let next = next_is i.version frame i.rows c.args.rows i.stamps c.args.stamps batch may made c.requires.sound few_lines stamps in
    let here = subst (λ (f : Frame). IsNext (version_of i.version (arc_value i.frame) i.rows i.stamps) batch (version_of (suc i.version) f c.args.rows c.args.stamps)) (sym c.in_ok-shared_frame.ensures) next in
    record { next = subst (λ (v : Version). IsNext v batch (version_of (i.version + 1) (arc_value c.in_ok-shared_frame.field-0) c.args.rows c.args.stamps)) c.self.view_is (rw add-one here) }
