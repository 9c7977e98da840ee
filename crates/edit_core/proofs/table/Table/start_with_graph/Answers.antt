use Rattle.std.proofs.Common.{◌≡◌, refl, sym, subst, ap, arith}
use Rattle.iges_parameters.specs.Accepted.{IsAccepted, lines_of}
use Rattle.edit_core.specs.declared.table.Frame.{Frame}
use Rattle.edit_core.specs.Versions.{version_of}
use Rattle.edit_core.proofs.NextVersions.{known, opening_stamp}
use Rattle.edit_core.proofs.table.Table.start_with_graph.Goals as goal

pub stamps-requires-clause-known : goal.stamps-requires-clause-known
stamps-requires-clause-known c e has none =
    let size = c.len.ensures in
    let within = has.1 in
    let below = known _ _ _ _ e c.in_ok-all.ensures none has.0 (omega (arith, within, size)) in
    absurd (omega (arith, below))

pub invariant_of-result : goal.invariant_of-result
invariant_of-result c =
    let model = c.args.model in
    let frame = sym c.in_ok-new.ensures.ok in
    record {
      accepted = subst (λ (f : Frame). IsAccepted (version_of 0 f model.rows c.in_ok-stamps.stamps).model) frame c.requires.accepted;
      graph_of_rows = c.requires.graph;
      lines_of_rows = subst (λ (f : Frame). c.args.lines ≡ lines_of f.comma f.semi model.rows) frame c.requires.lines;
      one_each = c.in_ok-stamps.ensures.one_each;
      few = omega arith;
    }

pub returns : goal.returns
returns c = record {
  opening = record {
    number = refl;
    is = ap (λ (f : Frame). record { start = f.start; comma = f.comma; semi = f.semi; global = f.global; rows = c.args.model.rows }) c.in_ok-new.ensures.ok;
    one_each = c.in_ok-stamps.ensures.one_each;
    stamps = λ e s at. opening_stamp c.args.model.rows _ _ e s c.new-2.ensures (c.in_ok-stamps.ensures.stamps e s at);
  };
}
