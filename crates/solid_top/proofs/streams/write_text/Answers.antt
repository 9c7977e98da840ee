use Rattle.std.proofs.Common.{arith, length-drop, ◌∙◌}
use Rattle.std.proofs.lemmas.List.{take_rest}
use Rattle.std.proofs.KnownBytes.{Appends-trans}
use Rattle.std.proofs.Math.Seq.{take-add}
use Rattle.solid_top.proofs.streams.write_text.Goals as goal

pub loop-at-preserved : goal.loop-at-preserved
loop-at-preserved g c =
    let text = c.args.text.now in
    let at = c.loop-at.at in
    record {
      within = omega (arith, length-drop at text, c.in_ok-at.ensures.bound);
      written = rw take-add (Appends-trans _ _ _ _ _ c.loop-at.invariant.written (rw take_rest at c.in_ok-at.ensures.bytes));
      known = c.loop-at.invariant.known ∙ c.in_ok-at.ensures.known;
      count = c.in_ok-at.ensures.cause ∙ c.loop-at.invariant.count;
    }
