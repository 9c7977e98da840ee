use Rattle.std.proofs.Common.{◌≡◌, ◌+◌, ◌-◌, ◌*◌, arith}
use Rattle.solid_base.proofs.Slices.{prefix_trans}
use Rattle.solid_questions.proofs.Lines.{line_added}
use Rattle.solid_questions.proofs.sections.push_lines.Goals as goal

pub loop-line-preserved : goal.loop-line-preserved
loop-line-preserved c =
    let nx = c.args.nx in
    let line = c.loop-line.line in
    let width : nx * line + nx - nx * line ≡ nx = omega arith in
    let signs = rw width at c.in_ok-push_signs.ensures.ok in
    let fed = prefix_trans c.args.out.now c.loop-line.out c.push_text.new.out c.loop-line.invariant.front c.in_ok-push_text.ensures.front in
    record {
      rest = line_added nx c.args.ny line c.args.cells.now _ c.loop-line.out c.push_text.new.out c.push_signs.new.out c.loop-line-test.true c.loop-line.invariant.rest c.in_ok-push_text.ensures.ok signs;
      front = prefix_trans c.args.out.now c.push_text.new.out c.push_signs.new.out fed c.in_ok-push_signs.ensures.front;
    }
