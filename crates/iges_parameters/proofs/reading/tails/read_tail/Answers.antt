use Rattle.std.proofs.lemmas.Result.{err_from_is_err_and}
use Rattle.iges_parameters.proofs.TailLoop.{tail_goes_on, tail_few, tail_done, tail_ends, all_pushed}
use Rattle.iges_fields.specs.Layout.{IsSpelt}
use Rattle.iges_parameters.proofs.reading.tails.read_tail.Goals as goal

pub returns-in_err-field-clause-value : goal.returns-in_err-field-clause-value
returns-in_err-field-clause-value c =
    let p = err_from_is_err_and c.from_residual.result c.from_residual.ensures.1 in
    rw (p.1, p.2) (λ text. tail_ends c.loop-tokens.tokens c.loop-tokens.parameters c.more.new.self c.in_err-field.field-0.0 _ c.in_err-field.ensures.more c.loop-tokens.invariant.so_far)

pub loop-tokens-preserved : goal.loop-tokens-preserved
loop-tokens-preserved c =
    let more = rw c.in-Some.is at c.in_ok-field.ensures.more in
    let spelt = rw c.in-Some.is at c.in_ok-field.ensures.spelt in
    record {
      few = tail_few c.loop-tokens.parameters c.more.new.self c.in-Some.field more c.loop-tokens.invariant.few;
      spelt = rw c.in_ok-push_field.ensures (all_pushed IsSpelt c.loop-tokens.tokens _ c.loop-tokens.invariant.spelt spelt);
      so_far = rw c.in_ok-push_field.ensures (tail_goes_on c.loop-tokens.tokens c.loop-tokens.parameters c.more.new.self c.in-Some.field _ more c.loop-tokens.invariant.so_far);
    }

pub returns-clause-value : goal.returns-clause-value
returns-clause-value c =
    let more = rw c.in_default.is at c.in_ok-field.ensures.more in
    tail_done c.loop-tokens.tokens c.loop-tokens.parameters c.more.new.self _ more c.loop-tokens.invariant.so_far
