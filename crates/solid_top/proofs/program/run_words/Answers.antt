use Rattle.std.proofs.Common.{refl, map}
use Rattle.std.proofs.KnownBytes.{Keeps-refl}
use Rattle.solid_top.specs.Commands.{usage_text, too_long_text}
use Rattle.solid_top.specs.declared.statuses.Status.TheVariants as status
use Rattle.solid_top.proofs.RunLaws.{finished, answered}
use Rattle.solid_top.proofs.program.run_words.Goals as goal

pub returns-in-Ok-None : goal.returns-in-Ok-None
returns-in-Ok-None g c =
    let words = map (λ word. word.now) c.args.words.now in
    finished words _ _ _ _ _ _ _ _ refl c.finish.ensures.known status.Usage c.finish.result usage_text ((rw c.in-Ok-None.field-0-is at c.in-Ok-None.ensures.none), Keeps-refl _, refl) refl c.finish.ensures.finishes

pub returns-in-Err-TooLong : goal.returns-in-Err-TooLong
returns-in-Err-TooLong g c =
    let words = map (λ word. word.now) c.args.words.now in
    let (takes, long) = rw c.in-Err-TooLong.field-0-is at c.in-Err-TooLong.ensures.err in
    let same = rw c.in-Err-TooLong.field-0-is at c.in-Err-TooLong.ensures.cause in
    let finish = c.finish-in-Err-TooLong in
    finished words _ _ _ _ _ _ _ _ c.in-Err-TooLong.ensures.known finish.ensures.known status.TooLong finish.result too_long_text ((c.in-Ok-Some.command, (rw c.in-Ok-Some.field-0-is at c.in-Ok-Some.ensures.named), takes), long, refl) same finish.ensures.finishes

pub returns-in-Ok : goal.returns-in-Ok
returns-in-Ok g c =
    let words = map (λ word. word.now) c.args.words.now in
    let read = c.in-Ok.ensures in
    let left = g.S.Source.left c.args.source.now in
    let left' = g.S.Source.left c.input_for.new.source in
    answered words left left' _ _ _ _ _ _ read.known c.answer_input.ensures.known c.in-Ok-Some.command c.in-Ok.bytes c.answer_input.result (rw c.in-Ok-Some.field-0-is at c.in-Ok-Some.ensures.named) read.input read.cause
    (rw c.as_slice.ensures at c.answer_input.ensures.answered)
