use Rattle.std.proofs.Common.{◌≢◌, [], ◌∷◌, ◌++◌, take, sym, append-nil}
use Rattle.std.proofs.lemmas.List.{take_rest}
use Rattle.std.proofs.lemmas.List.Elements.{recursion_from_All}
use Rattle.iges_cards.specs.Lines.{line_texts}
use Rattle.iges_cards.proofs.LineLaws.{feed_at, texts_last, line_open}
use Rattle.iges_cards.proofs.lines.split_line.Goals as goal

pub returns-in-Some-clause-first : goal.returns-in-Some-clause-first
returns-in-Some-clause-first c =
    let found = c.in-Some.ensures.found in
    let (whole, texts) = feed_at c.args.bytes.now c.in-Some.place found.0 found.1 c.in-Some.ensures.before in
    rw take_rest (record { text = take c.in-Some.place c.args.bytes.now ++ 10 ∷ []; split = whole; texts = texts; without_end = c.without_return.ensures })

pub returns-in-None-clause-first : goal.returns-in-None-clause-first
unfolding line_texts
returns-in-None-clause-first c =
    let one = recursion_from_All (λ b. b ≢ 10) c.args.bytes.now c.in-None.ensures.none in
    record { text = c.args.bytes.now; split = sym (append-nil c.args.bytes.now); texts = texts_last c.args.bytes.now c.requires one; without_end = sym (line_open c.args.bytes.now one) }
