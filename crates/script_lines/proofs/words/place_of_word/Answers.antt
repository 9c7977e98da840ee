use Rattle.std.proofs.Common.{◌+◌, arith, length-drop}
use Rattle.std.proofs.lemmas.List.{take_rest}
use Rattle.script_lines.proofs.WordLaws.{words_none, word_placed}
use Rattle.script_lines.proofs.words.place_of_word.Goals as goal

pub returns-then-start-line-clause-none : goal.returns-then-start-line-clause-none
returns-then-start-line-clause-none c =
    let n = rw take_rest at c.blanks_before.ensures.value in
    let size = length-drop c.args.at c.args.line.now in
    words_none (c.args.at + 1) _ (omega (arith, size, n, c.if-start-line.true))

pub returns-clause-found : goal.returns-clause-found
returns-clause-found c =
    let n = rw take_rest at c.blanks_before.ensures.value in
    let within = rw take_rest at c.blanks_before.ensures.within in
    let k = rw take_rest at c.bytes_before_blank.ensures.value in
    let size = length-drop c.args.at c.args.line.now in
    (word_placed c.args.line.now c.args.at _ _ n (omega (arith, size, within, c.requires, c.if-start-line.false)) k).1

pub returns-clause-inside : goal.returns-clause-inside
returns-clause-inside c =
    let n = rw take_rest at c.blanks_before.ensures.value in
    let within = rw take_rest at c.blanks_before.ensures.within in
    let k = rw take_rest at c.bytes_before_blank.ensures.value in
    let short = rw take_rest at c.bytes_before_blank.ensures.within in
    let size = length-drop c.args.at c.args.line.now in
    let rest = length-drop (c.args.at + c.blanks_before.result) c.args.line.now in
    let some = (word_placed c.args.line.now c.args.at _ _ n (omega (arith, size, within, c.requires, c.if-start-line.false)) k).0 in
    (omega (arith, some), omega (arith, short, rest, size, within, c.requires))
