use Rattle.std.proofs.Common.{arith, ◌∷◌, [], length-append}
use Rattle.std.proofs.lemmas.Result.{err_from_is_err_and}
use Rattle.iges_directory.proofs.DirectoryForms.{directory_takes}
use Rattle.iges_directory.proofs.FirstFaultLaws.{fault_takes}
use Rattle.iges_directory.proofs.PairSteps.{starts, two_at, none_after, eighty_first, text_more, goes_on, stops, ends}
use Rattle.iges_directory.proofs.directory.read_directory.Goals as goal

pub returns-then-len-ne0-clause-first_fault : goal.returns-then-len-ne0-clause-first_fault
returns-then-len-ne0-clause-first_fault c =
    let odd = rw c.len.ensures at c.if-len-ne0.true in
    λ _. omega (arith, odd)

pub returns-then-len-gt-MOST_LINES-clause-first_fault :
    goal.returns-then-len-gt-MOST_LINES-clause-first_fault
returns-then-len-gt-MOST_LINES-clause-first_fault c =
    λ _. (rw c.len.ensures at c.if-len-ne0.false, rw c.len-2.ensures at c.if-len-gt-MOST_LINES.true)

pub loop-at-init : goal.loop-at-init
loop-at-init c =
    let even = rw c.len.ensures at c.if-len-ne0.false in
    let most = rw c.len-2.ensures at c.if-len-gt-MOST_LINES.false in
    rw c.in_ok-pairs.ensures.items (record {
      place = omega arith;
      within = omega arith;
      even = even;
      most = most;
      text = omega arith;
      few = omega arith;
      entity = omega arith;
      eighty = c.requires.eighty;
      gives = starts c.args.params c.args.lines.now even most;
    })

pub pair_in-requires-clause-first : goal.pair_in-requires-clause-first
pair_in-requires-clause-first c =
    let l = c.loop-at in
    let e = two_at c.args.lines.now l.at c.get.result.now c.get-in-loop-at.result.now c.get.ensures c.get-in-loop-at.ensures in
    (eighty_first _ _ _ _ e l.invariant.eighty).0

pub pair_in-requires-clause-second : goal.pair_in-requires-clause-second
pair_in-requires-clause-second c =
    let l = c.loop-at in
    let e = two_at c.args.lines.now l.at c.get.result.now c.get-in-loop-at.result.now c.get.ensures c.get-in-loop-at.ensures in
    (eighty_first _ _ _ _ e l.invariant.eighty).1

pub returns-in_err-pair-clause-first_fault : goal.returns-in_err-pair-clause-first_fault
returns-in_err-pair-clause-first_fault c =
    let p = err_from_is_err_and c.from_residual-in_err-pair.result c.from_residual-in_err-pair.ensures.1 in
    let l = c.loop-at in
    let e = two_at c.args.lines.now l.at c.get.result.now c.get-in-loop-at.result.now c.get.ensures c.get-in-loop-at.ensures in
    rw (p.1, p.2) (λ text. fault_takes c.args.params c.args.lines.now _
    (stops c.args.params l.text l.entity l.pairs.items _ _ _ c.get.result.now c.get-in-loop-at.result.now _ e l.invariant.text l.invariant.entity
    (c.in_err-pair.ensures.fault text) l.invariant.gives))

pub loop-at-preserved : goal.loop-at-preserved
loop-at-preserved c =
    let l = c.loop-at in
    let e = two_at c.args.lines.now l.at c.get.result.now c.get-in-loop-at.result.now c.get.ensures c.get-in-loop-at.ensures in
    let more = length-append l.pairs.items (c.in_ok-pair.pair ∷ []) in
    rw c.in_ok-push_pair.ensures (record {
      place = omega (arith, l.invariant.place, more);
      within = omega (arith, l.invariant.even, l.invariant.place, c.loop-at-test.true, c.len-in-loop-at.ensures);
      even = l.invariant.even;
      most = l.invariant.most;
      text = omega (arith, l.invariant.text, text_more l.pairs.items c.in_ok-pair.pair);
      few = c.in_ok-pair.ensures.text;
      entity = omega (arith, l.invariant.entity, more);
      eighty = (eighty_first _ _ _ _ e l.invariant.eighty).2;
      gives = goes_on c.args.params l.text l.entity l.pairs.items c.in_ok-pair.pair _ _ c.get.result.now c.get-in-loop-at.result.now _ e l.invariant.text l.invariant.entity c.in_ok-pair.ensures.found l.invariant.gives;
    })

pub returns-clause-directory : goal.returns-clause-directory
returns-clause-directory c =
    let after = none_after c.args.lines.now c.loop-at.at (omega (arith, c.loop-at-test.false, c.len-in-loop-at.ensures)) in
    directory_takes c.args.params c.args.lines.now c.loop-at.pairs.items (ends c.args.params c.loop-at.pairs.items _ _ after c.loop-at.invariant.gives)
