use Rattle.std.proofs.Common.{arith, ◌≡◌, ◌∙◌, sym, ap, refl, take}
use Rattle.std.proofs.lemmas.Result.{err_from_is_err_and}
use Rattle.iges_cards.specs.Reading.{keep, cards_in}
use Rattle.iges_cards.specs.Sections.{width_of}
use Rattle.iges_cards.proofs.CardLaws.{card_takes, next_below, few_more}
use Rattle.iges_cards.proofs.FirstFaultLaws.{fault_found}
use Rattle.iges_cards.proofs.Steps.{goes_on, is_done, stops, stops_at_counts, no_more, starts_with_all}
use Rattle.iges_cards.proofs.TakesLaws.{cards_take}
use Rattle.iges_cards.proofs.reader.read_cards.Goals as goal

pub loop-rest-init : goal.loop-rest-init
loop-rest-init c = rw (c.new-counts.ensures, c.new-cards.ensures) (record {
  within = omega arith;
  few = record { start = omega arith; global = omega arith; directory = omega arith; parameter = omega arith };
  reads = starts_with_all c.args.bytes.now;
})

pub returns-in_err-section-clause-first_fault : goal.returns-in_err-section-clause-first_fault
returns-in_err-section-clause-first_fault c =
    let p = err_from_is_err_and c.from_residual.result c.from_residual.ensures.1 in
    let l = c.loop-rest in
    let e = stops l.rest.now c.split_line.result.0.now c.split_line.result.1.now l.before l.counts l.cards _ c.in_err-section.field-0.0 (cards_in c.args.bytes.now) c.split_line.ensures.first c.in_err-section.ensures.value l.invariant.reads in
    rw (p.1, p.2) (λ _. fault_found c.args.bytes.now _ e)

pub returns-in_err-keep-clause-first_fault : goal.returns-in_err-keep-clause-first_fault
returns-in_err-keep-clause-first_fault c =
    let p = err_from_is_err_and c.from_residual-in_err-keep.result c.from_residual-in_err-keep.ensures.1 in
    rw (p.1, p.2) (λ text. absurd (text refl))

pub returns-in_err-check_counts-clause-first_fault :
    goal.returns-in_err-check_counts-clause-first_fault
returns-in_err-check_counts-clause-first_fault c =
    let p = err_from_is_err_and c.from_residual-in_err-check_counts.result c.from_residual-in_err-check_counts.ensures.1 in
    let l = c.loop-rest in
    let e = stops_at_counts l.rest.now c.split_line.result.0.now c.split_line.result.1.now c.in_ok-section.columns.now l.before l.counts l.cards c.in_ok-section.section _ c.in_err-check_counts.field-0.0 (cards_in c.args.bytes.now)
    c.split_line.ensures.first c.in_ok-section.ensures.value (sym c.is_terminate.ensures ∙ c.if-is_terminate.true) c.in_err-check_counts.ensures l.invariant.reads in
    rw (p.1, p.2) (λ _. fault_found c.args.bytes.now _ e)

pub returns-then-is_terminate-clause-fixed_form : goal.returns-then-is_terminate-clause-fixed_form
returns-then-is_terminate-clause-fixed_form c =
    let l = c.loop-rest in
    cards_take c.args.bytes.now _ (
    is_done c.args.bytes.now l.rest.now c.split_line.result.0.now c.split_line.result.1.now c.in_ok-section.columns.now l.before l.counts l.cards c.in_ok-section.section l.counts (cards_in c.args.bytes.now)
    l.invariant.within c.split_line.ensures.first c.in_ok-section.ensures.value (sym c.is_terminate.ensures ∙ c.if-is_terminate.true) c.in_ok-check_counts.ensures l.invariant.reads)

pub one_more-counts-requires : goal.one_more-counts-requires
one_more-counts-requires c =
    let l = c.loop-rest in
    next_below l.before l.counts c.in_ok-section.section c.in_ok-section.columns.now c.split_line.result.0.now
    (card_takes l.before l.counts c.in_ok-section.section c.in_ok-section.columns.now c.split_line.result.0.now c.in_ok-section.ensures.value)

pub loop-rest-smaller : goal.loop-rest-smaller
loop-rest-smaller c = c.split_line.ensures.shorter

pub loop-rest-preserved : goal.loop-rest-preserved
loop-rest-preserved c =
    let l = c.loop-rest in
    let below = next_below l.before l.counts c.in_ok-section.section c.in_ok-section.columns.now c.split_line.result.0.now
    (card_takes l.before l.counts c.in_ok-section.section c.in_ok-section.columns.now c.split_line.result.0.now c.in_ok-section.ensures.value) in
    let kept : c.keep.new.self ≡ keep c.in_ok-section.section (take (width_of c.in_ok-section.section) c.in_ok-section.columns.now) l.cards =
    c.in_ok-keep.ensures ∙ ap (λ w. keep c.in_ok-section.section (take w c.in_ok-section.columns.now) l.cards) c.width.ensures.value in
    rw (kept, c.one_more-counts.ensures) (record {
      within = omega (arith, c.split_line.ensures.shorter);
      few = few_more l.counts c.in_ok-section.section l.invariant.few below;
      reads = goes_on c.args.bytes.now l.rest.now c.split_line.result.0.now c.split_line.result.1.now c.in_ok-section.columns.now l.before l.counts l.cards c.in_ok-section.section (cards_in c.args.bytes.now)
          l.invariant.within c.split_line.ensures.first c.in_ok-section.ensures.value (sym c.is_terminate.ensures ∙ c.if-is_terminate.false) l.invariant.reads;
    })

pub returns-clause-first_fault : goal.returns-clause-first_fault
returns-clause-first_fault c = λ _. fault_found c.args.bytes.now _ (no_more c.loop-rest.rest.now c.loop-rest.before c.loop-rest.counts c.loop-rest.cards _ (cards_in c.args.bytes.now) (sym c.is_empty.ensures ∙ c.loop-rest-test.false) c.loop-rest.invariant.reads)
