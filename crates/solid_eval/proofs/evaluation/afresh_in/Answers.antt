use Rattle.std.proofs.Common.{refl, sym, ap, arith, ◌∙◌, subst}
use Rattle.solid_base.specs.Classes.{IsVerdict}
use Rattle.solid_base.specs.Graph.{AreSound, weight_of, most_weight}
use Rattle.solid_base.specs.Ledgers.{RisesUpTo}
use Rattle.solid_base.specs.Ranges.{IsLawfulRow}
use Rattle.fixed_enclosure.specs.Places.{spans_of}
use Rattle.fixed_enclosure.specs.Spans.{BoxHolds}
use Rattle.affine_pull.proofs.LawfulChains.{lawful-row}
use Rattle.solid_eval.specs.Solids.{solid_of}
use Rattle.solid_eval.specs.Uses.{leaf_count}
use Rattle.solid_eval.specs.Classes.{IsOfPlaces}
use Rattle.solid_eval.specs.Written.{written}
use Rattle.solid_eval.specs.Causes.{HasCause}
use Rattle.solid_eval.proofs.Causes.{open_use}
use Rattle.solid_eval.proofs.Counting.{up_to}
use Rattle.solid_eval.proofs.Mixed.{is_verdict}
use Rattle.solid_eval.proofs.Settled.{inside-settled, outside-settled, point-held}
use Rattle.solid_eval.proofs.Sharp.{sharp_point}
use Rattle.solid_eval.proofs.Sound.{of_places}
use Rattle.solid_eval.proofs.Taken.{evaluated_verdict, evaluated_count, rises_by}
use Rattle.solid_eval.proofs.Uses.{count_most}
use Rattle.solid_eval.proofs.evaluation.afresh_in.Goals as goal

pub returns-clause-verdict : goal.returns-clause-verdict
unfolding solid_of
returns-clause-verdict g c =
    let s = spans_of c.args.at.now in
    (c.entity_verdict.ensures.takes s refl).0 ∙ evaluated_verdict (solid_of c.args.rows.now c.args.e) s (g.L.Ledger.count c.args.leaves.now)

pub returns-clause-leaf : goal.returns-clause-leaf
returns-clause-leaf g c = subst IsVerdict (sym (returns-clause-verdict g c)) (is_verdict c.args.rows.now c.args.e (spans_of c.args.at.now))

pub returns-clause-places : goal.returns-clause-places
returns-clause-places g c =
    let rows = c.args.rows.now in
    let box = c.args.at.now in
    subst (λ v. IsOfPlaces (solid_of rows c.args.e) box v.class) (sym (returns-clause-verdict g c))
    (of_places rows c.args.e box c.requires.rows)

pub returns-clause-interior : goal.returns-clause-interior
returns-clause-interior g c point alone is =
    let same = ap (λ v. v.class) (sym (returns-clause-verdict g c)) in
    let held = subst (λ box. BoxHolds 1 box point) (sym alone) (point-held point) in
    inside-settled 1 c.args.rows.now c.args.e c.args.at.now point (omega arith) c.requires.rows held
    (same ∙ is)

pub returns-clause-exterior : goal.returns-clause-exterior
returns-clause-exterior g c point alone is =
    let same = ap (λ v. v.class) (sym (returns-clause-verdict g c)) in
    let held = subst (λ box. BoxHolds 1 box point) (sym alone) (point-held point) in
    outside-settled 1 c.args.rows.now c.args.e c.args.at.now point (omega arith) c.requires.rows
    held (same ∙ is)

pub returns-clause-cause : goal.returns-clause-cause
returns-clause-cause g c =
    let rows = c.args.rows.now in
    let s = spans_of c.args.at.now in
    subst (HasCause rows c.args.e s) (sym (returns-clause-verdict g c)) (open_use rows c.args.e s)

pub returns-clause-sharp : goal.returns-clause-sharp
returns-clause-sharp g c p point own kind near alone =
    let rows = c.args.rows.now in
    let e = c.args.e in
    let own_lawful = subst IsLawfulRow own (lawful-row rows e c.requires.rows) in
    let at_point = ap (λ box. written (solid_of rows e) (spans_of box)) alone in
    ap (λ v. v.class) (returns-clause-verdict g c ∙ at_point)
    ∙ sharp_point rows e p point own own_lawful kind near

pub returns-clause-counted : goal.returns-clause-counted
unfolding solid_of
returns-clause-counted g c =
    let s = spans_of c.args.at.now in
    let old = g.L.Ledger.count c.args.leaves.now in
    (c.entity_verdict.ensures.takes s refl).1 ∙ evaluated_count (solid_of c.args.rows.now c.args.e) s old (g.met.L.Ledger.bounded c.args.leaves.now)

pub returns-clause-most : goal.returns-clause-most
returns-clause-most g c =
    let old = g.L.Ledger.count c.args.leaves.now in
    let n = leaf_count (solid_of c.args.rows.now c.args.e) in
    subst (λ new. RisesUpTo old new n) (sym (returns-clause-counted g c)) (rises_by old n (g.met.L.Ledger.bounded c.args.leaves.now))

pub returns-clause-ledger : goal.returns-clause-ledger
returns-clause-ledger g c =
    let count = g.L.Ledger.count in
    up_to (count c.args.leaves.now) (count c.entity_verdict.new.state) (leaf_count (solid_of c.args.rows.now c.args.e)) (weight_of c.args.rows.now c.args.e) (count_most c.args.rows.now c.args.e) (returns-clause-most g c)

pub returns-clause-light : goal.returns-clause-light
returns-clause-light g c =
    let sound = subst AreSound c.requires.graph c.obeys.ensures.sound in
    let count = g.L.Ledger.count in
    up_to (count c.args.leaves.now) (count c.entity_verdict.new.state) (weight_of c.args.rows.now c.args.e) most_weight (sound.light c.args.e) (returns-clause-ledger g c)
