use Rattle.std.proofs.iter.Yields.{fronts}
use Rattle.std.proofs.Common.{rules, ◌≡◌, ℕ, Bool, true, false, not, refl, sym, ◌∙◌, arith}
use Rattle.std.proofs.lemmas.Iterator.{YieldsList-from_slice}
use Rattle.std.proofs.lemmas.Iterator.Consumers.{YieldsList-from_copied}
use Rattle.itertools.proofs.ConsumerLemmas.{find_at-of-run}
use Rattle.itertools.specs.Consumer.{find_at}
use Rattle.solid_base.specs.Spelling.{is_blank}
use Rattle.script_lines.proofs.Finding.{place_found, nowhere_found}
use Rattle.script_lines.proofs.words.bytes_before_blank.Goals as goal

abbrev test : ℕ → Bool
test = is_blank

abbrev other : ℕ → Bool
other = λ b. not (is_blank b)

opposite : (b : ℕ) → test b ≡ not (other b)
opposite b = elim (is_blank b) as (λ v. v ≡ not (not v)) [ true ↦ refl | false ↦ refl ]

found : (c : goal.In-Some) → c.find_position.result ≡ find_at test 0 c.args.text.now
found c =
    let r = c.find_position.ensures.runs in
    let slice = YieldsList-from_slice {s = c.iter.result} c.args.text.now (search rules) in
    let road = YieldsList-from_copied {steps = fronts} {s = c.copied-bytes.result} {ys = c.args.text.now} (rw c.copied-bytes.ensures.source slice) in
    let b = r.2 test (search rules) in
    find_at-of-run road r.0 r.1 test _ b.0 b.1

unfound : (c : goal.In-None) → c.find_position.result ≡ find_at test 0 c.args.text.now
unfound c =
    let r = c.find_position.ensures.runs in
    let slice = YieldsList-from_slice {s = c.iter.result} c.args.text.now (search rules) in
    let road = YieldsList-from_copied {steps = fronts} {s = c.copied-bytes.result} {ys = c.args.text.now} (rw c.copied-bytes.ensures.source slice) in
    let b = r.2 test (search rules) in
    find_at-of-run road r.0 r.1 test _ b.0 b.1

pub returns-in-Some-clause-within : goal.returns-in-Some-clause-within
returns-in-Some-clause-within c =
    let at = place_found test other opposite 0 c.args.text.now _ _ (sym (found c) ∙ c.in-Some.is) in
    omega (arith, at.1)

pub returns-in-Some-clause-value : goal.returns-in-Some-clause-value
returns-in-Some-clause-value c =
    let at = place_found test other opposite 0 c.args.text.now _ _ (sym (found c) ∙ c.in-Some.is) in
    omega (arith, at.0)

pub returns-in-None-clause-value : goal.returns-in-None-clause-value
returns-in-None-clause-value c =
    nowhere_found test other opposite 0 c.args.text.now (sym (unfound c) ∙ c.in-None.is)
