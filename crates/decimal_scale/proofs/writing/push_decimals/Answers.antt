use Rattle.std.proofs.Common.{◌≡◌, ◌-◌, ◌^◌, ◌≤◌, ◌<◌, List, ℕ, ◌++◌, OnOk, length, take, drop, rules, sym, subst, ◌∙◌, arith}
use Rattle.decimal_scale.specs.Writing.{last_digits, without_zeros}
use Rattle.decimal_scale.proofs.Powers.{power_at_least}
use Rattle.decimal_scale.proofs.Texts.{after_unit, length-last_digits}
use Rattle.decimal_scale.proofs.Zeros.{zero_written}
use Rattle.decimal_scale.proofs.writing.push_decimals.Goals as goal

pub overflow_add-unit : goal.overflow_add-unit
overflow_add-unit c =
    let most : 10 ^ c.args.places ≤ 10 ^ 15 = power_at_least c.args.places 15 c.requires.places.1 in
    omega arith

pub slice_bounds-decimals-count : goal.slice_bounds-decimals-count
slice_bounds-decimals-count c =
    let text = after_unit c.as_bytes.result.now c.args.unit c.args.part c.args.places c.requires.unit c.requires.places.1 c.requires.part (c.as_bytes.ensures.value ∙ c.format.ensures.text) in
    omega (arith, text.0)

pub slice_bounds-decimals-start : goal.slice_bounds-decimals-start
slice_bounds-decimals-start c =
    let text = after_unit c.as_bytes.result.now c.args.unit c.args.part c.args.places c.requires.unit c.requires.places.1 c.requires.part (c.as_bytes.ensures.value ∙ c.format.ensures.text) in
    omega (arith, text.0)

pub significant-requires : goal.significant-requires
significant-requires c =
    let text = after_unit c.as_bytes.result.now c.args.unit c.args.part c.args.places c.requires.unit c.requires.places.1 c.requires.part (c.as_bytes.ensures.value ∙ c.format.ensures.text) in
    let some : 0 < length (last_digits c.args.places c.args.part) = omega (arith, length-last_digits c.args.places c.args.part) in
    subst (λ (ds : List ℕ). 0 < length ds) (sym text.1) some

pub returns : goal.returns
returns c =
    let text = after_unit c.as_bytes.result.now c.args.unit c.args.part c.args.places c.requires.unit c.requires.places.1 c.requires.part (c.as_bytes.ensures.value ∙ c.format.ensures.text) in
    let added : OnOk c.extend_from_slice.result (c.extend_from_slice.new.self ≡ c.args.text.now ++ without_zeros (take (length c.as_bytes.result.now - 1) (drop 1 c.as_bytes.result.now))) = search rules in
    subst (λ (ds : List ℕ). OnOk c.extend_from_slice.result (c.extend_from_slice.new.self ≡ c.args.text.now ++ without_zeros ds)) text.1 added

pub returns-then-part-eq0 : goal.returns-then-part-eq0
returns-then-part-eq0 c =
    let none : c.args.part ≡ 0 = omega (arith, c.if-part-eq0.true) in
    let zero = zero_written c.args.places (omega (arith, c.requires.places.0)) in
    rw none (rw zero c.push.ensures.ok)
