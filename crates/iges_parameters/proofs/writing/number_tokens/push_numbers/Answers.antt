use Rattle.std.proofs.Common.{rules, arith, ◌≡◌, pos, length, get_or, ◌∙◌, sym, ap, ℤ, to_z, of_z}
use Rattle.std.specs.Int.{w128}
use Rattle.iges_parameters.proofs.Nearness.{IsNear, stored}
use Rattle.iges_parameters.proofs.Pushed.{all_at, pushed_number, numbers_none}
use Rattle.iges_parameters.proofs.writing.number_tokens.push_numbers.Goals as goal

pub loop-at-preserved : goal.loop-at-preserved
loop-at-preserved g c =
    let with = g.S.TokenSink.with in
    let rs = c.args.table.now.rules in
    let ns = c.args.numbers.now in
    let at = c.loop-at.at in
    let room : length rs ≡ g.row.N = search rules in
    let long : length ns ≡ g.row.N = search rules in
    let n : ℤ = get_or ns at (pos 0) in
    let near : IsNear n = all_at IsNear ns at (pos 0) (omega (arith, long, c.loop-at-test.true)) c.requires.near in
    let same : to_z w128 (of_z w128 n) ≡ n = stored n near in
    let is = rw same at c.in_ok-push_number.ensures in
    pushed_number with c.loop-at.tokens c.push_number.new.tokens rs ns at _ (pos 0) _ g.met.S.TokenSink.with_more (omega (arith, room, c.loop-at-test.true)) (omega (arith, long, c.loop-at-test.true)) is c.loop-at.invariant

pub returns : goal.returns
returns g c =
    let with = g.S.TokenSink.with in
    let rs = c.args.table.now.rules in
    let room : length rs ≡ g.row.N = search rules in
    sym (g.met.S.TokenSink.with_none c.loop-at.tokens) ∙ ap (with c.loop-at.tokens) (sym (numbers_none rs c.args.numbers.now c.loop-at.at (omega (arith, room, c.loop-at-test.false)))) ∙ c.loop-at.invariant
