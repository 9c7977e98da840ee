use Rattle.std.proofs.Common.{◌≡◌, ◌+◌, ◌*◌, ◌/◌, ◌%◌, refl, arith}
use Rattle.solid_top.proofs.laws.row_numbers.Goals as goal

pub returns : goal.returns
returns c rows place =
    let odd : (2 * place + 1) % 2 ≡ 1 = omega arith in
    let half : (2 * place + 1) / 2 ≡ place = omega arith in
    let even : (2 * place) % 2 ≡ 0 = omega arith in
    (rw (odd, half) refl, rw even refl)
