use Rattle.std.proofs.Common.{◌≡◌, ◌∙◌, ◌==◌, ◌||◌, ◌+◌, ◌*◌, ◌<◌, ap, ℕ, length, Bool, List, get_or, false, arith}
use Rattle.std.specs.List.{list_any}
use Rattle.solid_base.proofs.Slices.{written_back}
use Rattle.solid_top.proofs.RootLaws.{named_step}
use Rattle.solid_top.proofs.roots.named_places.Goals as goal

pub loop-at-preserved : goal.loop-at-preserved
loop-at-preserved c =
    let items = c.loop-at.named.items in
    let value = c.deref_mut.ensures.value in
    let numbers = c.as_slice.ensures ∙ c.in_ok-numbers.ensures in
    let same : length c.mark.new.named ≡ length items = c.mark.ensures.length ∙ ap (λ (xs : List Bool). length xs) value in
    let back = written_back c.mark.new.named items c.loop-at.named.len same c.loop-at.named.ok.0 in
    record {
      size = ap (λ (xs : List Bool). length xs) back ∙ same ∙ c.loop-at.invariant.size;
      named = λ i within. (let inside : i < length c.deref_mut.result.now = omega (arith, within, c.loop-at.invariant.size, ap (λ (xs : List Bool). length xs) value) in
          let marked = c.mark.ensures.marks i inside
          ∙ ap (λ (xs : List Bool). get_or xs i false || list_any (λ n. n == 2 * i + 1) c.as_slice.result.now) value
          ∙ ap (λ (ns : List ℕ). get_or items i false || list_any (λ n. n == 2 * i + 1) ns) numbers in
          ap (λ (xs : List Bool). get_or xs i false) back ∙ named_step c.args.rows.now c.loop-at.at i c.get.result.now (get_or items i false) (get_or c.mark.new.named i false) c.get.ensures (c.loop-at.invariant.named i within) marked);
    }
