use Rattle.std.proofs.Common.{◌≡◌, ◌++◌, ◌+◌, [], ◌∷◌, ℕ, List, map, sym, ap, ◌∙◌, arith, subst, rules}
use Rattle.std.specs.List.{range_with_len}
use Rattle.std.proofs.lemmas.List.FromFn.{map-range_with_len_more}
use Rattle.solid_base.specs.declared.entities.Entity.{Entity}
use Rattle.solid_top.specs.LoadInput.{plain, sphere, load_rows, union_row}
use Rattle.solid_top.proofs.generated.load_rows.Goals as goal

pub loop-place-preserved : goal.loop-place-preserved
loop-place-preserved c =
    let i = c.loop-place.place in
    let f : ℕ → Entity = λ (place : ℕ). plain (sphere place) in
    let first : 0 + i ≡ i = omega arith in
    let more = map-range_with_len_more f 0 i i first in
    let old : c.loop-place.rows ≡ map f (range_with_len 0 i) = c.loop-place.invariant in
    let pushed : c.push.new.self ≡ c.loop-place.rows ++ f i ∷ [] = search rules in
    pushed ∙ ap (λ (l : List Entity). l ++ f i ∷ []) old ∙ sym more

pub returns : goal.returns
unfolding load_rows
returns c =
    let f : ℕ → Entity = λ (place : ℕ). plain (sphere place) in
    let size : c.loop-place.place ≡ c.args.n = omega (arith, c.loop-place-test.false, c.loop-place.auto.place-end) in
    let old : c.loop-place.rows ≡ map f (range_with_len 0 c.args.n) = subst (λ (k : ℕ). c.loop-place.rows ≡ map f (range_with_len 0 k)) size c.loop-place.invariant in
    let pushed : c.push-2.new.self ≡ c.loop-place.rows ++ plain (union_row c.args.n) ∷ [] = search rules in
    pushed ∙ ap (λ (l : List Entity). l ++ plain (union_row c.args.n) ∷ []) old
