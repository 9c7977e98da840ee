use Rattle.std.proofs.Common.{◌≡◌, ◌∙◌, ◌+◌, ◌*◌, ◌/◌, ◌++◌, ℕ, List, [], ◌∷◌, inl, inr, length, sym, subst, arith, length-append}
use Rattle.std.specs.List.{Contains}
use Rattle.std.proofs.lemmas.Bool.{cases_lt}
use Rattle.std.proofs.lemmas.List.{get_or_append_left}
use Rattle.std.proofs.Math.Seq.{get_or-append_seam}
use Rattle.entity_graph.proofs.graph_tests.numbers.Goals as goal

before : (ns : List ℕ) (n k : ℕ) → Contains ns k → Contains (ns ++ n ∷ []) k
before ns n k c = let l = c.1 in let s = length-append ns (n ∷ []) in (c.0, omega arith, get_or_append_left ns (n ∷ []) k c.0 c.1 ∙ c.2)

last : (ns : List ℕ) (n : ℕ) → Contains (ns ++ n ∷ []) n
last ns n = let s = length-append ns (n ∷ []) in (length ns, omega arith, get_or-append_seam ns n [] n)

pub loop-place-preserved : goal.loop-place-preserved
loop-place-preserved c i l =
    let n = 2 * c.loop-place.place + 1 in
    subst (λ (ns : List ℕ). Contains ns (2 * i + 1)) (sym c.in_ok-push.ensures.ok) (elim (cases_lt i c.loop-place.place) [
      | inl b ↦ before c.loop-place.numbers n (2 * i + 1) (c.loop-place.invariant i b)
      | inr g ↦ (let q : i ≡ c.loop-place.place = omega arith in subst (λ k. Contains (c.loop-place.numbers ++ n ∷ []) (2 * k + 1)) (sym q) (last c.loop-place.numbers n))
    ])

pub returns : goal.returns
returns c e h =
    let f = c.loop-place-test.false in
    let s = c.len-place-end.ensures in
    let a = h.0 in
    let b = h.1 in
    let is : 2 * (e / 2) + 1 ≡ e = omega arith in
    subst (Contains c.loop-place.numbers) is (c.loop-place.invariant (e / 2) (omega arith))
