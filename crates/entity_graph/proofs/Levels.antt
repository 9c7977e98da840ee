-- Depths and weights in which levels are counted.
use Rattle.std.proofs.Common.{◌≡◌, ℕ, zero, suc, ◌<◌, ◌≤◌, List, min, arith}
use Rattle.solid_base.specs.declared.entities.Entity.{Entity}
use Rattle.solid_base.specs.References.{references, row_at, Refers}
use Rattle.solid_base.specs.Graph.{greatest, row_weight, depth_within, depth_of, weight_within, weight_of, most_levels}
use Rattle.entity_graph.specs.FirstFaults.{AreShallow}
use Rattle.entity_graph.specs.Levels.{HasNoLevels}
use Rattle.entity_graph.proofs.Sums.{greatest_has, greatest_same, greatest_min, weight_same}

module _ (rows : List Entity) where
  -- fewer levels cut the depth off
  fewer : (n m e : ℕ) → n ≤ m → min n (depth_within m rows e) ≡ depth_within n rows e
  unfolding depth_within
  fewer zero m e h = omega arith
  fewer (suc n) zero e h = absurd (omega arith)
  fewer (suc n) (suc m) e h =
      let refs = references (row_at rows e) in
      let a = greatest_min n (depth_within m rows) refs in
      let b = greatest_same (λ c. min n (depth_within m rows c)) (depth_within n rows) refs (λ c i. fewer n m c (omega arith)) in
      omega arith

  one_level : (n e : ℕ) → depth_within (suc n) rows e ≡ min (suc n) (suc (greatest (depth_within (suc n) rows) (references (row_at rows e))))
  unfolding depth_within
  one_level n e =
      let refs = references (row_at rows e) in
      let a = greatest_min n (depth_within (suc n) rows) refs in
      let b = greatest_same (λ c. min n (depth_within (suc n) rows c)) (depth_within n rows) refs (λ c i. fewer n (suc n) c (omega arith)) in
      omega arith

  -- the depth is one level more than those below, but cut off after the most that may be
  pub depth_step : (e : ℕ) → depth_of rows e ≡ min (suc most_levels) (suc (greatest (depth_of rows) (references (row_at rows e))))
  unfolding depth_of
  depth_step e = one_level most_levels e

  module _ (shallow : AreShallow rows) where
    depth_is : (e : ℕ) → depth_of rows e ≡ suc (greatest (depth_of rows) (references (row_at rows e)))
    depth_is e = let a = depth_step e in let b = shallow e in omega arith

    falls : (e c : ℕ) → Refers rows e c → depth_of rows c < depth_of rows e
    falls e c r = let a = depth_is e in let b = greatest_has (depth_of rows) (references (row_at rows e)) c r in omega arith

    more_levels : (n m e : ℕ) → depth_of rows e ≤ n → depth_of rows e ≤ m → weight_within n rows e ≡ weight_within m rows e
    unfolding weight_within
    more_levels zero m e h k = absurd (let a = depth_is e in omega arith)
    more_levels (suc n) zero e h k = absurd (let a = depth_is e in omega arith)
    more_levels (suc n) (suc m) e h k = weight_same (weight_within n rows) (weight_within m rows) (row_at rows e) (λ c i. let f = falls e c i in more_levels n m c (omega arith) (omega arith))

    level_more : (n e : ℕ) → depth_of rows e ≤ n → weight_within n rows e ≡ row_weight (weight_within n rows) (row_at rows e)
    unfolding weight_within
    level_more n e h = more_levels n (suc n) e h (omega arith)

    weight_is : (e : ℕ) → weight_of rows e ≡ row_weight (weight_of rows) (row_at rows e)
    unfolding weight_of
    weight_is e = level_more most_levels e (shallow e)

    pub no_levels : (e : ℕ) → HasNoLevels rows e
    no_levels e = record { depth = depth_is e; weight = weight_is e; falls = falls e }
