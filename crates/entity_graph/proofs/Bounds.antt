-- No row is above a bound where no entry of its table is, and the first row above it is that of the first entry.
use Rattle.std.proofs.Common.{◌≡◌, ℕ, suc, ◌+◌, ◌*◌, ◌/◌, ◌<◌, ◌≤◌, inl, inr, List, get_or, length, min, ap, ◌∙◌, arith}
use Rattle.solid_base.specs.declared.entities.Entity.{Entity}
use Rattle.solid_base.specs.declared.solids.Row.TheVariants as row
use Rattle.solid_base.specs.References.{HasNumber, row_at, references_of, references}
use Rattle.solid_base.specs.Graph.{greatest, row_weight, depth_of, weight_of, most_levels, most_weight}
use Rattle.entity_graph.specs.FirstFaults.{AreShallow, IsFirstRow}
use Rattle.entity_graph.specs.Tables.{entry}
use Rattle.entity_graph.proofs.Numbers.{is_number, number_of}
use Rattle.entity_graph.proofs.Levels.{depth_step, no_levels}

module _ (rows : List Entity) where
  null_depth : (e : ℕ) → row_at rows e ≡ row.Null → depth_of rows e ≡ 1
  unfolding references_of
  null_depth e z =
      let s = depth_step rows e in
      let g : greatest (depth_of rows) (references (row_at rows e)) ≡ 0 = ap (λ r. greatest (depth_of rows) (references r)) z in
      omega arith

  null_weight : AreShallow rows → (e : ℕ) → row_at rows e ≡ row.Null → weight_of rows e ≡ 0
  null_weight shallow e z = (no_levels rows shallow e).weight ∙ ap (row_weight (weight_of rows)) z

  module _ (most : ℕ) (value : ℕ → ℕ) (table : List ℕ) (size : length table ≡ length rows) (null : (e : ℕ) → row_at rows e ≡ row.Null → value e ≤ most)
      (right : (e : ℕ) → HasNumber rows e → entry table e ≡ min (suc most) (value e)) where
    pub none_above : ((i : ℕ) → i < length table → get_or table i 0 ≤ most) → (e : ℕ) → value e ≤ most
    none_above h e = elim (is_number rows e) [
      | inl n ↦ (let r = right e n in let k = n.1 in let b = h (e / 2) (omega arith) in omega arith)
      | inr z ↦ null e z
    ]

    pub first_row_above : (at : ℕ) → at < length table → most < get_or table at 0 → ((i : ℕ) → i < at → get_or table i 0 ≤ most) → IsFirstRow (λ e. most < value e) (2 * at + 1)
    first_row_above at h above below = record {
      holds =
          let r = right (2 * at + 1) (number_of rows at (omega arith)) in
          let q : (2 * at + 1) / 2 ≡ at = omega arith in
          let g : entry table (2 * at + 1) ≡ get_or table at 0 = ap (λ i. get_or table i 0) q in
          omega arith;
      earlier = λ k l a. elim (is_number rows k) [
        | inl n ↦ (let r = right k n in let b = below (k / 2) (omega arith) in omega arith)
        | inr z ↦ (let b = null k z in omega arith)
      ];
    }

    pub entry_value : ((e : ℕ) → value e ≤ most) → (e : ℕ) → HasNumber rows e → entry table e ≡ value e
    entry_value h e n = let r = right e n in let b = h e in omega arith

pub depth_most : (rows : List Entity) (e : ℕ) → depth_of rows e ≤ suc most_levels
depth_most rows e = let s = depth_step rows e in omega arith

pub depth_null : (rows : List Entity) (e : ℕ) → row_at rows e ≡ row.Null → depth_of rows e ≤ most_levels
depth_null rows e z = let n = null_depth rows e z in omega arith

pub weight_null : (rows : List Entity) → AreShallow rows → (e : ℕ) → row_at rows e ≡ row.Null → weight_of rows e ≤ most_weight
weight_null rows shallow e z = let n = null_weight rows shallow e z in omega arith

pub depth_capped : (rows : List Entity) (table : List ℕ) → ((e : ℕ) → HasNumber rows e → entry table e ≡ depth_of rows e) → (e : ℕ) → HasNumber rows e → entry table e ≡ min (suc most_levels) (depth_of rows e)
depth_capped rows table right e n = let r = right e n in let d = depth_most rows e in omega arith
