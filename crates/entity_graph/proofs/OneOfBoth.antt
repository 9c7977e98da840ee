-- The references of rows obey the rules, or have a first fault.
use Rattle.std.proofs.Common.{◌⊎◌, inl, inr, ℕ, ◌<◌, ◌≤◌, List, refl, arith}
use Rattle.std.proofs.lemmas.Bool.{cases_lt}
use Rattle.solid_base.specs.declared.entities.Entity.{Entity}
use Rattle.solid_base.specs.declared.references.Reference.{Reference}
use Rattle.solid_base.specs.References.{target, references_of, row_at}
use Rattle.solid_base.specs.Graph.{IsDangling, IsMisdirected, ReachesCycle, depth_of, depth_within, most_levels, weight_of, weight_within, most_weight, AreSound}
use Rattle.entity_graph.specs.declared.graph_faults.GraphFault.{GraphFault}
use Rattle.entity_graph.specs.declared.graph_faults.GraphFault.TheVariants as fault
use Rattle.entity_graph.specs.FirstFaults.{HasNo, ArePresent, AreDirected, AreAcyclic, AreShallow, IsFirst, IsFirstRow, IsFault}
use Rattle.entity_graph.proofs.Decided.{Decided, turned, FirstItem, first_item, first_or_ever}
use Rattle.entity_graph.proofs.RowsDecided.{bound, row_past, no_references, refers_nowhere, dangling_decided, misdirected_decided}
use Rattle.entity_graph.proofs.Leading.{reaches_leads, cycle_decided}

-- ---- the first reference and the first row

-- no reference of any row is bad, or there is a first bad one
pub first_reference : (bad : Reference → Type 0) → ((r : Reference) → Decided (bad r)) → (rows : List Entity)
    → ((e : ℕ) → HasNo bad rows e) ⊎ ((e : ℕ) × (to : ℕ) × IsFirst bad rows e to)
first_reference bad decide rows =
    go (first_or_ever (HasNo bad rows) Stands (λ e. first_item bad decide (references_of (row_at rows e))) (bound rows) (λ e past. rw (no_references rows e past) tt)) where
      Stands : ℕ → Type 0
      Stands e = FirstItem bad (references_of (row_at rows e))

      go : ((e : ℕ) → HasNo bad rows e) ⊎ ((e : ℕ) × Stands e × ((k : ℕ) → k < e → HasNo bad rows k)) → ((e : ℕ) → HasNo bad rows e) ⊎ ((e : ℕ) × (to : ℕ) × IsFirst bad rows e to)
      go (inl none) = inl none
      go (inr f) = inr (f.0, target f.1.named, record { earlier = f.2; front = f.1.front; named = f.1.named; rest = f.1.rest; stands = f.1.stands; before = f.1.before; holds = f.1.holds; names = refl })

-- no row is bad, or there is a first bad one, where no number past the rows is bad
pub first_row : (Good Bad : ℕ → Type 0) → ((e : ℕ) → Good e ⊎ Bad e) → ((e : ℕ) → Good e → ¬ Bad e) → (rows : List Entity) → ((e : ℕ) → bound rows ≤ e → Good e)
    → ((e : ℕ) → Good e) ⊎ ((e : ℕ) × IsFirstRow Bad e)
first_row Good Bad decide apart rows past = go (first_or_ever Good Bad decide (bound rows) past) where
  go : ((e : ℕ) → Good e) ⊎ ((e : ℕ) × Bad e × ((k : ℕ) → k < e → Good k)) → ((e : ℕ) → Good e) ⊎ ((e : ℕ) × IsFirstRow Bad e)
  go (inl all) = inl all
  go (inr f) = inr (f.0, record { holds = f.1; earlier = λ k below. apart k (f.2 k below) })

-- no number is above a bound, or there is a first that is
first_above : (f : ℕ → ℕ) (most : ℕ) (rows : List Entity) → ((e : ℕ) → bound rows ≤ e → f e ≤ most) → ((e : ℕ) → f e ≤ most) ⊎ ((e : ℕ) × IsFirstRow (λ e. most < f e) e)
first_above f most rows past = first_row (λ e. f e ≤ most) (λ e. most < f e) (λ e. turned (most < f e) (f e ≤ most) (cases_lt most (f e))) (λ e low high. omega (arith, low, high)) rows past

-- ---- past the rows

no_cycle : (rows : List Entity) (e : ℕ) → bound rows ≤ e → ¬ ReachesCycle rows e
no_cycle rows e past w =
    let l = reaches_leads rows e w.on w.on w.reached (record { next = w.next; refers = w.refers; reaches = w.back }) in
    refers_nowhere rows e l.next past l.refers

depth_past : (rows : List Entity) (e : ℕ) → bound rows ≤ e → depth_of rows e ≤ most_levels
unfolding depth_of depth_within references_of
depth_past rows e past = rw (row_past rows e past) (omega arith)

weight_past : (rows : List Entity) (e : ℕ) → bound rows ≤ e → weight_of rows e ≤ most_weight
unfolding weight_of weight_within
weight_past rows e past = rw (row_past rows e past) (omega arith)

-- ---- kind by kind

abbrev Outcome : List Entity → Type 0
Outcome rows = AreSound rows ⊎ ((f : GraphFault) × IsFault rows f)

heavy : (rows : List Entity) → ArePresent rows → AreDirected rows → AreAcyclic rows → AreShallow rows → ((e : ℕ) → weight_of rows e ≤ most_weight) ⊎ ((e : ℕ) × IsFirstRow (λ e. most_weight < weight_of rows e) e) → Outcome rows
heavy rows present directed acyclic shallow (inl light) = inl (record { present = present; directed = directed; acyclic = acyclic; shallow = shallow; light = light })
heavy rows present directed acyclic shallow (inr f) = inr (fault.TooHeavy f.0, (present, directed, acyclic, shallow, f.1))

deep : (rows : List Entity) → ArePresent rows → AreDirected rows → AreAcyclic rows → AreShallow rows ⊎ ((e : ℕ) × IsFirstRow (λ e. most_levels < depth_of rows e) e) → Outcome rows
deep rows present directed acyclic (inl shallow) = heavy rows present directed acyclic shallow (first_above (weight_of rows) most_weight rows (weight_past rows))
deep rows present directed acyclic (inr f) = inr (fault.TooDeep f.0, (present, directed, acyclic, f.1))

cyclic : (rows : List Entity) → ArePresent rows → AreDirected rows → AreAcyclic rows ⊎ ((e : ℕ) × IsFirstRow (ReachesCycle rows) e) → Outcome rows
cyclic rows present directed (inl acyclic) = deep rows present directed acyclic (first_above (depth_of rows) most_levels rows (depth_past rows))
cyclic rows present directed (inr f) = inr (fault.Cycle f.0, (present, directed, f.1))

first_cycle : (rows : List Entity) → AreAcyclic rows ⊎ ((e : ℕ) × IsFirstRow (ReachesCycle rows) e)
first_cycle rows = first_row (λ e. ¬ ReachesCycle rows e) (ReachesCycle rows) (λ e. turned (ReachesCycle rows e) (¬ ReachesCycle rows e) (cycle_decided rows e)) (λ e none. none) rows (no_cycle rows)

misdirected : (rows : List Entity) → ArePresent rows → AreDirected rows ⊎ ((e : ℕ) × (to : ℕ) × IsFirst (IsMisdirected rows) rows e to) → Outcome rows
misdirected rows present (inl directed) = cyclic rows present directed (first_cycle rows)
misdirected rows present (inr f) = inr (fault.WrongTarget f.0 f.1, (present, f.2))

dangling : (rows : List Entity) → ArePresent rows ⊎ ((e : ℕ) × (to : ℕ) × IsFirst (IsDangling rows) rows e to) → Outcome rows
dangling rows (inl present) = misdirected rows present (first_reference (IsMisdirected rows) (misdirected_decided rows) rows)
dangling rows (inr f) = inr (fault.Dangling f.0 f.1, f.2)

-- the references of rows obey the rules, or have a first fault
pub one_of_both : (rows : List Entity) → AreSound rows ⊎ ((f : GraphFault) × IsFault rows f)
one_of_both rows = dangling rows (first_reference (IsDangling rows) (dangling_decided rows) rows)
