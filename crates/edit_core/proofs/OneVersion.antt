-- The rows after a batch are one list, and its faults on them are one.
use Rattle.std.proofs.Common.{◌≡◌, ◌≢◌, ◌⊎◌, inl, inr, ℕ, zero, suc, ◌+◌, ◌*◌, ◌<◌, ◌/◌, ◌%◌, ◌==◌, Bool, true, false, List, [], ◌∷◌, length, map, Option, Some, slice_get, refl, sym, ap, subst, ◌∙◌, arith}
use Rattle.std.specs.List.{AllByRecursion}
use Rattle.std.proofs.lemmas.Bool.{cases_lt}
use Rattle.std.proofs.lemmas.Option.{slice_get_read}
use Rattle.solid_base.specs.declared.entities.Entity.{Entity}
use Rattle.solid_base.specs.declared.entities.Model.{Model}
use Rattle.solid_base.specs.declared.entities.Token.{Token}
use Rattle.solid_base.specs.declared.references.Reference.{Reference}
use Rattle.solid_base.specs.declared.solids.Row.{Row}
use Rattle.solid_base.specs.declared.solids.Row.TheVariants as row
use Rattle.solid_base.specs.References.{at_number, row_at, row_or_null, references_of, target, Refers}
use Rattle.solid_base.specs.Graph.{AreSound, IsDangling}
use Rattle.iges_parameters.specs.Accepted.{lines_of, most_lines}
use Rattle.iges_parameters.proofs.ItemsSteps.{ok_same}
use Rattle.entity_graph.specs.declared.graph_faults.GraphFault.{GraphFault}
use Rattle.entity_graph.specs.declared.graph_faults.GraphFault.TheVariants as graph
use Rattle.entity_graph.proofs.Outcomes.{one_fault, never_both}
use Rattle.edit_core.specs.declared.changes.Change.{Change}
use Rattle.edit_core.specs.declared.changes.Change.TheVariants as change
use Rattle.edit_core.specs.declared.faults.EditFault.{EditFault}
use Rattle.edit_core.specs.declared.faults.EditFault.TheVariants as fault
use Rattle.edit_core.specs.Batches.{Staged, IsStaged}
use Rattle.edit_core.specs.EditFaults.{of_graph}
use Rattle.edit_core.specs.Edits.{null_entity, most_versions, IsMade, IsPlaced, IsUnused, AreAfter, MayBegin, IsFirstChangeFault, IsFirstInUse, HasGraphFault, IsRefused, IsEdited}
use Rattle.edit_core.specs.Placing.{IsReferenceFault, in_use, broken}
use Rattle.edit_core.proofs.Batches.{test_not}
use Rattle.edit_core.proofs.Placing.{at_odd}
use Rattle.edit_core.proofs.OneOutcome.{first_same, first_change_unique, after_no_fault, in_all}

-- ---- the rows after a batch

entity_same : (e d : Entity) → ◌≡◌ {A = Row × List Token} (e.row, e.tail) (d.row, d.tail) → e.attrs ≡ d.attrs → e ≡ d
entity_same e d parts attrs =
    let first : e ≡ record { row = d.row; attrs = e.attrs; tail = d.tail } = ap (λ (p : Row × List Token). record { row = p.0; attrs = e.attrs; tail = p.1 }) parts in
    let second : ◌≡◌ {A = Entity} (record { row = d.row; attrs = e.attrs; tail = d.tail }) d = ap (λ (a : List ℕ). record { row = d.row; attrs = a; tail = d.tail }) attrs in
    first ∙ second

pub some_same : (x y : Entity) → ◌≡◌ {A = Option Entity} (Some x) (Some y) → x ≡ y
some_same x y h = cc

made_same : (rows : List Entity) (n : ℕ) (c : Change) (e d : Entity) → IsMade rows n c e → IsMade rows n c d → e ≡ d
made_same rows n (change.Replace source) e d a b =
    (let (stands, read, kept) = a in let (stands_too, also, kept_too) = b in
    let (old, at, attrs) = kept in let (other, at_too, attrs_too) = kept_too in
    let same = some_same old other (sym at ∙ at_too) in
    entity_same e d (ok_same (e.row, e.tail) (d.row, d.tail) (sym read ∙ also)) (attrs ∙ ap (λ (x : Entity). x.attrs) same ∙ sym attrs_too))
made_same rows n (change.Add source) e d a b =
    (let (free, may, read, blank) = a in let (free_too, may_too, also, blank_too) = b in
    entity_same e d (ok_same (e.row, e.tail) (d.row, d.tail) (sym read ∙ also)) (blank ∙ sym blank_too))
made_same rows n change.Drop e d a b = (let (stands, null) = a in let (stands_too, null_too) = b in null ∙ sym null_too)

placed_same : (rows x y : List Entity) (batch : List Staged) (n : ℕ) → AllByRecursion (IsPlaced rows x) batch → AllByRecursion (IsPlaced rows y) batch → IsStaged batch n → at_number x n ≡ at_number y n
placed_same rows x y [] n h k staged = absurd staged
placed_same rows x y (s ∷ batch) n h k (inl is) =
    (let (e, at, made) = h.0 in let (d, at_too, made_too) = k.0 in
    subst (λ (m : ℕ). at_number x m ≡ at_number y m) is (at ∙ ap (λ (z : Entity). Some z) (made_same rows s.0 s.1 e d made made_too) ∙ sym at_too))
placed_same rows x y (s ∷ batch) n h k (inr staged) = placed_same rows x y batch n h.1 k.1 staged

pub staged_or_not : (batch : List Staged) (n : ℕ) → IsStaged batch n ⊎ (¬ IsStaged batch n)
staged_or_not [] n = inr (λ h. h)
staged_or_not (s ∷ batch) n = go (s.0 == n) refl (staged_or_not batch n) where
  go : (b : Bool) → (s.0 == n) ≡ b → (IsStaged batch n ⊎ (¬ IsStaged batch n)) → IsStaged (s ∷ batch) n ⊎ (¬ IsStaged (s ∷ batch) n)
  go true is again = inl (inl (grind (arith, is)))
  go false is (inl k) = inl (inr k)
  go false is (inr none) = inr (λ h. elim h [ inl e ↦ test_not s.0 n is e | inr k ↦ none k ])

same_list : (xs ys : List Entity) → length xs ≡ length ys → ((i : ℕ) → i < length xs → slice_get xs i ≡ slice_get ys i) → xs ≡ ys
same_list [] [] e h = refl
same_list [] (y ∷ ys) e h = absurd (omega (arith, e))
same_list (x ∷ xs) [] e h = absurd (omega (arith, e))
same_list (x ∷ xs) (y ∷ ys) e h =
    let head = some_same x y (h 0 (omega arith)) in
    let tail = same_list xs ys (omega (arith, e)) (λ i l. h (suc i) (omega (arith, l))) in
    ap (λ (z : Entity). z ∷ xs) head ∙ ap (λ (zs : List Entity). y ∷ zs) tail

pub after_unique : (rows : List Entity) (batch : List Staged) (x y : List Entity) → AreAfter rows batch x → AreAfter rows batch y → x ≡ y
after_unique rows batch x y h k = same_list x y (h.size ∙ sym k.size) (λ i l.
    let n = 2 * i + 1 in
    let odd : n % 2 ≡ 1 = omega arith in
    let half : n / 2 ≡ i = omega arith in
    let within : n / 2 < length x = omega (arith, half, l) in
    let too : n / 2 < length y = omega (arith, within, h.size, k.size) in
    let at : at_number x n ≡ at_number y n = elim (staged_or_not batch n) [
      | inl staged ↦ placed_same rows x y batch n h.changed k.changed staged
      | inr none ↦ h.kept n (odd, within) none ∙ sym (k.kept n (odd, too) none)
    ] in
    sym (at_odd x n odd ∙ ap (slice_get x) half) ∙ at ∙ at_odd y n odd ∙ ap (slice_get y) half)

-- ---- the model after a batch

pub with_rows : (m a : Model) → a.start ≡ m.start → a.comma ≡ m.comma → a.semi ≡ m.semi → a.global ≡ m.global
    → ◌≡◌ {A = Model} a (record { start = m.start; comma = m.comma; semi = m.semi; global = m.global; rows = a.rows })
with_rows m a start comma semi global =
    let one : ◌≡◌ {A = Model} a (record { start = m.start; comma = a.comma; semi = a.semi; global = a.global; rows = a.rows }) = ap (λ x. record { start = x; comma = a.comma; semi = a.semi; global = a.global; rows = a.rows }) start in
    let two : ◌≡◌ {A = Model} (record { start = m.start; comma = a.comma; semi = a.semi; global = a.global; rows = a.rows }) (record { start = m.start; comma = m.comma; semi = a.semi; global = a.global; rows = a.rows }) = ap (λ x. record { start = m.start; comma = x; semi = a.semi; global = a.global; rows = a.rows }) comma in
    let three : ◌≡◌ {A = Model} (record { start = m.start; comma = m.comma; semi = a.semi; global = a.global; rows = a.rows }) (record { start = m.start; comma = m.comma; semi = m.semi; global = a.global; rows = a.rows }) = ap (λ x. record { start = m.start; comma = m.comma; semi = x; global = a.global; rows = a.rows }) semi in
    let four : ◌≡◌ {A = Model} (record { start = m.start; comma = m.comma; semi = m.semi; global = a.global; rows = a.rows }) (record { start = m.start; comma = m.comma; semi = m.semi; global = m.global; rows = a.rows }) = ap (λ x. record { start = m.start; comma = m.comma; semi = m.semi; global = x; rows = a.rows }) global in
    one ∙ two ∙ three ∙ four

pub model_unique : (m : Model) (v : ℕ) (batch : List Staged) (a b : Model) → IsEdited m v batch a → IsEdited m v batch b → a ≡ b
model_unique m v batch a b h k =
    let rows = after_unique m.rows batch a.rows b.rows h.rows k.rows in
    with_rows m a h.start h.comma h.semi h.global
    ∙ ap (λ (x : List Entity). record { start = m.start; comma = m.comma; semi = m.semi; global = m.global; rows = x }) rows
    ∙ sym (with_rows m b k.start k.comma k.semi k.global)

-- ---- faults of the rows after a batch

no_least : (after : List Entity) (batch : List Staged) (de by : ℕ) → IsFirstInUse batch after de by → ¬ IsUnused after (de, change.Drop)
no_least after batch de by h unused = unused by h.names

least_same : (after : List Entity) (n a b : ℕ) → Refers after a n → ((e : ℕ) → e < a → ¬ Refers after e n) → Refers after b n → ((e : ℕ) → e < b → ¬ Refers after e n) → a ≡ b
least_same after n a b h least k other = elim (cases_lt a b) [
  | inl l ↦ absurd (other a l h)
  | inr g ↦ elim (cases_lt b a) [ inl l ↦ absurd (least b l k) | inr f ↦ omega (arith, g, f) ]
]

use_unique : (after : List Entity) (batch : List Staged) (de by d b : ℕ) → IsFirstInUse batch after de by → IsFirstInUse batch after d b → fault.InUse de by ≡ fault.InUse d b
use_unique after batch de by d b h k =
    let same = first_same (IsUnused after) h.front k.front (de, change.Drop) (d, change.Drop) h.rest k.rest (sym h.stands ∙ k.stands) h.before k.before (no_least after batch de by h) (no_least after batch d b k) in
    let number : de ≡ d = ap (λ (s : Staged). s.0) same in
    let names = subst (λ (n : ℕ). Refers after by n) number h.names in
    let least = subst (λ (n : ℕ). (e : ℕ) → e < by → ¬ Refers after e n) number h.least in
    ap (λ (n : ℕ). fault.InUse n by) number ∙ ap (λ (n : ℕ). fault.InUse d n) (least_same after d by b names least k.names k.least)

use_not_unused : (after : List Entity) (batch : List Staged) (de by : ℕ) → IsFirstInUse batch after de by → ¬ AllByRecursion (IsUnused after) batch
use_not_unused after batch de by h all = no_least after batch de by h (in_all (IsUnused after) h.front (de, change.Drop) h.rest (subst (AllByRecursion (IsUnused after)) h.stands all))

-- what is dropped isn't named where the references obey the rules
target_present : (rows : List Entity) (rs : List Reference) (n k : ℕ) → AllByRecursion (λ r. ¬ IsDangling rows r) rs → slice_get (map target rs) k ≡ Some n → ¬ (row_at rows n ≡ row.Null)
target_present rows [] n k all is = cc
target_present rows (r ∷ rs) n zero all is = λ null. let same : target r ≡ n = cc in all.0 (subst (λ (m : ℕ). row_at rows m ≡ row.Null) (sym same) null)
target_present rows (r ∷ rs) n (suc k) all is = target_present rows rs n k all.1 is

dropped_null : (after : List Entity) (n : ℕ) → at_number after n ≡ Some null_entity → row_at after n ≡ row.Null
unfolding row_at null_entity
dropped_null after n is = ap row_or_null is

sound_not_used : (rows after : List Entity) (batch : List Staged) (de by : ℕ) → AreAfter rows batch after → AreSound after → IsFirstInUse batch after de by → ⊥
sound_not_used rows after batch de by h sound u =
    let (e, at, made) = in_all (IsPlaced rows after) u.front (de, change.Drop) u.rest (subst (AllByRecursion (IsPlaced rows after)) u.stands h.changed) in
    let (stands, null) = made in
    let (k, lt, is) = u.names in
    let names = map target (references_of (row_at after by)) in
    target_present after (references_of (row_at after by)) de k (sound.present by) (slice_get_read names (length names) k de refl lt (sym is)) (dropped_null after de (at ∙ ap (λ (x : Entity). Some x) null))

-- ---- all faults, stage by stage

data AfterFault (m : Model) (batch : List Staged) (after : List Entity) (f : EditFault) : Type 0 where
  of_references : IsReferenceFault batch after f → AfterFault m batch after f
  of_lines : f ≡ fault.TooManyLines → AreSound after → most_lines < lines_of m.comma m.semi after → AfterFault m batch after f

after_fault_unique : (m : Model) (batch : List Staged) (after : List Entity) (f g : EditFault) → AreAfter m.rows batch after → AfterFault m batch after f → AfterFault m batch after g → f ≡ g
after_fault_unique m batch after f g h (of_references (in_use de by is u)) (of_references (in_use d b also w)) = is ∙ use_unique after batch de by d b u w ∙ sym also
after_fault_unique m batch after f g h (of_references (in_use de by is u)) (of_references (broken x also unused first)) = absurd (use_not_unused after batch de by u unused)
after_fault_unique m batch after f g h (of_references (in_use de by is u)) (of_lines also sound many) = absurd (sound_not_used m.rows after batch de by h sound u)
after_fault_unique m batch after f g h (of_references (broken x is unused first)) (of_references (in_use d b also w)) = absurd (use_not_unused after batch d b w unused)
after_fault_unique m batch after f g h (of_references (broken x is unused first)) (of_references (broken y also unused_too second)) = is ∙ ap of_graph (one_fault after x y first second) ∙ sym also
after_fault_unique m batch after f g h (of_references (broken x is unused first)) (of_lines also sound many) = absurd (never_both after x first sound)
after_fault_unique m batch after f g h (of_lines is sound many) (of_references (in_use d b also w)) = absurd (sound_not_used m.rows after batch d b h sound w)
after_fault_unique m batch after f g h (of_lines is sound many) (of_references (broken y also unused second)) = absurd (never_both after y second sound)
after_fault_unique m batch after f g h (of_lines is sound many) (of_lines also sound_too many_too) = is ∙ sym also

data Stage (m : Model) (v : ℕ) (batch : List Staged) (f : EditFault) : Type 0 where
  at_empty : batch ≡ [] → f ≡ fault.EmptyBatch → Stage m v batch f
  at_full : batch ≢ [] → v ≡ most_versions → f ≡ fault.Full → Stage m v batch f
  at_change : MayBegin v batch → IsFirstChangeFault m.rows batch f → Stage m v batch f
  at_after : (after : List Entity) → MayBegin v batch → AreAfter m.rows batch after → AfterFault m batch after f → Stage m v batch f

at_graph : (m : Model) (v : ℕ) (batch : List Staged) (g : GraphFault) → HasGraphFault m.rows v batch g → Stage m v batch (of_graph g)
at_graph m v batch g h = at_after h.after h.may h.rows_after (of_references (broken g refl h.unused h.first))

stage_of : (m : Model) (v : ℕ) (batch : List Staged) (f : EditFault) → IsRefused m v batch f → Stage m v batch f
stage_of m v batch (fault.Memory e) h = absurd h
stage_of m v batch fault.EmptyBatch h = at_empty h refl
stage_of m v batch fault.Full h = at_full h.0 h.1 refl
stage_of m v batch (fault.NoEntity de) h = at_change h.may h.first
stage_of m v batch (fault.Taken de) h = at_change h.may h.first
stage_of m v batch (fault.BadNumber de) h = at_change h.may h.first
stage_of m v batch (fault.BadRecord de f) h = at_change h.may h.first
stage_of m v batch (fault.InUse de by) h = at_after h.after h.may h.rows_after (of_references (in_use de by refl h.first))
stage_of m v batch (fault.Dangling de to) h = at_graph m v batch (graph.Dangling de to) h
stage_of m v batch (fault.WrongTarget de to) h = at_graph m v batch (graph.WrongTarget de to) h
stage_of m v batch (fault.Cycle de) h = at_graph m v batch (graph.Cycle de) h
stage_of m v batch (fault.TooDeep de) h = at_graph m v batch (graph.TooDeep de) h
stage_of m v batch (fault.TooHeavy de) h = at_graph m v batch (graph.TooHeavy de) h
stage_of m v batch fault.TooManyLines h = at_after h.after h.may h.rows_after (of_lines refl h.sound h.many)

stage_unique : (m : Model) (v : ℕ) (batch : List Staged) (f g : EditFault) → Stage m v batch f → Stage m v batch g → f ≡ g
stage_unique m v batch f g (at_empty none is) (at_empty also is_too) = is ∙ sym is_too
stage_unique m v batch f g (at_empty none is) (at_full some full is_too) = absurd (some none)
stage_unique m v batch f g (at_empty none is) (at_change may first) = absurd (may.some none)
stage_unique m v batch f g (at_empty none is) (at_after x may h a) = absurd (may.some none)
stage_unique m v batch f g (at_full some full is) (at_empty none is_too) = absurd (some none)
stage_unique m v batch f g (at_full some full is) (at_full also too is_too) = is ∙ sym is_too
stage_unique m v batch f g (at_full some full is) (at_change may first) = absurd (may.below full)
stage_unique m v batch f g (at_full some full is) (at_after x may h a) = absurd (may.below full)
stage_unique m v batch f g (at_change may first) (at_empty none is) = absurd (may.some none)
stage_unique m v batch f g (at_change may first) (at_full some full is) = absurd (may.below full)
stage_unique m v batch f g (at_change may first) (at_change may_too second) = first_change_unique m.rows batch f g first second
stage_unique m v batch f g (at_change may first) (at_after x may_too h a) = absurd (after_no_fault m.rows x batch f h first)
stage_unique m v batch f g (at_after x may h a) (at_empty none is) = absurd (may.some none)
stage_unique m v batch f g (at_after x may h a) (at_full some full is) = absurd (may.below full)
stage_unique m v batch f g (at_after x may h a) (at_change may_too first) = absurd (after_no_fault m.rows x batch g h first)
stage_unique m v batch f g (at_after x may h a) (at_after y may_too k b) =
    let same = after_unique m.rows batch x y h k in
    after_fault_unique m batch y f g k (subst (λ (z : List Entity). AfterFault m batch z f) same a) b

pub fault_unique : (m : Model) (v : ℕ) (batch : List Staged) (f g : EditFault) → IsRefused m v batch f → IsRefused m v batch g → f ≡ g
fault_unique m v batch f g h k = stage_unique m v batch f g (stage_of m v batch f h) (stage_of m v batch g k)

stage_not_edited : (m : Model) (v : ℕ) (batch : List Staged) (f : EditFault) (a : Model) → Stage m v batch f → ¬ IsEdited m v batch a
stage_not_edited m v batch f a (at_empty none is) e = e.may.some none
stage_not_edited m v batch f a (at_full some full is) e = e.may.below full
stage_not_edited m v batch f a (at_change may first) e = after_no_fault m.rows a.rows batch f e.rows first
stage_not_edited m v batch f a (at_after x may h w) e = go (subst (λ (z : List Entity). AfterFault m batch z f) (after_unique m.rows batch x a.rows h e.rows) w) where
  go : AfterFault m batch a.rows f → ⊥
  go (of_references (in_use de by is u)) = sound_not_used m.rows a.rows batch de by e.rows e.sound u
  go (of_references (broken g is unused first)) = never_both a.rows g first e.sound
  go (of_lines is sound many) = let few = e.few in omega (arith, many, few)

pub refused_not_edited : (m : Model) (v : ℕ) (batch : List Staged) (f : EditFault) (a : Model) → IsRefused m v batch f → ¬ IsEdited m v batch a
refused_not_edited m v batch f a h = stage_not_edited m v batch f a (stage_of m v batch f h)
