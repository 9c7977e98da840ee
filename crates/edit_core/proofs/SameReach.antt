-- Where an entity has the same stamp in two versions, it reaches the same rows in both.
use Rattle.std.proofs.Common.{◌≡◌, inl, inr, ℕ, suc, List, [], ◌∷◌, length, map, Option, Some, None, Contains, refl, sym, ap, subst, ◌∙◌, arith}
use Rattle.std.proofs.lemmas.List.Elements.{Contains-append_left, Contains-append_right}
use Rattle.solid_base.specs.declared.entities.Entity.{Entity}
use Rattle.solid_base.specs.declared.entities.Model.{Model}
use Rattle.solid_base.specs.declared.solids.Row.{Row}
use Rattle.solid_base.specs.References.{at_number, row_at, row_or_null, HasNumber, references, Refers, Reaches, here, further}
use Rattle.entity_graph.proofs.Numbers.{is_number}
use Rattle.edit_core.specs.Batches.{Staged, IsStaged}
use Rattle.edit_core.specs.Edits.{null_entity, kept_or_null, AreAfter}
use Rattle.edit_core.specs.Versions.{changed_numbers, LogEntry, IsVersion, IsStampIn, first_stamp, new_stamp, kept_stamp, ReachesSame}
use Rattle.edit_core.proofs.Logs.{version_unique, version_below, step_edited}
use Rattle.edit_core.proofs.RowsAfter.{size_least}
use Rattle.edit_core.proofs.StampsOfLogs.{stamp_within}

-- ---- rows that an edit doesn't change

staged_listed : (batch : List Staged) (n : ℕ) → IsStaged batch n → Contains (map (λ (s : Staged). s.0) batch) n
staged_listed [] n h = absurd h
staged_listed (s ∷ batch) n (inl same) = (0, omega arith, same)
staged_listed (s ∷ batch) n (inr more) = Contains-append_right (s.0 ∷ []) (map (λ (s : Staged). s.0) batch) n (staged_listed batch n more)

staged_changed : (batch : List Staged) (before after n : ℕ) → IsStaged batch n → Contains (changed_numbers batch before after) n
unfolding changed_numbers
staged_changed batch before after n h =
    Contains-append_left (map (λ (s : Staged). s.0) batch) _ n (staged_listed batch n h)

kept_row : (o : Option Entity) → row_or_null (Some (kept_or_null o)) ≡ row_or_null o
unfolding null_entity
kept_row None = refl
kept_row (Some e) = refl

same_entity : (rows after : List Entity) (batch : List Staged) (n : ℕ) → AreAfter rows batch after → ¬ IsStaged batch n → HasNumber after n → row_at after n ≡ row_at rows n
unfolding row_at
same_entity rows after batch n h none has = ap row_or_null (h.kept n has none) ∙ kept_row (at_number rows n)

pub unchanged_row : (rows after : List Entity) (batch : List Staged) (n : ℕ) → AreAfter rows batch after → ¬ Contains (changed_numbers batch (length rows) (length after)) n → row_at after n ≡ row_at rows n
unchanged_row rows after batch n h none =
    let free : ¬ IsStaged batch n = λ staged. none (staged_changed batch (length rows) (length after) n staged) in
    elim (is_number after n) [
      | inl has ↦ same_entity rows after batch n h free has
      | inr null ↦ elim (is_number rows n) [
        | inl had ↦ (let inside = had.1 in let few = size_least (length rows) batch in same_entity rows after batch n h free (had.0, omega (arith, inside, few, h.size)))
        | inr also ↦ null ∙ sym also
      ]
    ]

-- ---- what is reached

-- the second rows have the same row at each number that the entity reaches in the first
abbrev Agrees : List Entity → List Entity → ℕ → Type 0
Agrees rows others e = (k : ℕ) → Reaches rows e k → row_at rows k ≡ row_at others k

reached_there : (rows others : List Entity) (e k : ℕ) → Agrees rows others e → Reaches rows e k → Reaches others e k
reached_there rows others e k agree here = here
reached_there rows others e k agree (further {c = c} names reached) =
    let there : Refers others e c = subst (λ (r : Row). Contains (references r) c) (agree e here) names in
    further there (reached_there rows others c k (λ n more. agree n (further names more)) reached)

reached_back : (rows others : List Entity) (e k : ℕ) → Agrees rows others e → Reaches others e k → Reaches rows e k
reached_back rows others e k agree here = here
reached_back rows others e k agree (further {c = c} names reached) =
    let own : Refers rows e c = subst (λ (r : Row). Contains (references r) c) (sym (agree e here)) names in
    further own (reached_back rows others c k (λ n more. agree n (further own more)) reached)

all_same : (rows others : List Entity) (e : ℕ) → Agrees rows others e → ReachesSame rows others e
all_same rows others e agree = record { same = agree; there = λ k. reached_there rows others e k agree; back = λ k. reached_back rows others e k agree }

pub same_then : (a b c : List Entity) (e : ℕ) → ReachesSame a b e → ReachesSame b c e → ReachesSame a c e
same_then a b c e h k = record {
  same = λ n reached. h.same n reached ∙ k.same n (h.there n reached);
  there = λ n reached. k.there n (h.there n reached);
  back = λ n reached. h.back n (k.back n reached);
}

pub same_turned : (a b : List Entity) (e : ℕ) → ReachesSame a b e → ReachesSame b a e
same_turned a b e h = record { same = λ n reached. sym (h.same n (h.back n reached)); there = h.back; back = h.there }

same_models : (a b : Model) (e : ℕ) → a ≡ b → ReachesSame a.rows b.rows e
same_models a b e is = all_same a.rows b.rows e (λ k reached. ap (λ (m : Model). row_at m.rows k) is)

-- ---- versions

-- a version agrees with the one that its stamp names
stamped_same : (opening : Model) (log : List LogEntry) (e v s : ℕ) (a b : Model) → IsStampIn opening log e v s → IsVersion opening log v a → IsVersion opening log s b → ReachesSame a.rows b.rows e
stamped_same opening log e v s a b first_stamp h k = same_models a b e (version_unique opening log 0 a b h k)
stamped_same opening log e v s a b (new_stamp {v = u} step reached) h k = same_models a b e (version_unique opening log (suc u) a b h k)
stamped_same opening log e v s a b (kept_stamp {v = u} {model = m} {after = x} {entry = entry} step none old) h k =
    let now = same_models a x e (version_unique opening log (suc u) a x h step.then) in
    let edited = step_edited opening log u entry m x step in
    let kept = all_same x.rows m.rows e (λ n reached. unchanged_row m.rows x.rows entry.batch n edited.rows (λ changed. none (n, reached, changed))) in
    same_then a.rows x.rows b.rows e now (same_then x.rows m.rows b.rows e kept (stamped_same opening log e u s m b old step.before k))

pub stamp_same : (opening : Model) (log : List LogEntry) (v w e s : ℕ) (a b : Model) → IsVersion opening log v a → IsVersion opening log w b → IsStampIn opening log e v s → IsStampIn opening log e w s
    → ReachesSame a.rows b.rows e
stamp_same opening log v w e s a b h k first second =
    let (c, is) = version_below opening log v a h s (stamp_within opening log e v s first) in
    same_then a.rows c.rows b.rows e (stamped_same opening log e v s a c first h is) (same_turned b.rows c.rows e (stamped_same opening log e w s b c second k is))
