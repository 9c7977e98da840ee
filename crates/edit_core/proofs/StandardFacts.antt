-- Worked batches: places, sizes, what changes, which of two faults is the first, and an edit that
-- can be made.
use Rattle.std.proofs.Common.{◌≡◌, ◌≢◌, inl, ℕ, zero, suc, ◌+◌, ◌==◌, ◌/◌, ◌%◌, ◌≤◌, Bool, true, false, cond, List, [], ◌∷◌, length, None, slice_get, Contains, refl, sym, ap, subst, arith}
use Rattle.std.specs.List.{AllByRecursion}
use Rattle.solid_base.specs.declared.entities.Entity.{Entity}
use Rattle.solid_base.specs.declared.entities.Model.{Model}
use Rattle.solid_base.specs.declared.entities.RowText.{RowText}
use Rattle.solid_base.specs.declared.references.Reference.{Reference}
use Rattle.solid_base.specs.declared.solids.Primitive.{Primitive}
use Rattle.solid_base.specs.declared.solids.Row.{Row}
use Rattle.solid_base.specs.declared.solids.Row.TheVariants as row
use Rattle.solid_base.specs.Graph.{IsDangling, IsMisdirected, depth_of, depth_within, weight_of, weight_within, most_levels, most_weight, AreSound}
use Rattle.solid_base.specs.References.{row_at, row_or_null, references_of, references, Refers}
use Rattle.solid_base.specs.Texts.{blank_attributes}
use Rattle.iges_parameters.specs.Accepted.{lines_of}
use Rattle.iges_parameters.specs.Writing.{lines_for}
use Rattle.edit_core.specs.declared.changes.Change.TheVariants as change
use Rattle.edit_core.specs.declared.faults.EditFault.TheVariants as fault
use Rattle.edit_core.specs.Batches.{Staged, stage}
use Rattle.edit_core.specs.Edits.{null_entity, size_after, Stands, AreAfter, IsRefused, IsEdited, IsNumberToAdd, nothing_to_drop}
use Rattle.edit_core.specs.Versions.{changed_numbers}
use Rattle.edit_core.proofs.LineTotals.{null_text}

-- a number that is staged again keeps its place and takes the new change
pub staged_again : (text : RowText) → stage (stage (stage [] 9 change.Drop) 3 change.Drop) 9 (change.Replace text) ≡ (9, change.Replace text) ∷ (3, change.Drop) ∷ []
staged_again text = refl

-- an entity added as 11 after three brings null ones as 7 and 9
pub six_rows : (text : RowText) → size_after 3 ((11, change.Add text) ∷ []) ≡ 6
six_rows text = refl

pub three_new : (text : RowText) → changed_numbers ((11, change.Add text) ∷ []) 3 6 ≡ 11 ∷ 7 ∷ 9 ∷ 11 ∷ []
unfolding changed_numbers
three_new text = refl

pub greatest_number : IsNumberToAdd 199999
greatest_number = (refl, omega arith)

pub one_too_great : ¬ IsNumberToAdd 200001
one_too_great h = let few = h.1 in omega (arith, few)

-- an empty batch on the last version is EmptyBatch, and not Full
pub empty_before_full : (model : Model) → IsRefused model 10000 [] fault.EmptyBatch
empty_before_full model = refl

some_batch : (s : Staged) → ◌≢◌ {A = List Staged} (s ∷ []) []
some_batch s e = cc

-- Full comes before the faults of the changes
pub full_on_the_last : (model : Model) → IsRefused model 10000 ((2, change.Drop) ∷ []) fault.Full
full_on_the_last model = (some_batch (2, change.Drop), refl)

nothing_at : row_at [] 1 ≡ row.Null
unfolding row_at
nothing_at = refl

-- a drop in a model without rows, one version before the last
pub nothing_to_drop_at_1 : (start : List (List ℕ)) → IsRefused (record { start = start; comma = 44; semi = 59; global = []; rows = [] }) 9999 ((1, change.Drop) ∷ []) (fault.NoEntity 1)
nothing_to_drop_at_1 start = record {
  may = record { some = some_batch (1, change.Drop); below = λ e. omega (arith, e) };
  first = record { front = []; staged = (1, change.Drop); rest = []; stands = refl; before = tt; is = nothing_to_drop (λ stands. stands nothing_at) };
}

-- ---- the one solid of a model is dropped

abbrev pub only_row : List (List ℕ) → Entity → Model
only_row start e = record { start = start; comma = 44; semi = 59; global = []; rows = e ∷ [] }

abbrev pub one_solid : List (List ℕ) → Primitive → Model
one_solid start p = only_row start (record { row = row.Prim p 0; attrs = blank_attributes; tail = [] })

abbrev pub nothing_left : List (List ℕ) → Model
nothing_left start = only_row start null_entity

null_row : (odd : Bool) (place : ℕ) → row_or_null (cond odd (slice_get (null_entity ∷ []) place) None) ≡ row.Null
unfolding null_entity
null_row false place = refl
null_row true zero = refl
null_row true (suc place) = refl

-- no number names a row there
pub null_everywhere : (e : ℕ) → row_at (null_entity ∷ []) e ≡ row.Null
unfolding row_at
null_everywhere e = null_row (e % 2 == 1) (e / 2)

names_none : (P : Reference → Type 0) (e : ℕ) → AllByRecursion P (references_of (row_at (null_entity ∷ []) e))
unfolding references_of
names_none P e = subst (λ (r : Row). AllByRecursion P (references_of r)) (sym (null_everywhere e)) tt

refers_to_none : (e k : ℕ) → ¬ Refers (null_entity ∷ []) e k
unfolding references_of
refers_to_none e k h =
    let none : Contains {X = ℕ} [] k = subst (λ (r : Row). Contains (references r) k) (null_everywhere e) h in
    omega (arith, none.1)

one_level : (e : ℕ) → depth_of (null_entity ∷ []) e ≤ most_levels
unfolding depth_of depth_within references_of
one_level e = rw (null_everywhere e) (omega arith)

no_weight : (e : ℕ) → weight_of (null_entity ∷ []) e ≤ most_weight
unfolding weight_of weight_within
no_weight e = rw (null_everywhere e) (omega arith)

null_sound : AreSound (null_entity ∷ [])
null_sound = record {
  present = names_none (λ r. ¬ IsDangling (null_entity ∷ []) r);
  directed = names_none (λ r. ¬ IsMisdirected (null_entity ∷ []) r);
  acyclic = λ e w. refers_to_none w.on w.next w.refers;
  shallow = one_level;
  light = no_weight;
}

one_line : lines_of 44 59 (null_entity ∷ []) ≡ 1
unfolding null_entity
one_line = ap (λ (text : List ℕ). lines_for (length text) + 0) (null_text 44 59)

module _ (start : List (List ℕ)) (p : Primitive) where
  pub solid_stands : Stands (one_solid start p).rows 1
  unfolding row_at
  solid_stands same = cc

  dropped_rows : AreAfter (one_solid start p).rows ((1, change.Drop) ∷ []) (null_entity ∷ [])
  dropped_rows = record {
    size = refl;
    changed = ((null_entity, refl, (solid_stands, refl)), tt);
    kept = λ number has other. absurd (other (inl (omega (arith, has.0, has.1))));
  }

  pub dropped : IsEdited (one_solid start p) 0 ((1, change.Drop) ∷ []) (nothing_left start)
  dropped = record {
    may = record { some = some_batch (1, change.Drop); below = λ same. omega (arith, same) };
    rows = dropped_rows;
    sound = null_sound;
    few = omega (arith, one_line);
    start = refl;
    comma = refl;
    semi = refl;
    global = refl;
  }
