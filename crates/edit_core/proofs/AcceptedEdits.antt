-- What an edit makes of a model that is served is served too.
use Rattle.std.proofs.Common.{◌≡◌, inl, inr, ℕ, suc, ◌+◌, ◌*◌, ◌<◌, ◌/◌, ◌%◌, List, [], ◌∷◌, length, Option, Some, None, Ok, slice_get, refl, sym, ap, subst, ◌∙◌, arith}
use Rattle.std.specs.List.{AllByRecursion}
use Rattle.std.proofs.lemmas.Option.{slice_get_within}
use Rattle.solid_base.specs.declared.entities.Entity.{Entity}
use Rattle.solid_base.specs.declared.entities.Model.{Model}
use Rattle.solid_base.specs.declared.entities.RowText.{RowText}
use Rattle.solid_base.specs.declared.entities.Token.{Token}
use Rattle.solid_base.specs.declared.solids.Row.{Row}
use Rattle.solid_base.specs.References.{at_number}
use Rattle.solid_base.specs.Texts.{IsOneLine}
use Rattle.solid_base.proofs.Texts.{blank_attributes_in_line}
use Rattle.iges_parameters.specs.Accepted.{IsAccepted, IsAcceptedEntity}
use Rattle.iges_parameters.specs.RecordFields.{fields_of}
use Rattle.iges_parameters.specs.Records.{record_in}
use Rattle.iges_parameters.proofs.CountedLines.{holds_at}
use Rattle.iges_parameters.proofs.TailKept.{one_line_kept}
use Rattle.edit_core.specs.declared.changes.Change.{Change}
use Rattle.edit_core.specs.declared.changes.Change.TheVariants as change
use Rattle.edit_core.specs.Batches.{Staged, IsStaged, IsStageable, IsLawfulChange, AreLawful}
use Rattle.edit_core.specs.Edits.{edit_comma, edit_semi, kept_or_null, IsMade, IsPlaced, AreAfter, IsEdited}
use Rattle.edit_core.specs.Placing.{IsReady}
use Rattle.edit_core.proofs.LawfulRows.{read_in_range, read_spelt}
use Rattle.edit_core.proofs.NextVersions.{accepted_rows}
use Rattle.edit_core.proofs.OneVersion.{staged_or_not, with_rows, some_same}
use Rattle.edit_core.proofs.Placing.{at_odd, has_odd}
use Rattle.edit_core.proofs.Ready.{accepted_ready, null_ready, read_ready}

-- ---- what a change makes

record_ready : (source : RowText) (r : Row) (tail : List Token) (attrs : List ℕ) → IsStageable source → record_in edit_comma edit_semi source ≡ Ok (r, tail) → length attrs ≡ 96 → IsOneLine attrs
    → IsReady (record { row = r; attrs = attrs; tail = tail })
record_ready source r tail attrs good is size in_line =
    let lawful = read_in_range source.kind source.form source.matrix (fields_of edit_comma edit_semi source.text) (r, tail) is in
    let spelt = read_spelt edit_comma edit_semi source.kind source.form source.matrix source.text r tail is in
    let one = one_line_kept edit_comma edit_semi source.kind source.form source.matrix source.text r tail good.one_line is in
    read_ready source r tail attrs is lawful spelt one size in_line

accepted_at : (rows : List Entity) (n : ℕ) (e : Entity) → AllByRecursion IsAcceptedEntity rows → at_number rows n ≡ Some e → IsAcceptedEntity e
accepted_at rows n e all is = holds_at IsAcceptedEntity rows (n / 2) e all (sym (at_odd rows n (has_odd rows n e is)) ∙ is)

made_ready : (rows : List Entity) (n : ℕ) (c : Change) (e : Entity) → AllByRecursion IsAcceptedEntity rows → IsLawfulChange c → IsMade rows n c e → IsReady e
made_ready rows n (change.Replace source) e all good made =
    (let (stands, read, kept) = made in
    let (old, at, attrs) = kept in
    let before = accepted_at rows n old all at in
    record_ready source e.row e.tail e.attrs good read (ap (λ (line : List ℕ). length line) attrs ∙ before.attributes) (subst IsOneLine (sym attrs) before.attributes_in_line))
made_ready rows n (change.Add source) e all good made =
    (let (free, may, read, blank) = made in
    record_ready source e.row e.tail e.attrs good read (ap (λ (line : List ℕ). length line) blank) (subst IsOneLine (sym blank) blank_attributes_in_line))
made_ready rows n change.Drop e all good made = (let (stands, null) = made in subst IsReady (sym null) null_ready)

-- ---- each row after the batch

staged_ready : (rows after : List Entity) (batch : List Staged) (n : ℕ) (e : Entity) → AllByRecursion IsAcceptedEntity rows → AllByRecursion (λ s. IsLawfulChange s.1) batch → AllByRecursion (IsPlaced rows after) batch
    → IsStaged batch n → at_number after n ≡ Some e → IsReady e
staged_ready rows after [] n e all good placed staged is = absurd staged
staged_ready rows after (s ∷ batch) n e all good placed (inl same) is =
    (let (d, at, made) = placed.0 in
    let equal : d ≡ e = some_same d e (sym at ∙ subst (λ (m : ℕ). at_number after m ≡ Some e) (sym same) is) in
    subst IsReady equal (made_ready rows s.0 s.1 d all good.0 made))
staged_ready rows after (s ∷ batch) n e all good placed (inr staged) is = staged_ready rows after batch n e all good.1 placed.1 staged is

kept_ready : (rows : List Entity) (n : ℕ) (o : Option Entity) → AllByRecursion IsAcceptedEntity rows → at_number rows n ≡ o → IsReady (kept_or_null o)
kept_ready rows n None all is = null_ready
kept_ready rows n (Some e) all is = accepted_ready e (accepted_at rows n e all is)

all_places : {X : Type 0} (P : X → Type 0) (xs : List X) → ((at : ℕ) (x : X) → slice_get xs at ≡ Some x → P x) → AllByRecursion P xs
all_places P [] h = tt
all_places P (x ∷ xs) h = (h 0 x refl, all_places P xs (λ at y is. h (suc at) y is))

rows_ready : (rows after : List Entity) (batch : List Staged) → AllByRecursion IsAcceptedEntity rows → AllByRecursion (λ s. IsLawfulChange s.1) batch → AreAfter rows batch after → AllByRecursion IsReady after
rows_ready rows after batch all good h = all_places IsReady after (λ at e is.
    (let n = 2 * at + 1 in
    let odd : n % 2 ≡ 1 = omega arith in
    let half : n / 2 ≡ at = omega arith in
    let here : at_number after n ≡ Some e = at_odd after n odd ∙ ap (slice_get after) half ∙ is in
    let inside = slice_get_within after at e is in
    let within : n / 2 < length after = omega (arith, half, inside) in
    elim (staged_or_not batch n) [
      | inl staged ↦ staged_ready rows after batch n e all good h.changed staged here
      | inr none ↦ subst IsReady (some_same (kept_or_null (at_number rows n)) e (sym (h.kept n (odd, within) none) ∙ here)) (kept_ready rows n (at_number rows n) all refl)
    ]))

pub edit_accepted : (model : Model) (v : ℕ) (batch : List Staged) (after : Model) → IsAccepted model → AreLawful batch → IsEdited model v batch after → IsAccepted after
edit_accepted model v batch after h lawful edited =
    let ready = rows_ready model.rows after.rows batch h.entities lawful.changes edited.rows in
    subst IsAccepted (sym (with_rows model after edited.start edited.comma edited.semi edited.global))
    (accepted_rows model after.rows batch h edited.rows ready edited.sound edited.few)
