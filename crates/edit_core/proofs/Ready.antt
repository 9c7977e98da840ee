-- Entities that an edit makes are accepted once their matrices are known to be those of the model.
use Rattle.std.proofs.Common.{◌≡◌, ℕ, inl, inr, List, [], ◌∷◌, length, Ok, refl, subst, arith}
use Rattle.std.specs.List.{AllByRecursion}
use Rattle.solid_base.specs.declared.entities.Entity.{Entity}
use Rattle.solid_base.specs.declared.entities.RowText.{RowText}
use Rattle.solid_base.specs.declared.entities.Token.{Token}
use Rattle.solid_base.specs.declared.solids.Row.{Row}
use Rattle.solid_base.specs.Ranges.{IsLawfulRow}
use Rattle.solid_base.specs.Texts.{IsOneLine}
use Rattle.solid_base.proofs.Texts.{blank_attributes_in_line}
use Rattle.iges_fields.specs.Layout.{AreSpelt, AreOneLine}
use Rattle.iges_parameters.specs.Accepted.{IsAcceptedEntity}
use Rattle.iges_parameters.specs.RecordFields.{fields_of}
use Rattle.iges_parameters.specs.Records.{record_in}
use Rattle.iges_parameters.specs.Writing.{IsOfRecord}
use Rattle.edit_core.specs.Edits.{null_entity, edit_comma, edit_semi}
use Rattle.edit_core.specs.Placing.{IsReady}
use Rattle.edit_core.proofs.ReadRows.{may_have_tail, read_row_is}

pub accepted_ready : (e : Entity) → IsAcceptedEntity e → IsReady e
accepted_ready e h = record { writable = (h.lawful, h.tail_spelt, h.tail_of_row); accepted = λ m. h; known = inr h.matrix }

pub all_ready : (rows : List Entity) → AllByRecursion IsAcceptedEntity rows → AllByRecursion IsReady rows
all_ready [] h = tt
all_ready (e ∷ rows) h = (accepted_ready e h.0, all_ready rows h.1)

null_accepted : IsAcceptedEntity null_entity
unfolding null_entity
null_accepted = record {
  attributes = refl;
  attributes_in_line = blank_attributes_in_line;
  lawful = tt;
  matrix = omega arith;
  tail_spelt = tt;
  tail_in_line = tt;
  tail_of_row = refl;
  blank_where_null = λ e. refl;
  kept_where_unread = λ kind form matrix text e. cc;
}

pub null_ready : IsReady null_entity
null_ready = accepted_ready null_entity null_accepted

pub read_ready : (source : RowText) (r : Row) (tail : List Token) (attrs : List ℕ) → record_in edit_comma edit_semi source ≡ Ok (r, tail) → IsLawfulRow r → AreSpelt tail → AreOneLine tail
    → length attrs ≡ 96 → IsOneLine attrs → IsReady (record { row = r; attrs = attrs; tail = tail })
read_ready source r tail attrs is lawful spelt line size in_line =
    let x : Row × List Token = (r, tail) in
    let of_record = read_row_is source.kind source.form source.matrix (fields_of edit_comma edit_semi source.text) x is in
    let may = may_have_tail r tail of_record.0 in
    record {
      writable = (lawful, spelt, may);
      accepted = λ small. record {
        attributes = size;
        attributes_in_line = in_line;
        lawful = lawful;
        matrix = small;
        tail_spelt = spelt;
        tail_in_line = line;
        tail_of_row = may;
        blank_where_null = λ e. absurd (subst IsOfRecord e of_record.0);
        kept_where_unread = λ kind form matrix text e. absurd (subst IsOfRecord e of_record.0);
      };
      known = inl of_record.0;
    }
