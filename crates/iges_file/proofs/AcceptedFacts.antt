-- What is read from a file is accepted: each entity, and the model.
use Rattle.std.proofs.Common.{◌≡◌, ℕ, ◌^◌, ◌≤◌, List, length, false, refl, ap, subst, arith}
use Rattle.std.specs.List.{AllByRecursion}
use Rattle.solid_base.specs.Texts.{IsOneLine}
use Rattle.solid_base.specs.Spelling.{before_blanks}
use Rattle.solid_base.specs.Ranges.{IsLawfulRow}
use Rattle.solid_base.specs.declared.entities.Model.{Model}
use Rattle.solid_base.specs.declared.entities.Token.{Token}
use Rattle.solid_base.specs.declared.solids.Row.{Row}
use Rattle.solid_base.specs.declared.solids.Row.TheVariants as row
use Rattle.iges_fields.specs.Layout.{AreSpelt, AreOneLine}
use Rattle.iges_cards.proofs.KeptLaws.{cards_are_kept}
use Rattle.iges_directory.specs.declared.pairs.Pair.{Pair}
use Rattle.iges_directory.specs.Kept.{IsKept}
use Rattle.iges_directory.proofs.KeptGlobals.{delimiters_kept, parameters_spelt, parameters_line, whole_room}
use Rattle.iges_parameters.specs.Tables.{is_read}
use Rattle.iges_parameters.specs.Writing.{IsOfRecord}
use Rattle.iges_parameters.specs.Accepted.{IsKeptRecord, IsAcceptedEntity, IsAccepted}
use Rattle.iges_file.specs.Entities.{entity_of, kept_entity}
use Rattle.iges_file.specs.Files.{Reads, global_of}
use Rattle.iges_file.proofs.ReadRows.{IsRowWith, may_have_tail}
use Rattle.iges_file.proofs.Blanks.{blanks_left_out, blanks_left_out_again, blanks_left_out_short}
use Rattle.iges_file.proofs.FormFacts.{global_short}
use Rattle.iges_file.proofs.DirectoryFacts.{few_pairs}
use Rattle.iges_file.proofs.RowLoops.{entities_counted}

-- ---- entities

-- what is kept of a row that isn't read
abbrev UnreadOf : Row → Type 0
UnreadOf row.Null = Unit {0}
UnreadOf (row.Opaque kind form matrix text) = IsKeptRecord kind form text
UnreadOf (row.Matrix form affine next) = Unit {0}
UnreadOf (row.Prim p matrix) = Unit {0}
UnreadOf (row.Tree items matrix) = Unit {0}
UnreadOf (row.Assembly items matrix) = Unit {0}
UnreadOf (row.Instance child matrix) = Unit {0}

pub kept_accepted : (pair : Pair) (text : List ℕ) → 1 ≤ pair.kind → is_read pair.kind pair.form ≡ false → IsOneLine text → length text ≤ 2 ^ 25 → IsKept pair → IsAcceptedEntity (kept_entity pair text)
kept_accepted pair text other unread line short entry =
    let kept : IsKeptRecord pair.kind pair.form (before_blanks text) = record {
      kind_from = other;
      kind_to = entry.kind;
      form_to = entry.form;
      not_read = unread;
      one_line = blanks_left_out text line;
      no_blanks_after = blanks_left_out_again text;
      short = omega (arith, blanks_left_out_short text, short);
    } in
    record {
      attributes = entry.attributes;
      attributes_in_line = entry.in_line;
      lawful = tt;
      matrix = entry.matrix;
      tail_spelt = tt;
      tail_in_line = tt;
      tail_of_row = refl;
      blank_where_null = λ e. cc;
      kept_where_unread = λ kind form matrix kept_text e. subst UnreadOf e kept;
    }

pub read_accepted : (pair : Pair) (x : Row × List Token) → IsRowWith pair.matrix x.0 → IsLawfulRow x.0 → AreSpelt x.1 → AreOneLine x.1 → IsKept pair → IsAcceptedEntity (entity_of pair x)
read_accepted pair x of_record lawful spelt line entry = record {
  attributes = entry.attributes;
  attributes_in_line = entry.in_line;
  lawful = lawful;
  matrix = omega (arith, of_record.1, entry.matrix);
  tail_spelt = spelt;
  tail_in_line = line;
  tail_of_row = may_have_tail x.0 x.1 of_record.0;
  blank_where_null = λ e. absurd (subst IsOfRecord e of_record.0);
  kept_where_unread = λ kind form matrix text e. absurd (subst IsOfRecord e of_record.0);
}

-- ---- the model

pub model_accepted : (bytes : List ℕ) (model : Model) (end : ℕ) → length bytes ≤ 2 ^ 25 → Reads bytes model end → AllByRecursion IsAcceptedEntity model.rows → IsAccepted model
model_accepted bytes model end small reads entities =
    let kept = cards_are_kept bytes reads.cards reads.form in
    let text = reads.cards.global in
    let short = global_short bytes reads.cards reads.form in
    let room = whole_room text (global_of model) reads.globals (omega (arith, short, small)) in
    let counted = entities_counted model.comma model.semi reads.cards.params reads.pairs model.rows reads.entities in
    let start_lines = ap (λ (ls : List (List ℕ)). length ls) reads.start in
    record {
      few_entities = omega (arith, counted, few_pairs (length reads.cards.params) reads.cards.directory reads.pairs reads.directory);
      entities = entities;
      references = reads.sound;
      few_lines = reads.few;
      delimiters = delimiters_kept text (global_of model) reads.globals;
      some_start = omega (arith, start_lines, kept.some_start);
      few_start = omega (arith, start_lines, kept.few_start);
      start_lines = rw reads.start kept.start;
      global_spelt = parameters_spelt text (global_of model) reads.globals;
      global_in_line = parameters_line text (global_of model) reads.globals kept.global;
      few_global = omega (arith, room, short, small);
    }
