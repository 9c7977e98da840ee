use Rattle.iges_fields.specs.Readers.{reading_of}
use Rattle.iges_fields.proofs.Numbers.{found_is_read}
use Rattle.iges_fields.proofs.readers.field_at.Goals as goal

pub returns-in-Some : goal.returns-in-Some
returns-in-Some c =
    found_is_read c.args.comma c.args.semi c.args.text.now (reading_of c.in-Some.found) c.requires (rw c.after_blanks-content.ensures at c.in-Some.ensures)
