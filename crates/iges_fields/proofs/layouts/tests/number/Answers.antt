use Rattle.std.proofs.Common.{◌∙◌, refl, sym, subst}
use Rattle.solid_base.specs.Spelling.{class_of, IsWhole, IsReal}
use Rattle.iges_fields.specs.declared.kinds.FieldKind.TheVariants as kind
use Rattle.iges_fields.proofs.Cuts.{kind_spells}
use Rattle.iges_fields.proofs.layouts.tests.number.Goals as goal

pub returns-in-Some-Whole : goal.returns-in-Some-Whole
returns-in-Some-Whole c =
    let text = c.args.text.now in
    let e = rw c.in-Some-Whole.field-0-is at c.in-Some-Whole.ensures in
    subst IsWhole (sym (c.from_vec-bytes.ensures ∙ c.in_ok-from_slice.ensures.items)) (kind_spells (class_of text) text kind.Whole refl (sym e)).0

pub returns-in-Some-Real : goal.returns-in-Some-Real
returns-in-Some-Real c =
    let text = c.args.text.now in
    let e = rw c.in-Some-Real.field-0-is at c.in-Some-Real.ensures in
    subst IsReal (sym (c.from_vec-bytes.ensures ∙ c.in_ok-from_slice.ensures.items)) (kind_spells (class_of text) text kind.Real refl (sym e)).0
