use Rattle.std.proofs.Common.{◌≡◌, Option, Some, None, [], ◌∷◌, refl, option_copied}
use Rattle.std.specs.Option.{option_or}
use Rattle.solid_questions.specs.declared.refusals.Refusal.{Refusal}
use Rattle.solid_questions.specs.QuestionCells.{cell_count}
use Rattle.solid_questions.specs.Refusals.{first_refusal, lent_row, no_entity, not_solid, unsupported, too_large}
use Rattle.solid_questions.proofs.refusals.cells_refusal.Goals as goal

-- one refusal after the other
in_order : (a b c d : Option Refusal) → option_or (option_or (first_refusal (a ∷ b ∷ [])) c) d ≡ first_refusal (a ∷ b ∷ c ∷ d ∷ [])
in_order None None None None = refl
in_order None None None (Some d) = refl
in_order None None (Some c) d = refl
in_order None (Some b) c d = refl
in_order (Some a) b c d = refl

pub returns : goal.returns
returns c =
    let r = lent_row (option_copied c.args.row) in
    rw (c.or-2.ensures, c.or.ensures, c.refusal_of_row.ensures, c.unsupported.ensures, c.too_large.ensures, c.cells.ensures)
    (in_order (no_entity c.args.e r) (not_solid c.args.e r) (unsupported c.args.least_unread) (too_large (cell_count c.args.question.now) c.args.weight))
