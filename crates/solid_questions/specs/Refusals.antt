-- Which questions are refused, and with which words.
use Rattle.std.specs.Prelude.{ℕ, zero, suc, ◌*◌, ◌^◌, nat_le, List, [], ◌∷◌, ◌++◌, codes, decimal}
use Rattle.std.specs.Prelude.{cond, Option, Some, None}
use Rattle.solid_base.specs.declared.solids.Row.{Row}
use Rattle.solid_base.specs.declared.solids.Row.TheVariants as row
use Rattle.solid_questions.specs.declared.questions.Question.{Question}
use Rattle.solid_questions.specs.declared.questions.Question.TheVariants as question
use Rattle.solid_questions.specs.declared.refusals.Refusal.{Refusal}
use Rattle.solid_questions.specs.declared.refusals.Refusal.TheVariants as refusal
use Rattle.solid_questions.specs.QuestionCells.{cell_count}

-- the row that is lent, or a null row where none is
abbrev pub lent_row : Option Row → Row
lent_row None = row.Null
lent_row (Some r) = r

-- solidd's own: the most evaluations of primitives that one question may take
abbrev pub most_evaluations : ℕ
most_evaluations = 2 ^ 22

-- solidd's own: where the row of the entity is null, or no entity has the number
abbrev pub no_entity : ℕ → Row → Option Refusal
no_entity e row.Null = Some (refusal.NoEntity e)
no_entity e (row.Opaque kind form matrix text) = None
no_entity e (row.Matrix form affine next) = None
no_entity e (row.Prim p matrix) = None
no_entity e (row.Tree items matrix) = None
no_entity e (row.Assembly items matrix) = None
no_entity e (row.Instance child matrix) = None

-- IGES 5.3, type 124: a matrix is no solid
abbrev pub not_solid : ℕ → Row → Option Refusal
not_solid e row.Null = None
not_solid e (row.Opaque kind form matrix text) = None
not_solid e (row.Matrix form affine next) = Some (refusal.NotSolid e)
not_solid e (row.Prim p matrix) = None
not_solid e (row.Tree items matrix) = None
not_solid e (row.Assembly items matrix) = None
not_solid e (row.Instance child matrix) = None

-- solidd's own: where the entity reaches one that isn't read, of which this is the least number, 0
-- for none
abbrev pub unsupported : ℕ → Option Refusal
unsupported zero = None
unsupported (suc n) = Some (refusal.Unsupported (suc n))

-- solidd's own: where the entity itself isn't read
abbrev pub unread : ℕ → Row → Option Refusal
unread e row.Null = None
unread e (row.Opaque kind form matrix text) = Some (refusal.Unsupported e)
unread e (row.Matrix form affine next) = None
unread e (row.Prim p matrix) = None
unread e (row.Tree items matrix) = None
unread e (row.Assembly items matrix) = None
unread e (row.Instance child matrix) = None

-- solidd's own: where there are too many cells, or their evaluations are too many
abbrev pub too_large : Option ℕ → ℕ → Option Refusal
too_large None weight = Some refusal.TooLarge
too_large (Some count) weight =
    cond (nat_le (count * weight) most_evaluations) None (Some refusal.TooLarge)

-- the first refusal of some that may come
abbrev pub first_refusal : List (Option Refusal) → Option Refusal
first_refusal [] = None
first_refusal (None ∷ others) = first_refusal others
first_refusal (Some r ∷ others) = Some r

-- solidd's own: why a question about the cells of an entity is refused, in this order: no entity
-- has the number, it is no solid, it reaches one that isn't read, it asks for too much
abbrev pub cells_refusal : Question → ℕ → Row → ℕ → ℕ → Option Refusal
cells_refusal q e r weight least_unread =
    first_refusal (no_entity e r ∷ not_solid e r ∷ unsupported least_unread
    ∷ too_large (cell_count q) weight ∷ [])

-- solidd's own: why a question is refused, if it is: by the row of its entity, the entity's
-- weight, and the least number of an entity that it reaches and that isn't read, 0 for none. The
-- items of an assembly are listed whatever they are: only an entity that isn't read itself is
-- unsupported there, and nothing is too large
abbrev pub refusal_of : Question → Row → ℕ → ℕ → Option Refusal
refusal_of (question.Point e at) r weight least_unread =
    cells_refusal (question.Point e at) e r weight least_unread
refusal_of (question.Cell e cube) r weight least_unread =
    cells_refusal (question.Cell e cube) e r weight least_unread
refusal_of (question.Items e) r weight least_unread =
    first_refusal (no_entity e r ∷ not_solid e r ∷ unread e r ∷ [])
refusal_of (question.Section e z x0 y0 step nx ny) r weight least_unread =
    cells_refusal (question.Section e z x0 y0 step nx ny) e r weight least_unread
refusal_of (question.Volume e cube depth) r weight least_unread =
    cells_refusal (question.Volume e cube depth) e r weight least_unread
refusal_of (question.Bounds e cube depth) r weight least_unread =
    cells_refusal (question.Bounds e cube depth) e r weight least_unread
refusal_of question.Export r weight least_unread = None
refusal_of question.Newest r weight least_unread = None

-- solidd's own: the words of a refusal
abbrev pub refusal_words : Refusal → List ℕ
refusal_words (refusal.NoEntity e) = codes "NoEntity " ++ decimal e
refusal_words (refusal.NotSolid e) = codes "NotSolid " ++ decimal e
refusal_words (refusal.Unsupported e) = codes "Unsupported " ++ decimal e
refusal_words refusal.TooLarge = codes "TooLarge"

-- solidd's own: the reply body of a refused question
abbrev pub refused_body : Refusal → List ℕ
refused_body r = codes "REFUSED " ++ refusal_words r
