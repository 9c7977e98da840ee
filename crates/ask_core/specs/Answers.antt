-- The answer to a question about a model, evaluated afresh.
use Rattle.std.specs.Prelude.{◌≡◌, ℕ, ◌*◌, List, ◌++◌, codes, decimal, length, map, Option, None}
use Rattle.std.specs.Prelude.{Some}
use Rattle.solid_base.specs.declared.classes.Verdict.{Verdict}
use Rattle.solid_base.specs.declared.entities.Entity.{Entity}
use Rattle.solid_base.specs.declared.entities.Model.{Model}
use Rattle.solid_base.specs.declared.geometry.Cube.{Cube}
use Rattle.solid_base.specs.References.{row_at}
use Rattle.solid_base.specs.Graph.{weight_of}
use Rattle.fixed_enclosure.specs.Places.{spans_of}
use Rattle.fixed_enclosure.specs.Spans.{box_of}
use Rattle.entity_graph.specs.Opaque.{IsFirstOpaque}
use Rattle.solid_eval.specs.Solids.{solid_of}
use Rattle.solid_eval.specs.Uses.{leaf_count}
use Rattle.solid_eval.specs.Written.{written}
use Rattle.iges_write.specs.CanonicalFile.{canonical_lines, canonical_text}
use Rattle.solid_questions.specs.declared.questions.Question.{Question}
use Rattle.solid_questions.specs.declared.questions.Question.TheVariants as question
use Rattle.solid_questions.specs.declared.refusals.Refusal.{Refusal}
use Rattle.solid_questions.specs.Questions.{entity_of}
use Rattle.solid_questions.specs.QuestionCells.{all_cells}
use Rattle.solid_questions.specs.Refusals.{refusal_of, refused_body}
use Rattle.solid_questions.specs.Bodies.{IsBody}

-- solidd's own: the verdict on an entity over a cell
abbrev pub cell_verdict : List Entity → ℕ → Cube → Verdict
cell_verdict rows e cube = written (solid_of rows e) (spans_of (box_of cube))

-- solidd's own: the verdicts on all cells that a question asks about, in order
abbrev pub cell_verdicts : List Entity → Question → List Verdict
cell_verdicts rows q = map (cell_verdict rows (entity_of q)) (all_cells q)

-- solidd's own: why a question is refused, if it is, where this is the least number of an entity
-- that its own reaches and that isn't read, 0 for none
abbrev pub refusal_on : List Entity → Question → ℕ → Option Refusal
refusal_on rows q unread =
    refusal_of q (row_at rows (entity_of q)) (weight_of rows (entity_of q)) unread

-- solidd's own: this is the text that is answered: the words of the refusal, or the body by the
-- verdicts on the cells
abbrev pub IsAnswerUnless : Option Refusal → List Entity → Question → List ℕ → Type 0
IsAnswerUnless (Some refusal) rows q text = text ≡ refused_body refusal
IsAnswerUnless None rows q text = IsBody q (row_at rows (entity_of q)) (cell_verdicts rows q) text

-- solidd's own: this is the answer to a question that is answered from the rows of a model
abbrev pub IsAnswerOn : List Entity → Question → List ℕ → Type 0
IsAnswerOn rows q text =
    (unread : ℕ) × IsFirstOpaque rows (entity_of q) unread
    × IsAnswerUnless (refusal_on rows q unread) rows q text

-- solidd's own: this is the text of an export. With the line feed that ends a reply, it is a line
-- that says how many lines the model's file has, and then that file
abbrev pub IsExport : Model → List ℕ → Type 0
IsExport model text =
    text ++ codes "\n" ≡ (codes "EXPORT " ++ decimal (length (canonical_lines model)))
    ++ (codes "\n" ++ canonical_text model)

-- solidd's own: this is the answer to a question about a model
abbrev pub IsAnswer : Model → Question → List ℕ → Type 0
IsAnswer model (question.Point e at) text = IsAnswerOn model.rows (question.Point e at) text
IsAnswer model (question.Cell e cube) text = IsAnswerOn model.rows (question.Cell e cube) text
IsAnswer model (question.Items e) text = IsAnswerOn model.rows (question.Items e) text
IsAnswer model (question.Section e z x0 y0 step nx ny) text =
    IsAnswerOn model.rows (question.Section e z x0 y0 step nx ny) text
IsAnswer model (question.Volume e cube depth) text =
    IsAnswerOn model.rows (question.Volume e cube depth) text
IsAnswer model (question.Bounds e cube depth) text =
    IsAnswerOn model.rows (question.Bounds e cube depth) text
IsAnswer model question.Export text = IsExport model text
IsAnswer model question.Newest text = IsAnswerOn model.rows question.Newest text

-- solidd's own: how many evaluations of primitives the cells of a question take: each as many as
-- the entity's solid has uses of primitives
abbrev pub cell_evaluations : List Entity → Question → ℕ
cell_evaluations rows q = length (all_cells q) * leaf_count (solid_of rows (entity_of q))

-- how many an answer takes: none where it is refused, else those of all cells
abbrev pub evaluations_unless : Option Refusal → List Entity → Question → ℕ
evaluations_unless (Some refusal) rows q = 0
evaluations_unless None rows q = cell_evaluations rows q

-- solidd's own: an answer evaluates so many primitives
abbrev pub Evaluates : List Entity → Question → ℕ → Type 0
Evaluates rows q count =
    (unread : ℕ) × IsFirstOpaque rows (entity_of q) unread
    × (count ≡ evaluations_unless (refusal_on rows q unread) rows q)
