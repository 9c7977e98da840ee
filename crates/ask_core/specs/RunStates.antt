-- What contracts see of what a run keeps, and what holds of it. solidd's own.
use Rattle.std.specs.Prelude.{◌≡◌, ◌⊎◌, ℕ, ◌-◌, ◌%◌, Bool, List, [], length, take, drop}
use Rattle.solid_base.specs.declared.entities.Entity.{Entity}
use Rattle.solid_eval.specs.Solids.{solid_of}
use Rattle.solid_eval.specs.Uses.{Use, leaf_count}
use Rattle.solid_questions.specs.declared.questions.Question.{Question}
use Rattle.solid_questions.specs.declared.questions.Question.TheVariants as question
use Rattle.solid_questions.specs.Questions.{entity_of}
use Rattle.edit_core.specs.Versions.{Version}
use Rattle.ask_core.specs.Books.{BookFacts}
use Rattle.ask_core.specs.Runs.{RunFacts, IsRunning, question_uses, left_in_cell}
use Rattle.ask_core.specs.Rounds.{done_of, fresh_entries, wanted_keys, IsCourse, IsAheadBy, IsGoing}
use Rattle.ask_core.specs.Rounds.{AreRight, IsRoundOf, IsGathered, HasRoom, HasVerdicts, IsEmpty}
use Rattle.ask_core.specs.declared.course.Course.{Course}
use Rattle.ask_core.specs.declared.rounds.Round.{Round}
use Rattle.ask_core.specs.declared.runs.Stage.{Stage}
use Rattle.ask_core.specs.declared.runs.Stage.TheVariants as stage

-- solidd's own: a question about one point or one box
abbrev pub AsksOneCell : Question → Type 0
AsksOneCell (question.Point e at) = Unit {0}
AsksOneCell (question.Cell e cube) = Unit {0}
AsksOneCell (question.Items e) = ⊥
AsksOneCell (question.Section e z x0 y0 step nx ny) = ⊥
AsksOneCell (question.Volume e cube depth) = ⊥
AsksOneCell (question.Bounds e cube depth) = ⊥
AsksOneCell question.Export = ⊥
AsksOneCell question.Newest = ⊥

-- the uses that are left in the cell that a run is in, after so many uses
abbrev pub left_after : List Entity → Question → ℕ → List Use
left_after rows q done =
    take (leaf_count (solid_of rows (entity_of q))
    - done % leaf_count (solid_of rows (entity_of q))) (drop done (question_uses rows q))

-- the uses that contracts see as taken: before a look they see none, also where the round has
-- gathered some
abbrev pub taken_at : Stage → List Use → List Use
taken_at stage.Idle gathered = []
taken_at stage.Ready gathered = gathered
taken_at stage.Worked gathered = gathered
taken_at stage.Done gathered = gathered

-- solidd's own: what contracts see of a run
abbrev pub facts_of : BookFacts → Version → Question → Bool → Course → Round → Stage → RunFacts
facts_of book table q live course round stage = record {
  opening = book.opening;
  log = book.log;
  table = table;
  question = q;
  live = live;
  done = done_of course;
  taken = taken_at stage
      (take (length round.places.list) (left_after table.model.rows q (done_of course)));
  wanted = wanted_keys round.values.list round.keys.list round.found.list;
  fresh = fresh_entries round.values.list round.keys.list round.found.list;
  stage = stage;
}

-- what the round has at each stage, by the uses that are left in the cell and those that are taken
abbrev pub IsRoundAt : Version → List Use → List Use → Round → Stage → Type 0
IsRoundAt version left taken round stage.Idle = IsEmpty round ⊎ IsGathered version left round
IsRoundAt version left taken round stage.Ready = IsRoundOf version taken round
    × AreRight version.model.rows round.keys.list round.found.list
    × (round.values.list ≡ [])
IsRoundAt version left taken round stage.Worked = HasVerdicts round
IsRoundAt version left taken round stage.Done = IsEmpty round

-- what holds of what a run keeps, and of what contracts see of it
pub record IsRun (run : RunFacts) (course : Course) (round : Round) : Type 0 where
  pub running : IsRunning run
  pub course_is : IsCourse run.table.model.rows run.question course
  pub ahead : IsAheadBy run.table.model.rows run.question course (length round.places.list)
  pub going : IsGoing course
  pub room : HasRoom round
  pub round_is : IsRoundAt run.table (left_in_cell run) run.taken round run.stage
