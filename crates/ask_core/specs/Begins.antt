-- What a book answers where a question begins. solidd's own.
use Rattle.std.specs.Prelude.{◌≡◌, ℕ, Bool, length, Some}
use Rattle.solid_base.specs.declared.entities.Model.{Model}
use Rattle.solid_base.specs.declared.replies.Reply.{Reply}
use Rattle.solid_questions.specs.declared.questions.Question.{Question}
use Rattle.ask_core.specs.Answers.{IsAnswer}
use Rattle.ask_core.specs.Books.{BookFacts, IsAtOnce}
use Rattle.ask_core.specs.Runs.{begun}
use Rattle.ask_core.specs.declared.books.Begun.{Begun}
use Rattle.ask_core.specs.declared.books.Begun.TheVariants as begins

-- solidd's own: a reply names a version, and is the answer to a question about that version's model
pub record IsReplyOn (version : ℕ) (model : Model) (q : Question) (reply : Reply) : Type 0 where
  pub version_is : reply.version ≡ Some version
  pub answer : IsAnswer model q reply.body

-- solidd's own: a question that begins is answered at once where it is refused or asks about no
-- cells, and has a run else, in both cases on the newest version
abbrev pub IsBegun : BookFacts → Question → Bool → Begun → Type 0
IsBegun book q live (begins.Answered reply) =
    IsAtOnce book.table.model.rows q × IsReplyOn (length book.log) book.table.model q reply
IsBegun book q live (begins.Running run) =
    (¬ IsAtOnce book.table.model.rows q) × (run ≡ begun book q live)
