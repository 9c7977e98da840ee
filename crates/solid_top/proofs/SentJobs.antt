-- A session that is to run, or has run, may be sent to another thread, and threads share the turn.
use Rattle.std.proofs.Crossing.{crosses}
use denote.Struct.Declared.{shape}
use denote.Param.Send.{IsSend, IsSync, recorded_send, struct_send, AllSend, sendable}
use Rattle.solid_base.specs.contracts.entities.Model as Model
use Rattle.script_lines.proofs.commands.SessionLines.TheSendSync as lines
use Rattle.turn_book.specs.contracts.turn.Turn as Turn
use Rattle.turn_book.proofs.pass.Pass.TheSendSync as pass
use Rattle.turn_book.proofs.turn.Turn.TheSendSync as turn
use Rattle.ask_core.specs.contracts.books.Book as Book
use Rattle.ask_core.specs.contracts.commits.Commit as Commit
use Rattle.ask_core.specs.contracts.logged.BookLogged.TheImpl.{ghosts}
use Rattle.ask_core.proofs.SentBooks.{book_send}
use Rattle.solid_top.specs.contracts.serve.Job as Job
use Rattle.solid_top.specs.contracts.serve.Done as Done

pub turn_sync : IsSync (Turn.the_row Book.the_row Model.the_row Commit.the_row ghosts)
turn_sync = turn.the_sync Book.the_row Model.the_row Commit.the_row ghosts book_send

job_parts : AllSend (shape Job.the_type).fields
job_parts = (lines.the_field_send, (pass.the_send Book.the_row Model.the_row Commit.the_row ghosts book_send, tt))

pub job_send : IsSend Job.the_row
job_send = recorded_send _ _ (Job.the_type).to (Job.the_type).to_one (struct_send (shape Job.the_type) job_parts)

done_parts : AllSend (shape Done.the_type).fields
done_parts = (lines.the_field_send, (search (sendable, crosses) depth 40, (pass.the_send Book.the_row Model.the_row Commit.the_row ghosts book_send, tt)))

pub done_send : IsSend Done.the_row
done_send = recorded_send _ _ (Done.the_type).to (Done.the_type).to_one (struct_send (shape Done.the_type) done_parts)
