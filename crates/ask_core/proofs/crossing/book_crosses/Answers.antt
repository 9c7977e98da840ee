use denote.Exit.{yes}
use denote.Param.Send.{param_send, arg_send}
use Rattle.ask_core.specs.contracts.books.Book as Book
use Rattle.ask_core.proofs.SentBooks.{book_send}
use Rattle.ask_core.proofs.crossing.book_crosses.Goals as goal

pub sent-requires-send-T : goal.sent-requires-send-T
sent-requires-send-T c κs = param_send 0 _ (arg_send _ yes Book.the_row book_send)
