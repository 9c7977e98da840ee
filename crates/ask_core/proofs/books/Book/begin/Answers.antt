use Rattle.std.proofs.Common.{ap}
use Rattle.ask_core.specs.Books.{BookFacts}
use Rattle.ask_core.proofs.BooksKept.{not_at_once}
use Rattle.ask_core.proofs.books.Book.begin.Goals as goal

pub returns : goal.returns
returns c = record {
  begun = (
    not_at_once c.is_at_once.result c.deref.result.now _ c.args.self.now c.args.question.now c.if-is_at_once.false c.is_at_once.ensures.at_once.1 c.deref.ensures (ap (λ (b : BookFacts). b.table) c.self.view_is),
    c.in_ok-run.ensures.run,
  );
}
