use Rattle.ask_core.proofs.BooksKept.{committed_book}
use Rattle.ask_core.proofs.books.Book.commit.Goals as goal

pub invariant_of-self-2 : goal.invariant_of-self-2
invariant_of-self-2 c = committed_book _ _ _ c.args.commit _ _ c.deref.result.now _ _ _ c.self.invariant c.deref.ensures c.commit.view_is c.in_ok-commit.ensures.next c.in_ok-push.ensures.ok c.in_ok-next.ensures
