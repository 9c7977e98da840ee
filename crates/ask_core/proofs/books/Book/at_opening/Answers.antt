use Rattle.ask_core.proofs.BooksKept.{opening_book}
use Rattle.ask_core.proofs.books.Book.at_opening.Goals as goal

pub invariant_of-result : goal.invariant_of-result
invariant_of-result c = let new = c.in_ok-new.ensures in
    opening_book c.args.opening.value _ c.args.table _ _ c.requires.accepted c.requires.table c.new.ensures c.in_ok-shared.ensures new.empty new.capacity new.valid
