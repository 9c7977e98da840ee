use Rattle.ask_core.specs.Runs.{use_keys}
use Rattle.ask_core.proofs.BooksKept.{looked_book, found_in_book}
use Rattle.ask_core.proofs.books.Book.look.Goals as goal

pub take_uses-requires-clause-right : goal.take_uses-requires-clause-right
take_uses-requires-clause-right c = found_in_book _ _ _ _ c.args.run.now _ c.self.invariant c.self.view_is c.obeys.ensures c.requires.front

pub invariant_of-self : goal.invariant_of-self
invariant_of-self c = let now = c.take_uses.ensures in
    looked_book _ _ _ _ _ (use_keys c.args.run.now.table c.take_uses.new.self.taken) c.self.invariant now.entries now.capacity now.valid
