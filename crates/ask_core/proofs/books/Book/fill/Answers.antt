use Rattle.std.proofs.Common.{refl, ap}
use Rattle.ask_core.specs.Books.{BookFacts}
use Rattle.ask_core.proofs.BooksKept.{filled_book, kept_some}
use Rattle.ask_core.proofs.books.Book.fill.Goals as goal

pub invariant_of-self : goal.invariant_of-self
invariant_of-self c = let kept = c.keep-kept.ensures in
    filled_book _ _ _ _ _ c.args.run.now _ c.self.invariant c.self.view_is c.obeys.ensures c.requires.worked c.requires.front c.keep-kept.result _ refl kept.ok kept.err kept.capacity kept.valid

pub returns-clause-err : goal.returns-clause-err
returns-clause-err c =
    kept_some c.keep-kept.result _ _ _ _ _ _ _ refl c.self.invariant.capacity (ap (λ (b : BookFacts). b.memo.entries) c.self.view_is) c.keep-kept.ensures.err
