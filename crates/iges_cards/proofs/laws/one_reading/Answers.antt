use Rattle.std.proofs.Common.{◌≡◌, ◌∙◌, sym, Ok, Err, Result}
use Rattle.iges_cards.specs.declared.faults.CardFault.{CardFault}
use Rattle.iges_cards.specs.declared.reader.Cards.{Cards}
use Rattle.iges_cards.specs.Reading.{cards_in}
use Rattle.iges_cards.proofs.AgainLaws.{cards_again}
use Rattle.iges_cards.proofs.CheckLaws.{some_fault}
use Rattle.iges_cards.proofs.FirstFaultLaws.{fault_found, fault_read, fault_of_text}
use Rattle.iges_cards.proofs.TakesLaws.{cards_take}
use Rattle.iges_cards.proofs.laws.one_reading.Goals as goal

pub returns-clause-read : goal.returns-clause-read
returns-clause-read c bytes cards = (cards_again bytes cards, cards_take bytes cards)

pub returns-clause-once : goal.returns-clause-once
returns-clause-once c bytes a b h k =
    let same : ◌≡◌ {A = Result Cards CardFault} (Ok a) (Ok b) =
    sym (cards_again bytes a h) ∙ cards_again bytes b k in
    cc

pub returns-clause-refused : goal.returns-clause-refused
returns-clause-refused c bytes fault h = (
  fault_of_text bytes fault h,
  λ cards k. let both : ◌≡◌ {A = Result Cards CardFault} (Ok cards)
      (Err fault) = sym (cards_again bytes cards k) ∙ fault_read bytes fault h in cc,
)

pub returns-clause-faulty : goal.returns-clause-faulty
returns-clause-faulty c bytes h =
    let (fault, e) = some_fault (cards_in bytes) (λ cards e. h cards (cards_take bytes cards e)) in
    (fault, fault_found bytes fault e)
