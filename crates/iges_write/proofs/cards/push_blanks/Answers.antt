use Rattle.std.proofs.Common.{◌≡◌, ◌++◌, List, ℕ, OnOk, subst}
use Rattle.std.proofs.lemmas.List.{take-replicate}
use Rattle.iges_write.proofs.cards.push_blanks.Goals as goal

pub returns-clause-ok : goal.returns-clause-ok
returns-clause-ok c =
    let put = c.extend_from_slice in
    subst (λ (blanks : List ℕ). OnOk put.result (put.new.self ≡ c.args.out.now ++ blanks)) (take-replicate c.args.count 72 32 c.requires) put.ensures.ok
