use Rattle.std.proofs.Common.{rules, subst, OnOk, ◌≡◌, ◌++◌, take, replicate, List, ℕ}
use Rattle.std.proofs.lemmas.List.{take-replicate}
use Rattle.iges_parameters.proofs.writing.laid_text.push_blanks.Goals as goal

pub returns : goal.returns
returns c =
    let added : OnOk c.extend_from_slice.result (c.extend_from_slice.new.self ≡ c.args.text.now ++ take c.args.count (replicate 64 32)) = search rules in
    subst (λ (x : List ℕ). OnOk c.extend_from_slice.result (c.extend_from_slice.new.self ≡ c.args.text.now ++ x)) (take-replicate c.args.count 64 32 c.requires) added
