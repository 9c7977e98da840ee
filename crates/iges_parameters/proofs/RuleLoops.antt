-- Parameters that are read one after the other by their rules, as a loop does.
use Rattle.std.proofs.Common.{◌≡◌, ℕ, ◌+◌, ◌<◌, ◌≤◌, List, [], ◌∷◌, ◌++◌, length, get_or, take, drop, set, Result, Ok, Err, ℤ, refl, sym, ◌∙◌, add-one}
use Rattle.std.proofs.Math.Seq.{drop-cons}
use Rattle.std.proofs.Math.ListN.{drop_of_length-le}
use Rattle.std.proofs.lemmas.List.{take_more_set, take_all}
use Rattle.iges_parameters.specs.declared.faults.RowFault.{RowFault}
use Rattle.iges_parameters.specs.declared.tables.Rule.{Rule}
use Rattle.iges_parameters.specs.Rules.{Place, parameter_at, numbers_from}

pub goes_on : (numbers : List ℤ) (rules : List Rule) (old new : Place) (at : ℕ) (d : Rule) (n : ℤ) (total : Result (List ℤ × Place) RowFault) → at < length rules → at < length numbers
    → parameter_at (get_or rules at d) (take at numbers) old ≡ Ok (n, new) → numbers_from (drop at rules) (take at numbers) old ≡ total
    → numbers_from (drop (at + 1) rules) (take (at + 1) (set numbers at n)) new ≡ total
unfolding numbers_from
goes_on numbers rules old new at d n total lt room h so_far =
    let cut : drop at rules ≡ get_or rules at d ∷ drop (at + 1) rules = rw add-one (drop-cons rules at d lt) in
    let one : numbers_from (drop at rules) (take at numbers) old ≡ numbers_from (drop (at + 1) rules) (take at numbers ++ n ∷ []) new = rw (cut, h) refl in
    rw (take_more_set numbers at n room) (sym one ∙ so_far)

pub ends : (front : List ℤ) (rules : List Rule) (old : Place) (at : ℕ) (d : Rule) (f : RowFault) (total : Result (List ℤ × Place) RowFault) → at < length rules
    → parameter_at (get_or rules at d) front old ≡ Err f → numbers_from (drop at rules) front old ≡ total → total ≡ Err f
unfolding numbers_from
ends front rules old at d f total lt h so_far =
    let cut : drop at rules ≡ get_or rules at d ∷ drop (at + 1) rules = rw add-one (drop-cons rules at d lt) in
    let one : numbers_from (drop at rules) front old ≡ Err f = rw (cut, h) refl in
    sym so_far ∙ one

pub is_done : (numbers : List ℤ) (rules : List Rule) (p : Place) (at : ℕ) (total : Result (List ℤ × Place) RowFault) → length rules ≤ at → length numbers ≤ at
    → numbers_from (drop at rules) (take at numbers) p ≡ total → total ≡ Ok (numbers, p)
unfolding numbers_from
is_done numbers rules p at total all full so_far =
    let cut : drop at rules ≡ [] = drop_of_length-le rules all in
    let whole : take at numbers ≡ numbers = take_all at numbers full in
    let one : numbers_from (drop at rules) (take at numbers) p ≡ Ok (numbers, p) = rw (cut, whole) refl in
    sym so_far ∙ one
