-- What a parameter and an item of a tree were read from.
use Rattle.std.proofs.Common.{◌≡◌, List, Result, Ok, ℤ, ap, ◌∙◌}
use Rattle.solid_base.specs.declared.entities.Token.{Token}
use Rattle.solid_base.specs.declared.solids.Item.{Item}
use Rattle.iges_parameters.specs.declared.faults.RowFault.{RowFault}
use Rattle.iges_parameters.specs.declared.tables.Rule.{Rule}
use Rattle.iges_parameters.specs.Rules.{Place, token_at, whole_of, value_of, parameter_at}
use Rattle.iges_parameters.specs.Lists.{item_with, item_at}
use Rattle.iges_parameters.proofs.ItemsSteps.{bind_ok, ok_same}

-- a token and the place after it
abbrev taken_as : Token → Place → Result (Token × Place) RowFault
taken_as t q = Ok (t, q)

-- a parameter's token
pub record IsParameter (rule : Rule) (before : List ℤ) (p : Place) (n : ℤ) (q : Place) : Type 0 where
  pub token : Token
  pub taken : token_at p ≡ Ok (token, q)
  pub value : value_of rule p.index before token ≡ Ok n

pub parameter_parts : (rule : Rule) (before : List ℤ) (p : Place) (n : ℤ) (q : Place) → parameter_at rule before p ≡ Ok (n, q) → IsParameter rule before p n q
unfolding parameter_at
parameter_parts rule before p n q h =
    let (t, first, more) = bind_ok (token_at p) _ _ h in
    let (k, second, last) = bind_ok (value_of rule p.index before t.0) _ _ more in
    let same = ok_same _ _ last in
    let place : t.1 ≡ q = ap (λ (y : ℤ × Place). y.1) same in
    let number : k ≡ n = ap (λ (y : ℤ × Place). y.0) same in
    record { token = t.0; taken = first ∙ ap (taken_as t.0) place; value = second ∙ ap (λ (x : ℤ). Ok x) number }

-- an item's token and number
pub record IsItem (before : List Item) (p : Place) (i : Item) (q : Place) : Type 0 where
  pub token : Token
  pub taken : token_at p ≡ Ok (token, q)
  pub number : ℤ
  pub whole : whole_of p.index token ≡ Ok number
  pub item : item_with p.index before number ≡ Ok i

pub item_parts : (before : List Item) (p : Place) (i : Item) (q : Place) → item_at before p ≡ Ok (i, q) → IsItem before p i q
unfolding item_at
item_parts before p i q h =
    let (t, first, more) = bind_ok (token_at p) _ _ h in
    let (n, second, others) = bind_ok (whole_of p.index t.0) _ _ more in
    let (j, third, last) = bind_ok (item_with p.index before n) _ _ others in
    let same = ok_same _ _ last in
    let place : t.1 ≡ q = ap (λ (y : Item × Place). y.1) same in
    let read : j ≡ i = ap (λ (y : Item × Place). y.0) same in
    record { token = t.0; taken = first ∙ ap (taken_as t.0) place; number = n; whole = second; item = third ∙ ap (λ (x : Item). Ok x) read }
