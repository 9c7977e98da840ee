-- Words are read by a list of rules as by its two parts, one after the other.
use Rattle.std.proofs.Common.{◌≡◌, List, [], ◌∷◌, ◌++◌, Result, Ok, Err, ℤ, refl}
use Rattle.solid_base.specs.Outcomes.{◌>>=◌}
use Rattle.script_lines.specs.declared.faults.LineFault.{LineFault}
use Rattle.script_lines.specs.declared.tables.Kind.TheVariants as kind
use Rattle.script_lines.specs.declared.tables.Rule.{Rule}
use Rattle.script_lines.specs.Tables.{grid_rules, rules_of}
use Rattle.script_lines.specs.Reading.{Left, taken, number_by, numbers_from, first_rules, second_rules, place_rules, cell_rules}

pub numbers_append : (a b : List Rule) (before : List ℤ) (left : Left)
    → numbers_from (a ++ b) before left ≡ (numbers_from a before left >>= λ x. numbers_from b x.0 x.1)
unfolding numbers_from
numbers_append [] b before left = refl
numbers_append (r ∷ rules) b before left = go (taken (number_by r before) left) (λ x. numbers_append rules b (before ++ x.0 ∷ []) x.1)
  where
    go : (t : Result (ℤ × Left) LineFault)
        → ((x : ℤ × Left) → numbers_from (rules ++ b) (before ++ x.0 ∷ []) x.1 ≡ (numbers_from rules (before ++ x.0 ∷ []) x.1 >>= λ y. numbers_from b y.0 y.1))
        → (t >>= λ x. numbers_from (rules ++ b) (before ++ x.0 ∷ []) x.1) ≡ ((t >>= λ x. numbers_from rules (before ++ x.0 ∷ []) x.1) >>= λ y. numbers_from b y.0 y.1)
    go (Ok x) more = more x
    go (Err f) more = refl

pub grid_split : (left : Left) → numbers_from grid_rules [] left ≡ (numbers_from first_rules [] left >>= λ x. numbers_from second_rules x.0 x.1)
grid_split left = numbers_append first_rules second_rules [] left

pub cell : (left : Left) → numbers_from (rules_of kind.Cell) [] left ≡ (numbers_from place_rules [] left >>= λ x. numbers_from cell_rules x.0 x.1)
cell left = numbers_append place_rules cell_rules [] left
