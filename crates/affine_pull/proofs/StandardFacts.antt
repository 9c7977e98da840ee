-- Worked places and chains: a quarter turn about Z, a shift by 10 along X, and both.
use Rattle.std.proofs.Common.{◌≡◌, ℕ, ◌*◌, ◌^◌, List, [], ◌∷◌, refl, ℤ, pos, neg_ℤ}
use Rattle.solid_base.specs.declared.entities.Entity.{Entity}
use Rattle.solid_base.specs.declared.geometry.Vec3.{Vec3}
use Rattle.solid_base.specs.declared.geometry.Affine.{Affine}
use Rattle.solid_base.specs.declared.solids.Row.{Row}
use Rattle.solid_base.specs.declared.solids.Row.TheVariants as row
use Rattle.solid_base.specs.References.{row_at}
use Rattle.fixed_enclosure.specs.Values.{unit}
use Rattle.fixed_enclosure.specs.Places.{offset}
use Rattle.affine_pull.specs.Matrices.{moved, pulled, IsExact}
use Rattle.affine_pull.specs.Chains.{chain_within, chain_of, pulled_through}

abbrev point : ℤ → ℤ → ℤ → Vec3
point x y z = record { x = x; y = y; z = z }

-- a place in units, of whose parts m are one step
abbrev units : ℕ → ℕ → ℕ → ℕ → Vec3
units m x y z = point (pos (x * 10 ^ 12 * m)) (pos (y * 10 ^ 12 * m)) (pos (z * 10 ^ 12 * m))

abbrev turn : Vec3 → Affine
turn shift = record { row1 = point (pos 0) (neg_ℤ (pos unit)) (pos 0); row2 = units 1 1 0 0; row3 = units 1 0 0 1; shift = shift }

abbrev slide : Affine
slide = record { row1 = units 1 1 0 0; row2 = units 1 0 1 0; row3 = units 1 0 0 1; shift = units 1 10 0 0 }

pub known_turn : IsExact (turn (units 1 10 0 0))
known_turn = record { first = refl; second = refl; third = refl; first_second = refl; first_third = refl; second_third = refl }

-- (5, 4, 3) is turned to (-4, 5, 3), and then moved
pub known_move : moved 1 (turn (units 1 10 0 0)) (units 1 5 4 3) ≡ units unit 6 5 3
unfolding moved
known_move = refl

pub known_pull : pulled 1 (turn (units 1 10 0 0)) (units 1 6 5 3) ≡ units unit 5 4 3
unfolding pulled offset
known_pull = refl

abbrev entity : Row → Entity
entity r = record { row = r; attrs = []; tail = [] }

-- number 3 slides and names number 5, which turns
abbrev rows : List Entity
rows = entity row.Null ∷ entity (row.Matrix 0 slide 5) ∷ entity (row.Matrix 0 (turn (units 1 0 0 0)) 0) ∷ []

pub known_chain : chain_of rows 3 ≡ slide ∷ turn (units 1 0 0 0) ∷ []
unfolding chain_of chain_within row_at
known_chain = refl

-- the turn is undone first
pub known_place : pulled_through 1 (slide ∷ turn (units 1 0 0 0) ∷ []) (units 1 0 10 0) ≡ point (pos 0) (pos 0) (pos 0)
unfolding pulled offset
known_place = refl
