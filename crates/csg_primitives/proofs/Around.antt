-- What follows from what holds around a place.
use Rattle.std.proofs.Common.{ℕ, ◌+◌, ◌*◌, ◌<◌, ◌≤◌, arith}
use Rattle.solid_base.specs.declared.geometry.Vec3.{Vec3}
use Rattle.csg_primitives.specs.Neighbours.{IsNear, Around}

first-share : (a b d n : ℕ) → (a + b) * d ≤ n → a * d ≤ n
first-share a b d n h = omega arith

second-share : (a b d n : ℕ) → (a + b) * d ≤ n → b * d ≤ n
second-share a b d n h = omega arith

-- what follows from two things holds where each of them does
pub around-both : {at : Vec3} {R S T : ℕ → Vec3 → Type 0}
    → ((n : ℕ) (p : Vec3) → R n p → S n p → T n p) → Around at R → Around at S → Around at T
around-both f r s = record {
  shares = r.shares + s.shares;
  holds = λ n d p a b c.
      f n p (r.holds n d p a (first-share r.shares s.shares d n b) c)
      (s.holds n d p a (second-share r.shares s.shares d n b) c);
}

pub around-so : {at : Vec3} {R T : ℕ → Vec3 → Type 0} → ((n : ℕ) (p : Vec3) → R n p → T n p)
    → Around at R → Around at T
around-so f r = record { shares = r.shares; holds = λ n d p a b c. f n p (r.holds n d p a b c) }

-- what holds everywhere
pub around-all : {at : Vec3} {T : ℕ → Vec3 → Type 0} → ((n : ℕ) (p : Vec3) → T n p) → Around at T
around-all f = record { shares = 0; holds = λ n d p a b c. f n p }

no-distance : (a n : ℕ) → a * 0 ≤ n
no-distance a n = omega arith

-- what holds around a place holds of the place itself, counted finer
pub around-itself : {at : Vec3} {R : ℕ → Vec3 → Type 0} → Around at R
    → (n : ℕ) (p : Vec3) → 0 < n → IsNear n 0 at p → R n p
around-itself r n p a c = r.holds n 0 p a (no-distance r.shares n) c
