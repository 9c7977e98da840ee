-- A place carried back is the same however finely it is counted.
use Rattle.std.proofs.Common.{◌≡◌, refl, ap, ◌∙◌, arith, ℕ, ◌*◌, List, [], ◌∷◌}
use Rattle.solid_base.specs.declared.geometry.Affine.{Affine}
use Rattle.solid_base.specs.declared.geometry.Vec3.{Vec3}
use Rattle.fixed_enclosure.specs.Values.{unit}
use Rattle.affine_pull.specs.Chains.{parts_through, pulled_through}
use Rattle.affine_pull.specs.Matrices.{pulled, finer}
use Rattle.affine_pull.proofs.Undone.{pulled-finer}

turned-parts : (m n : ℕ) → n * m ≡ m * n
turned-parts m n = omega arith

pub matrix-scale : (m n : ℕ) (a : Affine) (p : Vec3)
    → pulled (n * m) a (finer n p) ≡ finer n (pulled m a p)
matrix-scale m n a p =
    ap (λ (k : ℕ). pulled k a (finer n p)) (turned-parts m n) ∙ pulled-finer m n a p

unit-ahead : (n k : ℕ) → unit * (n * k) ≡ n * (unit * k)
unit-ahead n k = omega arith

pub parts-scale : (m n : ℕ) (chain : List Affine)
    → parts_through (n * m) chain ≡ n * parts_through m chain
parts-scale m n [] = refl
parts-scale m n (a ∷ chain) =
    ap (λ (k : ℕ). unit * k) (parts-scale m n chain) ∙ unit-ahead n (parts_through m chain)

pub chain-scale : (m n : ℕ) (chain : List Affine) (p : Vec3)
    → pulled_through (n * m) chain (finer n p) ≡ finer n (pulled_through m chain p)
chain-scale m n [] p = refl
chain-scale m n (a ∷ chain) p =
    ap (pulled (parts_through (n * m) chain) a) (chain-scale m n chain p)
    ∙ ap (λ (k : ℕ). pulled k a (finer n (pulled_through m chain p))) (parts-scale m n chain)
    ∙ matrix-scale (parts_through m chain) n a (pulled_through m chain p)
