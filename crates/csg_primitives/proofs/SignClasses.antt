-- The class of a list of signs, as code joins them two by two.
use Rattle.std.proofs.Common.{◌≡◌, List, [], ◌∷◌, refl, ◌∙◌, ap}
use Rattle.solid_base.specs.declared.classes.Class.TheVariants.{Outside}
use Rattle.fixed_enclosure.specs.declared.enclosures.Sign.{Sign}
use Rattle.fixed_enclosure.specs.declared.enclosures.Sign.TheVariants.{Negative, Positive, Open}
use Rattle.csg_primitives.specs.WrittenMargins.{both_signs, sign_class}

-- two signs at the head of a list tell what both together tell
both_class : (a b : Sign) (rest : List Sign) → sign_class (both_signs a b ∷ rest) ≡ sign_class (a ∷ b ∷ rest)
unfolding both_signs sign_class
both_class Negative b rest = refl
both_class Positive b rest = refl
both_class Open Negative rest = refl
both_class Open Positive rest = refl
both_class Open Open rest = refl

both_assoc : (a b c : Sign) → both_signs a (both_signs b c) ≡ both_signs (both_signs a b) c
unfolding both_signs
both_assoc Negative b c = refl
both_assoc Positive b c = refl
both_assoc Open Negative c = refl
both_assoc Open Positive c = refl
both_assoc Open Open Negative = refl
both_assoc Open Open Positive = refl
both_assoc Open Open Open = refl

pub three_class : (a b c : Sign) → sign_class (both_signs (both_signs a b) c ∷ []) ≡ sign_class (a ∷ b ∷ c ∷ [])
three_class a b c = both_class (both_signs a b) c [] ∙ both_class a b (c ∷ [])

-- where the first two tell Negative, the third one doesn't matter
pub two_decide : (a b c : Sign) → both_signs a b ≡ Negative → Outside ≡ sign_class (a ∷ b ∷ c ∷ [])
unfolding both_signs sign_class
two_decide a b c e = let t = three_class a b c in rw e at t

-- a pair after a sign is joined to it one by one
pair_class : (a b c : Sign) (rest : List Sign) → sign_class (both_signs a (both_signs b c) ∷ rest) ≡ sign_class (a ∷ b ∷ c ∷ rest)
pair_class a b c rest =
    ap (λ (s : Sign). sign_class (s ∷ rest)) (both_assoc a b c) ∙ both_class (both_signs a b) c rest ∙ both_class a b (c ∷ rest)

pub six_class : (a b c d e f : Sign) → sign_class (both_signs (both_signs (both_signs a b) (both_signs c d)) (both_signs e f) ∷ []) ≡ sign_class (a ∷ b ∷ c ∷ d ∷ e ∷ f ∷ [])
six_class a b c d e f =
    pair_class (both_signs (both_signs a b) (both_signs c d)) e f [] ∙ pair_class (both_signs a b) c d (e ∷ f ∷ []) ∙ both_class a b (c ∷ d ∷ e ∷ f ∷ [])

pub wedge_class : (a c d e f s : Sign) → sign_class (both_signs (both_signs (both_signs a (both_signs c d)) (both_signs e f)) s ∷ []) ≡ sign_class (a ∷ c ∷ d ∷ e ∷ f ∷ s ∷ [])
wedge_class a c d e f s =
    both_class (both_signs (both_signs a (both_signs c d)) (both_signs e f)) s [] ∙ pair_class (both_signs a (both_signs c d)) e f (s ∷ []) ∙ pair_class a c d (e ∷ f ∷ s ∷ [])

-- where the faces along the local Z axis tell Negative, the other margins don't matter
beside_negative : (a : Sign) → both_signs a Negative ≡ Negative
unfolding both_signs
beside_negative Negative = refl
beside_negative Positive = refl
beside_negative Open = refl

pub six_decide : (a b c d e f : Sign) → both_signs e f ≡ Negative → Outside ≡ sign_class (a ∷ b ∷ c ∷ d ∷ e ∷ f ∷ [])
unfolding sign_class
six_decide a b c d e f h = let t = six_class a b c d e f in rw (h, beside_negative (both_signs (both_signs a b) (both_signs c d))) at t

pub wedge_decide : (a c d e f s : Sign) → both_signs e f ≡ Negative → Outside ≡ sign_class (a ∷ c ∷ d ∷ e ∷ f ∷ s ∷ [])
unfolding sign_class both_signs
wedge_decide a c d e f s h = let t = wedge_class a c d e f s in rw (h, beside_negative (both_signs a (both_signs c d))) at t
