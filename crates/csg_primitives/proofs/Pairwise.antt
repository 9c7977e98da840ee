-- Two lists whose items are related one by one: what a test finds in the one, a test finds in the other.
use Rattle.std.proofs.Common.{◌≡◌, Bool, true, false, ◌||◌, ◌&&◌, List, [], ◌∷◌, refl}
use Rattle.std.specs.List.{list_all, list_any}

abbrev pub Pairwise : {X Y : Type 0} → (X → Y → Type 0) → List X → List Y → Type 0
Pairwise R [] [] = Unit {0}
Pairwise R [] (y ∷ ys) = ⊥
Pairwise R (x ∷ xs) [] = ⊥
Pairwise R (x ∷ xs) (y ∷ ys) = R x y × Pairwise R xs ys

or_along : (a b c d : Bool) → (a ≡ true → c ≡ true) → (b ≡ true → d ≡ true) → (a || b) ≡ true → (c || d) ≡ true
or_along true b c d f g e = rw (f refl) refl
or_along false b true d f g e = refl
or_along false b false d f g e = g e

and_along : (a b c d : Bool) → (a ≡ true → c ≡ true) → (b ≡ true → d ≡ true) → (a && b) ≡ true → (c && d) ≡ true
and_along true b c d f g e = rw (f refl) (g e)
and_along false b c d f g e = cc

pub any_along : {X Y : Type 0} (R : X → Y → Type 0) (p : X → Bool) (q : Y → Bool) → ((x : X) (y : Y) → R x y → p x ≡ true → q y ≡ true)
    → (xs : List X) (ys : List Y) → Pairwise R xs ys → list_any p xs ≡ true → list_any q ys ≡ true
any_along R p q f [] [] h e = cc
any_along R p q f [] (y ∷ ys) h e = absurd h
any_along R p q f (x ∷ xs) [] h e = absurd h
any_along R p q f (x ∷ xs) (y ∷ ys) h e = or_along (p x) (list_any p xs) (q y) (list_any q ys) (f x y h.0) (any_along R p q f xs ys h.1) e

pub all_along : {X Y : Type 0} (R : X → Y → Type 0) (p : X → Bool) (q : Y → Bool) → ((x : X) (y : Y) → R x y → p x ≡ true → q y ≡ true)
    → (xs : List X) (ys : List Y) → Pairwise R xs ys → list_all p xs ≡ true → list_all q ys ≡ true
all_along R p q f [] [] h e = refl
all_along R p q f [] (y ∷ ys) h e = absurd h
all_along R p q f (x ∷ xs) [] h e = absurd h
all_along R p q f (x ∷ xs) (y ∷ ys) h e = and_along (p x) (list_all p xs) (q y) (list_all q ys) (f x y h.0) (all_along R p q f xs ys h.1) e
