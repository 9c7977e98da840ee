-- How much room tokens take in lines of 64 columns: solidd's own.
use Rattle.std.specs.Prelude.{◌≡◌, refl, ℕ, ◌+◌, ◌-◌, ◌^◌, List, [], ◌∷◌, ◌++◌, length, min}
use Rattle.solid_base.specs.declared.entities.Token.{Token}
use Rattle.solid_base.specs.declared.solids.Row.{Row}
use Rattle.solid_base.specs.declared.solids.Row.TheVariants as row
use Rattle.iges_fields.specs.Layout.{spelling_of_token, gap}

-- how many bytes are laid after a piece of this size, where so many are laid before it
abbrev pub used_after : ℕ → ℕ → ℕ
used_after used size = used + gap 64 used size + size

-- how many bytes are laid after these tokens, each with a delimiter, where so many are laid before
-- them
unfoldable pub room_of : ℕ → List Token → ℕ
room_of used [] = used
room_of used (t ∷ ts) = room_of (used_after used (length (spelling_of_token t) + 1)) ts

-- the most bytes of a record that are counted
abbrev pub most_counted : ℕ
most_counted = 2 ^ 64 - 1

-- the most lines that are counted: as many as the most bytes fill
abbrev pub most_counted_lines : ℕ
most_counted_lines = 2 ^ 58

-- as many, counted token by token up to the most that are counted
unfoldable pub room_up_to_most : ℕ → List Token → ℕ
room_up_to_most used [] = used
room_up_to_most used (t ∷ ts) =
    room_up_to_most (min (used_after used (length (spelling_of_token t) + 1)) most_counted) ts

-- no tokens take no room
pub counted_none : (used : ℕ) → room_up_to_most used [] ≡ used
unfolding room_up_to_most
counted_none used = refl

-- tokens are counted together as one after the other
pub counted_more : (used : ℕ) (ts us : List Token)
    → room_up_to_most (room_up_to_most used ts) us ≡ room_up_to_most used (ts ++ us)
unfolding room_up_to_most
counted_more used [] us = refl
counted_more used (t ∷ ts) us =
    counted_more (min (used_after used (length (spelling_of_token t) + 1)) most_counted) ts us

-- a row that is laid out by its tokens: each but one that stays as it was read
abbrev pub IsLaid : Row → Type 0
IsLaid row.Null = Unit {0}
IsLaid (row.Opaque kind form matrix text) = ⊥
IsLaid (row.Matrix form affine next) = Unit {0}
IsLaid (row.Prim p matrix) = Unit {0}
IsLaid (row.Tree items matrix) = Unit {0}
IsLaid (row.Assembly items matrix) = Unit {0}
IsLaid (row.Instance child matrix) = Unit {0}

-- fields stand after the parameters of a row that is read, and after no other
abbrev pub IsTailOf : Row → List Token → Type 0
IsTailOf row.Null tail = tail ≡ []
IsTailOf (row.Opaque kind form matrix text) tail = tail ≡ []
IsTailOf (row.Matrix form affine next) tail = Unit {0}
IsTailOf (row.Prim p matrix) tail = Unit {0}
IsTailOf (row.Tree items matrix) tail = Unit {0}
IsTailOf (row.Assembly items matrix) tail = Unit {0}
IsTailOf (row.Instance child matrix) tail = Unit {0}
