-- Square roots of whole numbers, rounded. Defined by squares alone.
use Rattle.std.specs.Prelude.{ℕ, zero, suc, ◌+◌, ◌*◌, ℤ, pos, negsuc, nat_le, nat_eq, if◌then◌else◌}

-- solidd's own: the greatest whole number whose square is at most n
unfoldable pub whole_root : ℕ → ℕ
whole_root zero = 0
whole_root (suc n) = let r = whole_root n in if nat_le ((r + 1) * (r + 1)) (suc n) then r + 1 else r

-- solidd's own: the root of z, rounded down; that of a negative number is 0
abbrev pub floor_root : ℤ → ℤ
floor_root (pos n) = pos (whole_root n)
floor_root (negsuc n) = pos 0

-- solidd's own: the least whole number, from 0 on, whose square is at least n
abbrev pub whole_root_up : ℕ → ℕ
whole_root_up n = let r = whole_root n in if nat_eq (r * r) n then r else r + 1

-- solidd's own: the root of z, rounded up; that of a negative number is 0
abbrev pub ceil_root : ℤ → ℤ
ceil_root (pos n) = pos (whole_root_up n)
ceil_root (negsuc n) = pos 0
