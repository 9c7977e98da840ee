-- One number for a key, by which the memo's table finds it. No promise of a memo depends on it.
-- solidd's own.
use Rattle.std.specs.Prelude.{ℕ, ℤ, ◌*◌, ◌-◌, ◌^◌, ◌/◌, bit_and, bit_xor}
use mir.Syntax.{w128}
use mir.Val.{of_z as cast_unsigned}
use Rattle.fixed_enclosure.specs.declared.enclosures.Box3.{Box3}
use Rattle.fixed_enclosure.specs.declared.enclosures.Enc.{Enc}
use Rattle.fixed_enclosure.specs.declared.enclosures.Enc.TheVariants as enc
use Rattle.memo_graph.specs.declared.key.Key.{Key}

-- the two halves of a product of 128 bits, joined
unfoldable pub folded : ℕ → ℕ → ℕ
folded a b = bit_xor (bit_and (a * b) (2 ^ 64 - 1)) (a * b / 2 ^ 64)

-- the low 64 bits of a number
unfoldable pub low_word : ℤ → ℕ
low_word x = bit_and (cast_unsigned w128 x) (2 ^ 64 - 1)

-- one number for the two ends of a coordinate
abbrev pub ends_digest : Enc → ℕ → ℕ → ℕ
ends_digest enc.All first last = first
ends_digest (enc.Span lo hi) first last =
    folded (bit_xor (low_word lo) first) (bit_xor (low_word hi) last)

-- one number for a box
unfoldable pub box_digest : Box3 → ℕ
box_digest at = bit_xor
    (bit_xor (ends_digest at.x 0x082e_fa98_ec4e_6c89 0x4528_21e6_38d0_1377)
    (ends_digest at.y 0xbe54_66cf_34e9_0c6c 0xc0ac_29b7_c97c_50dd))
    (ends_digest at.z 0x3f84_d5b5_b547_0917 0x9216_d5d9_8979_fb1b)

-- one number for a key
unfoldable pub key_digest : Key → ℕ
key_digest key = bit_xor
    (folded (bit_xor key.de 0x1319_8a2e_0370_7344) (bit_xor key.stamp 0xa409_3822_299f_31d0))
    (box_digest key.at)
