-- Keys whose ends of coordinates are kept in 64 bits each, and the keys that they are. solidd's own.
use Rattle.std.proofs.Common.{◌≡◌, refl}
use Rattle.fixed_enclosure.specs.declared.enclosures.Box3.{Box3}
use Rattle.fixed_enclosure.specs.declared.enclosures.Enc.{Enc}
use Rattle.fixed_enclosure.specs.declared.enclosures.Enc.TheVariants as enc
use Rattle.memo_graph.specs.declared.key.Key.{Key}
use Rattle.memo_graph.specs.declared.packed_key.Ends.{Ends}
use Rattle.memo_graph.specs.declared.packed_key.Ends.TheVariants as ends
use Rattle.memo_graph.specs.declared.packed_key.PackedKey.{PackedKey}

-- the coordinate that has these ends
abbrev pub enc_of : Ends → Enc
enc_of ends.All = enc.All
enc_of (ends.Span lo hi) = enc.Span lo hi

-- the ends of a coordinate
abbrev pub ends_of : Enc → Ends
ends_of enc.All = ends.All
ends_of (enc.Span lo hi) = ends.Span lo hi

-- the box of a packed key
abbrev pub box_of : PackedKey → Box3
box_of p = record { x = enc_of p.x; y = enc_of p.y; z = enc_of p.z }

-- the key that a packed key is
abbrev pub key_of : PackedKey → Key
key_of p = record { de = p.de; stamp = p.stamp; at = box_of p }

-- a key, packed
abbrev pub packed_of : Key → PackedKey
packed_of k = record {
  de = k.de;
  stamp = k.stamp;
  x = ends_of k.at.x;
  y = ends_of k.at.y;
  z = ends_of k.at.z;
}

-- the ends of the coordinate that has some ends are these
pub ends_again : (e : Ends) → ends_of (enc_of e) ≡ e
ends_again ends.All = refl
ends_again (ends.Span lo hi) = refl

-- the packed key of the key that it is is itself
pub packed_again : (p : PackedKey) → packed_of (key_of p) ≡ p
packed_again p = λ i. record {
  de = p.de;
  stamp = p.stamp;
  x = ends_again p.x i;
  y = ends_again p.y i;
  z = ends_again p.z i;
}
