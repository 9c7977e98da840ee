-- Known values: what looks and fills make of short lists of entries.
use Rattle.std.proofs.Common.{◌≡◌, ℕ, false, List, [], ◌∷◌, None, Some, refl, pos}
use Rattle.fixed_enclosure.specs.declared.enclosures.Enc.TheVariants as enc
use Rattle.solid_base.specs.declared.classes.Class.TheVariants as class
use Rattle.solid_base.specs.declared.classes.Verdict.{Verdict}
use Rattle.memo_graph.specs.declared.key.Key.{Key}
use Rattle.memo_graph.specs.Memos.{Entry, same_key, verdict_of, promoted, filled}

abbrev key : ℕ → ℕ → Key
key de stamp = record {
  de = de;
  stamp = stamp;
  at = record { x = enc.Span (pos 0) (pos 5); y = enc.All; z = enc.Span (pos 7) (pos 7) };
}

abbrev mixed : ℕ → Verdict
mixed leaf = record { class = class.Mixed; leaf = leaf }

abbrev entry : ℕ → Entry
entry de = (key de 0, mixed de)

abbrev three : List Entry
three = entry 5 ∷ entry 3 ∷ entry 1 ∷ []

-- the stamp and the entity are parts of a key
another_stamp : same_key (key 1 0) (key 1 2) ≡ false
unfolding same_key
another_stamp = refl

another_entity : same_key (key 1 0) (key 3 0) ≡ false
unfolding same_key
another_entity = refl

found : verdict_of (key 3 0) three ≡ Some (mixed 3)
unfolding same_key
found = refl

not_found : verdict_of (key 3 1) three ≡ None
unfolding same_key
not_found = refl

-- the entry that is looked for comes first, and the others keep their order
last_first : promoted (key 1 0) three ≡ entry 1 ∷ entry 5 ∷ entry 3 ∷ []
unfolding same_key promoted
last_first = refl

nothing_first : promoted (key 1 1) three ≡ three
unfolding same_key promoted
nothing_first = refl

-- with room nothing goes, without room the last one goes, and of a held key the old verdict goes
with_room : filled 4 (key 7 0) (mixed 7) three ≡ entry 7 ∷ three
unfolding same_key filled
with_room = refl

without_room : filled 3 (key 7 0) (mixed 7) three ≡ entry 7 ∷ entry 5 ∷ entry 3 ∷ []
unfolding same_key filled
without_room = refl

held : filled 3 (key 3 0) (mixed 9) three ≡ (key 3 0, mixed 9) ∷ entry 5 ∷ entry 1 ∷ []
unfolding same_key filled
held = refl
