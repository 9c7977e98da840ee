-- The memo as contracts see it, and what a look-up and a fill make of its entries. solidd's own.
use Rattle.std.specs.Prelude.{◌≡◌, ℕ, ◌<◌, ◌≤◌, Bool, true, false, cond, ◌&&◌, nat_eq}
use Rattle.std.specs.Prelude.{List, [], ◌∷◌, length, take, Option, None, Some}
use Rattle.std.specs.Ordering.{int_eq}
use Rattle.std.specs.Map.{lookup}
use Rattle.fixed_enclosure.specs.declared.enclosures.Box3.{Box3}
use Rattle.fixed_enclosure.specs.declared.enclosures.Enc.{Enc}
use Rattle.fixed_enclosure.specs.declared.enclosures.Enc.TheVariants as enc
use Rattle.solid_base.specs.declared.classes.Verdict.{Verdict}
use Rattle.memo_graph.specs.declared.key.Key.{Key}

-- whether two coordinates are enclosed by the same ends
abbrev pub same_ends : Enc → Enc → Bool
same_ends enc.All enc.All = true
same_ends enc.All (enc.Span lo hi) = false
same_ends (enc.Span lo hi) enc.All = false
same_ends (enc.Span lo hi) (enc.Span lo' hi') = int_eq lo lo' && int_eq hi hi'

-- whether two boxes are the same
abbrev pub same_box : Box3 → Box3 → Bool
same_box a b = same_ends a.x b.x && (same_ends a.y b.y && same_ends a.z b.z)

-- solidd's own: whether two keys are the same: the entity, the stamp and each end of the box
unfoldable pub same_key : Key → Key → Bool
same_key a b = nat_eq a.de b.de && (nat_eq a.stamp b.stamp && same_box a.at b.at)

-- solidd's own: an entry of the memo: a verdict under its key
abbrev pub Entry : Type 0
Entry = Key × Verdict

-- solidd's own: the verdict that is held under a key, None where the key isn't held
abbrev pub verdict_of : Key → List Entry → Option Verdict
verdict_of key entries = lookup (same_key key) entries

-- the entries of all other keys
abbrev pub without : Key → List Entry → List Entry
without key [] = []
without key (entry ∷ entries) =
    cond (same_key key entry.0) (without key entries) (entry ∷ without key entries)

-- the entries with this verdict's entry in front, where there is one
abbrev pub in_front : Key → Option Verdict → List Entry → List Entry
in_front key None entries = entries
in_front key (Some verdict) entries = (key, verdict) ∷ without key entries

-- solidd's own: the entries after a look-up: that of the key, where it is held, comes first
unfoldable pub promoted : Key → List Entry → List Entry
promoted key entries = in_front key (verdict_of key entries) entries

-- solidd's own: the entries after a fill: the new one comes first and stands for an old one of the
-- same key, and the last one goes where there would be more than the capacity
unfoldable pub filled : ℕ → Key → Verdict → List Entry → List Entry
filled capacity key verdict entries = take capacity ((key, verdict) ∷ without key entries)

-- no key stands twice
abbrev pub EachOnce : List Entry → Type 0
EachOnce [] = Unit {0}
EachOnce (entry ∷ entries) = (verdict_of entry.0 entries ≡ None) × EachOnce entries

-- solidd's own: what contracts see of a memo: its entries, the most recently used first, and how
-- many it may hold
pub record MemoFacts : Type 0 where
  pub entries : List Entry
  pub capacity : ℕ

-- the entries of a memo beside its capacity
abbrev pub memo_facts : List Entry → ℕ → MemoFacts
memo_facts entries capacity = record { entries = entries; capacity = capacity }

-- solidd's own: what is true of every memo: it may hold one entry or more and holds no more than it
-- may, and no key stands twice
pub record IsMemo (memo : MemoFacts) : Type 0 where
  pub some : 0 < memo.capacity
  pub within : length memo.entries ≤ memo.capacity
  pub once : EachOnce memo.entries
