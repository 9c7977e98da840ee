-- The key of a use, and the verdict on it.
use Rattle.std.proofs.Common.{◌≡◌, ◌≢◌, ◌⊎◌, inl, inr, ℕ, ◌≤◌, List, [], ◌∷◌, ◌++◌, length, Some, refl, sym, ap, ◌∙◌, subst, arith, append_assoc}
use Rattle.solid_base.specs.declared.entities.Entity.{Entity}
use Rattle.solid_base.specs.declared.solids.Row.TheVariants as row
use Rattle.solid_base.specs.References.{row_at, HasNumber, at_number}
use Rattle.entity_graph.proofs.Numbers.{is_number}
use Rattle.fixed_enclosure.specs.declared.enclosures.Box3.{Box3}
use Rattle.fixed_enclosure.specs.declared.enclosures.Enc.{Enc}
use Rattle.fixed_enclosure.specs.declared.enclosures.Enc.TheVariants as enc
use Rattle.fixed_enclosure.specs.Places.{Span3, spans_of}
use Rattle.fixed_enclosure.specs.Spans.{Span, Every, Between, enc_span}
use Rattle.solid_eval.specs.Solids.{IsPrimitiveRow}
use Rattle.solid_eval.specs.Uses.{Use, use_verdict}
use Rattle.memo_graph.specs.declared.key.Key.{Key}
use Rattle.edit_core.specs.Versions.{Version}
use Rattle.ask_core.specs.Books.{key_verdict}
use Rattle.ask_core.specs.Runs.{use_key, use_keys, stamp_in, or_zero, enc_of, box_of_spans, most_keys, most_uses, IsTaken, Stops}
use Rattle.ask_core.specs.Rounds.{use_of, uses_ahead, IsRoundOf, HasTaken}
use Rattle.ask_core.specs.declared.course.Ahead.{Ahead}
use Rattle.ask_core.specs.declared.rounds.Round.{Round}
use Rattle.ask_core.proofs.Picked.{picked_length}

enc_back : (e : Enc) → enc_of (enc_span e) ≡ e
enc_back enc.All = refl
enc_back (enc.Span lo hi) = refl

span_back : (s : Span) → enc_span (enc_of s) ≡ s
span_back Every = refl
span_back (Between lo hi) = refl

box_back : (at : Box3) → box_of_spans (spans_of at) ≡ at
box_back at = λ i. record { x = enc_back at.x i; y = enc_back at.y i; z = enc_back at.z i }

spans_back : (s : Span3) → spans_of (box_of_spans s) ≡ s
spans_back s = λ i. record { x = span_back s.x i; y = span_back s.y i; z = span_back s.z i }

pub key_is : (version : Version) (n stamp : ℕ) (at : Box3) → at_number version.stamps n ≡ Some stamp → use_key version (use_of n at) ≡ record { de = n; stamp = stamp; at = at }
key_is version n stamp at is =
    let same : stamp_in version n ≡ stamp = ap or_zero is in
    λ i. record { de = n; stamp = same i; at = box_back at i }

pub verdict_is : (version : Version) (rows : List Entity) (u : Use) → key_verdict rows (use_key version u) ≡ use_verdict rows u
verdict_is version rows u = ap (λ s. use_verdict rows (record { number = u.number; spans = s })) (spans_back u.spans)

pub primitive_there : (rows : List Entity) (n : ℕ) → IsPrimitiveRow (row_at rows n) → HasNumber rows n
primitive_there rows n h = go (is_number rows n) where
  go : HasNumber rows n ⊎ (row_at rows n ≡ row.Null) → HasNumber rows n
  go (inl has) = has
  go (inr none) = absurd (subst IsPrimitiveRow none h)

-- ---- what a round has taken

pub one_use_taken : (version : Version) (left : List Use) (old new : Ahead) (round after : Round) (u : Use) (rest : List Use)
    → (has : HasTaken version left old round) → uses_ahead version.model.rows old ≡ u ∷ rest → uses_ahead version.model.rows new ≡ rest
    → IsRoundOf version (has.taken ++ u ∷ []) after → HasTaken version left new after
one_use_taken version left old new round after u rest has next passed is = record {
  taken = has.taken ++ u ∷ [];
  front = has.front ∙ ap (λ l. has.taken ++ l) next ∙ ap (λ l. has.taken ++ u ∷ l) (sym passed) ∙ sym (append_assoc has.taken (u ∷ []) (uses_ahead version.model.rows new));
  is = is;
}

nothing_taken : (version : Version) (left : List Use) → left ≢ [] → (taken rest : List Use) → left ≡ taken ++ rest → Stops version taken rest → taken ≢ []
nothing_taken version left some taken [] front stops none = some (front ∙ ap (λ l. l ++ []) none)
nothing_taken version left some taken (u ∷ rest) front (inl all) none = (let h : length taken ≡ 0 = ap (λ (l : List Use). length l) none in absurd (omega (arith, h, all)))
nothing_taken version left some taken (u ∷ rest) front (inr more) none =
    (let h : length (use_keys version (taken ++ u ∷ [])) ≡ 1 = ap (λ (l : List Use). length (use_keys version (l ++ u ∷ []))) none in absurd (omega (arith, h, more)))

pub taken_whole : (version : Version) (left : List Use) (ahead : Ahead) (round : Round) → left ≢ []
    → (has : HasTaken version left ahead round) → length round.places.list ≤ most_uses → Stops version has.taken (uses_ahead version.model.rows ahead)
    → IsTaken version left has.taken
taken_whole version left ahead round some has few stops =
    let long = picked_length round.keys.list round.places.list (use_key version) has.taken has.is.places in
    record {
      rest = uses_ahead version.model.rows ahead;
      front = has.front;
      some = nothing_taken version left some has.taken (uses_ahead version.model.rows ahead) has.front stops;
      few_uses = omega (arith, long, few);
      few_keys = subst (λ (l : List Key). length l ≤ most_keys) has.is.keys has.is.few;
      stops = stops;
    }
