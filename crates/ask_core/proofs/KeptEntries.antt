-- What stands among the entries of a memo after looks and fills.
use Rattle.std.proofs.Common.{◌≡◌, inl, inr, ℕ, zero, suc, ◌+◌, ◌<◌, List, [], ◌∷◌, ◌++◌, length, take, Contains, Some, Result, Ok, Err, OnErr, refl, sym, ap, subst, ◌∙◌, arith, length-append}
use Rattle.std.proofs.lemmas.List.Elements.{Contains-append_right}
use Rattle.solid_base.specs.declared.classes.Verdict.{Verdict}
use Rattle.memo_graph.specs.declared.key.Key.{Key}
use Rattle.memo_graph.specs.Memos.{Entry, verdict_of, in_front, promoted, filled}
use Rattle.memo_graph.proofs.Keeping.{none_new, one_new}
use Rattle.ask_core.specs.Runs.{looked, kept_all}
use Rattle.ask_core.proofs.CellLists.{front_taken}

-- a verdict that is found is that of an entry
pub found_entry : (key : Key) (entries : List Entry) (verdict : Verdict) → verdict_of key entries ≡ Some verdict → Contains entries (key, verdict)
unfolding promoted
found_entry key entries verdict found = none_new key entries (key, verdict) (subst (λ o. Contains (in_front key o entries) (key, verdict)) (sym found) (0, omega arith, refl))

-- looks bring no entry
pub looked_old : (keys : List Key) (entries : List Entry) (entry : Entry) → Contains (looked keys entries) entry → Contains entries entry
looked_old [] entries entry h = h
looked_old (key ∷ keys) entries entry h = none_new key entries entry (looked_old keys (promoted key entries) entry h)

-- what holds of the entries before and of those that are kept holds of all afterwards
pub kept_hold : (P : Entry → Type 0) (most : ℕ) (more entries : List Entry) → ((entry : Entry) → Contains more entry → P entry) → ((entry : Entry) → Contains entries entry → P entry)
    → (entry : Entry) → Contains (kept_all most more entries) entry → P entry
kept_hold P most [] entries new old entry h = old entry h
kept_hold P most (first ∷ more) entries new old entry h =
    kept_hold P most more (filled most first.0 first.1 entries) (λ x c. new x (Contains-append_right (first ∷ []) more x c)) still entry h where
      still : (x : Entry) → Contains (filled most first.0 first.1 entries) x → P x
      still x c = elim (one_new most first.0 first.1 entries x c) [
        | inl is ↦ subst P (sym is) (new (first.0, first.1) (0, omega arith, refl))
        | inr was ↦ old x was
      ]

-- the first entries of a list are among it
pub taken_among : (k : ℕ) (more : List Entry) (entry : Entry) → Contains (take k more) entry → Contains more entry
taken_among zero more entry h = absurd (omega (arith, h.1))
taken_among (suc k) [] entry h = h
taken_among (suc k) (first ∷ more) entry (zero, inside, is) = (0, omega arith, is)
taken_among (suc k) (first ∷ more) entry (suc i, inside, is) = Contains-append_right (first ∷ []) more entry (taken_among k more entry (i, omega (arith, inside), is))

-- ---- one entry more

pub kept_more : (most : ℕ) (more : List Entry) (entry : Entry) (entries : List Entry) → kept_all most (more ++ entry ∷ []) entries ≡ filled most entry.0 entry.1 (kept_all most more entries)
kept_more most [] entry entries = refl
kept_more most (first ∷ more) entry entries = kept_more most more entry (filled most first.0 first.1 entries)

-- ---- the fresh entries of a round

pub on_err : {A E P : Type 0} (result : Result A E) → P → OnErr result P
on_err (Ok a) p = tt
on_err (Err e) p = p

-- the entries are those after the first of some
pub kept_front : (most : ℕ) (all front rest entries after : List Entry) (entry : Entry) → all ≡ front ++ entry ∷ rest → after ≡ kept_all most front entries
    → (k : ℕ) × (k < length all) × (after ≡ kept_all most (take k all) entries)
kept_front most all front rest entries after entry is kept =
    let long : length all ≡ length front + suc (length rest) = ap (λ (l : List Entry). length l) is ∙ length-append front (entry ∷ rest) in
    (length front, omega (arith, long), kept ∙ ap (λ l. kept_all most l entries) (front_taken all front (entry ∷ rest) is))
