-- The name of a command is read as the definition says.
use Rattle.std.proofs.Common.{◌≡◌, ◌⊎◌, inl, inr, ℕ, List, [], ◌∷◌, Bool, true, false, IsTrue, nat_eq, cond, codes, Option, Some, None, Result, Ok, Err, refl, sym, ap, ◌∙◌, arith, true≢false}
use Rattle.std.proofs.lemmas.Grind.{common_steps}
use Rattle.std.specs.List.{find}
use Rattle.script_lines.specs.declared.faults.LineFault.{LineFault}
use Rattle.script_lines.specs.declared.faults.LineFault.TheVariants as fault
use Rattle.script_lines.specs.declared.tables.Kind.{Kind}
use Rattle.script_lines.specs.declared.tables.Kind.TheVariants as kind
use Rattle.script_lines.specs.Tables.{word_of, may_be_live}
use Rattle.script_lines.specs.Words.{Word, end_of}
use Rattle.script_lines.specs.Grammar.{Names, held, live, IsUnfinished, nothing, after_live}
use Rattle.script_lines.specs.Reading.{Left, same_text, all_kinds, kind_named, live_named, name_at, next_word}
use Rattle.script_lines.proofs.FittingLaws.{is_there, and_parts, passing_sound, passing_again}

same_sound : (a b : List ℕ) → same_text a b ≡ true → a ≡ b
same_sound [] [] e = refl
same_sound [] (b ∷ bs) e = absurd (true≢false (sym e))
same_sound (a ∷ more) [] e = absurd (true≢false (sym e))
same_sound (a ∷ more) (b ∷ bs) e =
    let (h, t) = and_parts (nat_eq a b) (same_text more bs) e in
    let head : a ≡ b = grind (arith, common_steps, h) in
    ap (λ (x : ℕ). x ∷ more) head ∙ ap (λ (l : List ℕ). b ∷ l) (same_sound more bs t)

find_sound : (p : Kind → Bool) (kinds : List Kind) (k : Kind) → find p kinds ≡ Some k → p k ≡ true
find_sound p [] k e = absurd (true≢false (ap is_there (sym e)))
find_sound p (x ∷ kinds) k e = go (p x) refl e (find_sound p kinds k)
  where
    go : (v : Bool) → p x ≡ v → cond v (Some x) (find p kinds) ≡ Some k → (find p kinds ≡ Some k → p k ≡ true) → p k ≡ true
    go true h e more = ap p (ap (λ (o : Option Kind). elim o as (λ _. Kind) [ None ↦ x | Some y ↦ y ]) (sym e)) ∙ h
    go false h e more = more e

pub kind_sound : (text : List ℕ) (k : Kind) → kind_named text ≡ Some k → text ≡ word_of k
unfolding kind_named
kind_sound text k e = same_sound text (word_of k) (find_sound (λ x. same_text text (word_of x)) all_kinds k e)

word_named : (k : Kind) → kind_named (word_of k) ≡ Some k
unfolding kind_named
word_named kind.Point = refl
word_named kind.Cell = refl
word_named kind.Items = refl
word_named kind.Section = refl
word_named kind.Volume = refl
word_named kind.Bounds = refl
word_named kind.Export = refl
word_named kind.Newest = refl
word_named kind.Replace = refl
word_named kind.Add = refl
word_named kind.Drop = refl
word_named kind.Commit = refl

pub kind_complete : (text : List ℕ) (k : Kind) → text ≡ word_of k → kind_named text ≡ Some k
kind_complete text k e = ap kind_named e ∙ word_named k

pub not_live : (k : Kind) → same_text (word_of k) (codes "live") ≡ false
not_live kind.Point = refl
not_live kind.Cell = refl
not_live kind.Items = refl
not_live kind.Section = refl
not_live kind.Volume = refl
not_live kind.Bounds = refl
not_live kind.Export = refl
not_live kind.Newest = refl
not_live kind.Replace = refl
not_live kind.Add = refl
not_live kind.Drop = refl
not_live kind.Commit = refl

-- ---- what Names and IsUnfinished say, by the words

abbrev LiveNames : List Word → Kind → List Word → Type 0
LiveNames [] k others = ⊥
LiveNames (v ∷ more) k others = (v.text ≡ word_of k) × IsTrue (may_be_live k)

abbrev NamesParts : List Word → Kind → List Word → Type 0
NamesParts [] k others = ⊥
NamesParts (w ∷ words) k others = (w.text ≡ word_of k) ⊎ ((w.text ≡ codes "live") × LiveNames words k others)

names_parts : {words : List Word} {is_live : Bool} {k : Kind} {others : List Word} → Names words is_live k others → NamesParts words k others
names_parts (held e) = inl e
names_parts (live e f t) = inr (e, (f, t))

abbrev UnfinishedParts : List Word → Type 0
UnfinishedParts [] = Unit {0}
UnfinishedParts (w ∷ []) = w.text ≡ codes "live"
UnfinishedParts (w ∷ v ∷ words) = ⊥

unfinished_parts : {words : List Word} → IsUnfinished words → UnfinishedParts words
unfinished_parts nothing = tt
unfinished_parts (after_live e) = e

-- ---- the name that is read

abbrev pub NameIs : List ℕ → List Word → Result ((Kind × Bool) × Left) LineFault → Type 0
NameIs line words (Ok x) = (others : List Word) × Names words x.0.1 x.0.0 others × (x.1 ≡ record { line = line; words = others })
NameIs line words (Err f) =
    (IsUnfinished words × (f ≡ fault.BadLine (end_of line)))
    ⊎ (¬ IsUnfinished words × ((is_live : Bool) (k : Kind) (others : List Word) → ¬ Names words is_live k others) × (f ≡ fault.UnknownCommand))

live_word : (text : List ℕ) → text ≡ codes "live" → same_text text (codes "live") ≡ false → ⊥
live_word text e h = true≢false (ap (λ (t : List ℕ). same_text t (codes "live")) (sym e) ∙ h)

kind_word : (text : List ℕ) (k : Kind) → text ≡ word_of k → same_text text (codes "live") ≡ true → ⊥
kind_word text k e h = true≢false (sym h ∙ ap (λ (t : List ℕ). same_text t (codes "live")) e ∙ not_live k)

live_sound : (text : List ℕ) (k : Kind) → live_named text ≡ Some k → (text ≡ word_of k) × IsTrue (may_be_live k)
unfolding live_named
live_sound text k e = let (n, t) = passing_sound may_be_live (kind_named text) k e in (kind_sound text k n, t)

pub live_complete : (text : List ℕ) (k : Kind) → text ≡ word_of k → IsTrue (may_be_live k) → live_named text ≡ Some k
unfolding live_named
live_complete text k e t = passing_again may_be_live (kind_named text) k (kind_complete text k e) t

pub name_read : (line : List ℕ) (words : List Word) → NameIs line words (name_at (record { line = line; words = words }))
unfolding name_at next_word
name_read line [] = inl (nothing, refl)
name_read line (w ∷ []) = go (same_text w.text (codes "live")) refl (kind_named w.text) refl
  where
    go : (v : Bool) → same_text w.text (codes "live") ≡ v → (o : Option Kind) → kind_named w.text ≡ o → NameIs line (w ∷ []) (name_at (record { line = line; words = w ∷ [] }))
    go true h o e = rw h (inl (after_live (same_sound w.text (codes "live") h), refl))
    go false h (Some k) e = rw (h, e) ([], held (kind_sound w.text k e), refl)
    go false h None e = rw (h, e) (inr (
      (λ u. live_word w.text (unfinished_parts u) h),
      (λ is_live k others n. elim (names_parts n) as (λ _. ⊥) [ inl x ↦ true≢false (ap is_there (sym (kind_complete w.text k x) ∙ e)) | inr x ↦ live_word w.text x.0 h ]),
      refl,
    ))
name_read line (w ∷ v ∷ words) = go (same_text w.text (codes "live")) refl (kind_named w.text) refl (live_named v.text) refl
  where
    go : (t : Bool) → same_text w.text (codes "live") ≡ t → (o : Option Kind) → kind_named w.text ≡ o → (p : Option Kind) → live_named v.text ≡ p
        → NameIs line (w ∷ v ∷ words) (name_at (record { line = line; words = w ∷ v ∷ words }))
    go true h o e (Some k) f = rw (h, f) (let x = live_sound v.text k f in (words, live (same_sound w.text (codes "live") h) x.0 x.1, refl))
    go true h o e None f = rw (h, f) (inr (
      (λ u. unfinished_parts u),
      (λ is_live k others n. elim (names_parts n) as (λ _. ⊥) [ inl x ↦ kind_word w.text k x h | inr x ↦ true≢false (ap is_there (sym (live_complete v.text k x.1.0 x.1.1) ∙ f)) ]),
      refl,
    ))
    go false h (Some k) e p f = rw (h, e) (v ∷ words, held (kind_sound w.text k e), refl)
    go false h None e p f = rw (h, e) (inr (
      (λ u. unfinished_parts u),
      (λ is_live k others n. elim (names_parts n) as (λ _. ⊥) [ inl x ↦ true≢false (ap is_there (sym (kind_complete w.text k x) ∙ e)) | inr x ↦ live_word w.text x.0 h ]),
      refl,
    ))
