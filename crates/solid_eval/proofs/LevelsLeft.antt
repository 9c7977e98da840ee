-- What is left on levels when one is pushed, moved on or taken off.
use Rattle.std.proofs.Common.{◌≡◌, ℕ, suc, ◌+◌, ◌-◌, slice_index_or, slice_set, ◌≤◌, ◌<◌, List, [], ◌∷◌, ◌++◌, Some, None, MatchOption, length, refl, sym, ap, ◌∙◌, subst, arith, append_assoc, append-nil}
use Rattle.std.specs.List.{AllByRecursion}
use Rattle.std.proofs.lemmas.List.{length-append}
use Rattle.std.proofs.Math.Seq.{get_or-append_seam, set-append_seam}
use Rattle.solid_base.specs.declared.entities.Entity.{Entity}
use Rattle.solid_base.specs.Stack.{Stack}
use Rattle.solid_base.specs.Graph.{most_levels, depth_of, weight_of, AreSound}
use Rattle.solid_base.specs.Ranges.{IsLawfulRow}
use Rattle.solid_base.specs.References.{row_at}
use Rattle.fixed_enclosure.specs.declared.enclosures.Box3.{Box3}
use Rattle.fixed_enclosure.specs.Places.{Span3, spans_of}
use Rattle.affine_pull.specs.Chains.{chain_of, spans_through}
use Rattle.entity_graph.specs.Opaque.{ReachesOpaque}
use Rattle.entity_graph.proofs.Levels.{no_levels}
use Rattle.solid_eval.specs.declared.level_stack.Level.{Level}
use Rattle.solid_eval.specs.declared.parts.Part.{Part}
use Rattle.solid_eval.specs.LevelStack.{outer}
use Rattle.solid_eval.specs.Solids.{solid_of}
use Rattle.solid_eval.specs.Uses.{Use, uses}
use Rattle.solid_eval.specs.Walking.{part_spans, uses_from, level_uses, levels_uses, IsLevel, AreLevels, IsStack, IsPart, own_matrix}
use Rattle.solid_eval.proofs.FromUses.{uses_counted}
use Rattle.solid_eval.proofs.NextParts.{IsUsedItself, IsOpenedBy, own_uses}
use Rattle.solid_eval.proofs.Uses.{count_exact}

-- the place in the innermost level is set
pub index_set : (levels front : List Level) (n k : ℕ) (now l : Level) → n ≡ length levels → now ≡ slice_index_or levels (n - 1) now → levels ≡ front ++ l ∷ []
    → slice_set levels (n - 1) (record { e = now.e; at = now.at; index = k }) ≡ front ++ record { e = l.e; at = l.at; index = k } ∷ []
index_set levels front n k now l long value is =
    let last : n - 1 ≡ length front = omega (arith, long, ap length is ∙ length-append front (l ∷ [])) in
    let same : now ≡ l = value ∙ ap (λ ls. slice_index_or ls (n - 1) now) is ∙ ap (λ i. slice_index_or (front ++ l ∷ []) i now) last ∙ get_or-append_seam front l [] now in
    ap (λ ls. slice_set ls (n - 1) (record { e = now.e; at = now.at; index = k })) is
    ∙ ap (λ i. slice_set (front ++ l ∷ []) i (record { e = now.e; at = now.at; index = k })) last
    ∙ set-append_seam front l [] (record { e = now.e; at = now.at; index = k })
    ∙ ap (λ (m : Level). front ++ record { e = m.e; at = m.at; index = k } ∷ []) same

module _ (rows : List Entity) where
  pub uses_pushed : (levels : List Level) (l : Level) → levels_uses rows (levels ++ l ∷ []) ≡ level_uses rows l ++ levels_uses rows levels
  uses_pushed [] l = sym (append-nil (level_uses rows l))
  uses_pushed (x ∷ levels) l =
      ap (λ u. u ++ level_uses rows x) (uses_pushed levels l) ∙ append_assoc (level_uses rows l) (levels_uses rows levels) (level_uses rows x)

  all_pushed : (n m : ℕ) (levels : List Level) (l : Level) → m ≡ n + length levels → AreLevels rows n levels → IsLevel rows m l → AreLevels rows n (levels ++ l ∷ [])
  all_pushed n m [] l is all h = (subst (λ k. IsLevel rows k l) (omega (arith, is)) h, tt)
  all_pushed n m (x ∷ levels) l is all h = (all.0, all_pushed (suc n) m levels l (omega (arith, is)) all.1 h)

  all_popped : (n m : ℕ) (levels : List Level) (l : Level) → m ≡ n + length levels → AreLevels rows n (levels ++ l ∷ []) → AreLevels rows n levels × IsLevel rows m l
  all_popped n m [] l is all = (tt, subst (λ k. IsLevel rows k l) (omega (arith, is)) all.0)
  all_popped n m (x ∷ levels) l is all = let rest = all_popped (suc n) m levels l (omega (arith, is)) all.1 in ((all.0, rest.0), rest.1)

  pub stack_pushed : (old new : Stack Level) (l : Level) → IsStack rows old → IsLevel rows (length old.list) l → new.list ≡ old.list ++ l ∷ [] → new.spare + 1 ≡ old.spare → IsStack rows new
  stack_pushed old new l h level list spare = record {
    each = subst (AreLevels rows 0) (sym list) (all_pushed 0 (length old.list) old.list l (omega arith) h.each level);
    room = let long : length new.list ≡ length old.list + 1 = ap length list ∙ length-append old.list (l ∷ []) in omega (arith, long, spare, h.room);
  }

  pub stack_popped : (old new : Stack Level) (l : Level) → IsStack rows old → old.list ≡ new.list ++ l ∷ [] → new.spare ≡ old.spare + 1 → IsStack rows new × IsLevel rows (length new.list) l
  stack_popped old new l h list spare =
      let both = all_popped 0 (length new.list) new.list l (omega arith) (subst (AreLevels rows 0) list h.each) in
      let long : length old.list ≡ length new.list + 1 = ap length list ∙ length-append new.list (l ∷ []) in
      (record { each = both.0; room = omega (arith, long, spare, h.room) }, both.1)

  -- ---- the innermost level, and those before it
  abbrev pub before_last : Stack Level → Stack Level
  before_last levels = record { list = outer levels.list; spare = levels.spare + 1 }

  pub innermost : (levels : Stack Level) (l : Level) → IsStack rows levels → levels.list ≡ outer levels.list ++ l ∷ [] → IsStack rows (before_last levels) × IsLevel rows (length (outer levels.list)) l
  innermost levels l h is = stack_popped levels (before_last levels) l h is refl

  pub has_room : AreSound rows → (levels : Stack Level) (e : ℕ) → IsStack rows levels → depth_of rows e + length levels.list ≤ most_levels → 0 < levels.spare
  has_room sound levels e h deep = let one = (no_levels rows sound.shallow e).depth in omega (arith, one, deep, h.room)

  -- ---- a part of a level is taken, and the level is pushed with the place after it
  abbrev after_part : Level → Part → Level
  after_part l part = record { e = l.e; at = l.at; index = part.next }

  pub part_taken : (below pushed : Stack Level) (l : Level) (part : Part) → IsStack rows below → IsLevel rows (length below.list) l → IsPart rows l part
      → pushed.list ≡ below.list ++ after_part l part ∷ [] → pushed.spare + 1 ≡ below.spare → IsStack rows pushed × (depth_of rows part.number + length pushed.list ≤ most_levels)
  part_taken below pushed l part stack level h list spare =
      let long : length pushed.list ≡ length below.list + 1 = ap length list ∙ length-append below.list (after_part l part ∷ []) in
      let next : IsLevel rows (length below.list) (after_part l part) = record { at = level.at; deep = level.deep; reads = level.reads } in
      (stack_pushed below pushed (after_part l part) stack next list spare, omega (arith, long, level.deep, h.less))

  -- the uses of the part, those left on its level, and those left on the levels before
  pub left_below : (below pushed : Stack Level) (l : Level) (part : Part) (there : Box3) (rest : List Use) → IsPart rows l part → pushed.list ≡ below.list ++ after_part l part ∷ []
      → spans_of there ≡ part_spans rows l part → uses (solid_of rows part.number) (spans_of there) ++ levels_uses rows pushed.list ≡ rest → level_uses rows l ++ levels_uses rows below.list ≡ rest
  left_below below pushed l part there rest h list placed found =
      let first = uses (solid_of rows part.number) (part_spans rows l part) in
      let before = levels_uses rows below.list in
      let pushed_left = ap (levels_uses rows) list ∙ uses_pushed below.list (after_part l part) in
      ap (λ u. u ++ before) h.first ∙ append_assoc first (level_uses rows (after_part l part)) before ∙ ap (λ u. first ++ u) (sym pushed_left)
      ∙ ap (λ s. uses (solid_of rows part.number) s ++ levels_uses rows pushed.list) (sym placed) ∙ found

  -- the uses of an entity are those left on a level of its own that no part was taken from
  pub opened_left : (e matrix : ℕ) (at back : Box3) → AllByRecursion (λ (e : Entity). IsLawfulRow e.row) rows → AreSound rows → ((k : ℕ) → ¬ ReachesOpaque rows e k) → 1 ≤ weight_of rows e
      → Some matrix ≡ own_matrix (row_at rows e) → spans_of back ≡ spans_through (chain_of rows matrix) (spans_of at) → uses (solid_of rows e) (spans_of at) ≡ level_uses rows (record { e = e; at = back; index = 0 })
  opened_left e matrix at back lawful sound reads weighs is pulled =
      let opened : IsOpenedBy rows e matrix = subst (λ m. MatchOption m (IsUsedItself rows e) (IsOpenedBy rows e)) (sym is) (own_uses rows lawful sound e (row_at rows e) reads weighs refl) in
      opened (spans_of at) ∙ ap (uses_from rows (row_at rows e) 0) (sym pulled)

  pub itself_left : (e : ℕ) (s : Span3) → AllByRecursion (λ (e : Entity). IsLawfulRow e.row) rows → AreSound rows → ((k : ℕ) → ¬ ReachesOpaque rows e k) → 1 ≤ weight_of rows e
      → None ≡ own_matrix (row_at rows e) → uses (solid_of rows e) s ≡ record { number = e; spans = s } ∷ []
  itself_left e s lawful sound reads weighs is =
      let used : IsUsedItself rows e = subst (λ m. MatchOption m (IsUsedItself rows e) (IsOpenedBy rows e)) (sym is) (own_uses rows lawful sound e (row_at rows e) reads weighs refl) in
      used s

  -- an entity that weighs something has a use
  pub some_left : AllByRecursion (λ (e : Entity). IsLawfulRow e.row) rows → (e : ℕ) (s : Span3) → ((k : ℕ) → ¬ ReachesOpaque rows e k) → 1 ≤ weight_of rows e → uses (solid_of rows e) s ≡ [] → ⊥
  some_left lawful e s reads weighs none =
      let counted : length (uses (solid_of rows e) s) ≡ weight_of rows e = uses_counted (solid_of rows e) s ∙ count_exact rows e lawful reads in
      let empty : length (uses (solid_of rows e) s) ≡ 0 = ap length none in
      omega (arith, counted, empty, weighs)
