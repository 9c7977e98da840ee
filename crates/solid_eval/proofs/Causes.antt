-- An open verdict has an open use of the primitive that it names.
use Rattle.std.proofs.Common.{◌≡◌, ◌⊎◌, ℕ, zero, suc, List, [], ◌∷◌, ◌++◌}
use Rattle.std.proofs.Common.{inl, inr, refl, sym, subst, ap, ◌∙◌, arith}
use Rattle.std.specs.List.{Any}
use Rattle.solid_base.specs.declared.classes.Class.TheVariants.{Mixed}
use Rattle.solid_base.specs.declared.entities.Entity.{Entity}
use Rattle.solid_base.specs.declared.solids.Primitive.{Primitive}
use Rattle.solid_base.specs.declared.solids.Row.TheVariants as row
use Rattle.solid_base.specs.References.{row_at}
use Rattle.solid_base.specs.Trees.{Operation}
use Rattle.fixed_enclosure.specs.Places.{Span3}
use Rattle.fixed_enclosure.specs.Spans.{Span}
use Rattle.csg_primitives.specs.WrittenMargins.{span_class, written_margins}
use Rattle.csg_primitives.proofs.SpanClasses.{mixed-cause}
use Rattle.affine_pull.specs.Chains.{chain_of, spans_through}
use Rattle.solid_eval.specs.Solids.{Solid, primitive, moved, combined, solid_of}
use Rattle.solid_eval.specs.Uses.{Use, uses}
use Rattle.solid_eval.specs.Written.{written}
use Rattle.solid_eval.specs.Causes.{TouchesZero, IsOpenUse, HasCause}
use Rattle.solid_eval.proofs.AllSolids.{solid-all}
use Rattle.solid_eval.proofs.FromUses.{primitive_solid}
use Rattle.solid_eval.proofs.Mixed.{side, own_number}
use Rattle.solid_eval.proofs.Sound.{named_class}

-- ---- some item of a list of two parts
module _ {X : Type 0} (P : X → Type 0) where
  some_later : (y : X) (xs : List X) → Any P xs → Any P (y ∷ xs)
  some_later y xs (k, x, within, is, p) = (suc k, x, omega (arith, within), is, p)

  pub some_left : (xs ys : List X) → Any P xs → Any P (xs ++ ys)
  some_left [] ys (k, x, within, is, p) = absurd (omega (arith, within))
  some_left (y ∷ xs) ys (zero, x, within, is, p) = (zero, x, omega arith, is, p)
  some_left (y ∷ xs) ys (suc k, x, within, is, p) =
      some_later y (xs ++ ys) (some_left xs ys (k, x, omega (arith, within), is, p))

  pub some_right : (xs ys : List X) → Any P ys → Any P (xs ++ ys)
  some_right [] ys h = h
  some_right (y ∷ xs) ys h = some_later y (xs ++ ys) (some_right xs ys h)

module _ (rows : List Entity) where
  -- the margins of a primitive over the spans carried back through its own chain
  abbrev pub margins_back : (matrix : ℕ) → Primitive → Span3 → List Span
  margins_back matrix p s = written_margins p (spans_through (chain_of rows matrix) s)

  -- the class of a primitive is that of these margins
  pub class_of_margins : (e matrix : ℕ) (p : Primitive) (s : Span3)
      → row_at rows e ≡ row.Prim p matrix
      → (written (solid_of rows e) s).class ≡ span_class (margins_back matrix p s)
  class_of_margins e matrix p s is =
      ap (λ solid. (written solid s).class) (primitive_solid rows e matrix p is)
      ∙ named_class e (span_class (margins_back matrix p s))

  -- where a solid is open there is an open use of the primitive that its verdict names
  abbrev SomeUseIsOpen : Solid → Type 0
  SomeUseIsOpen solid = (s : Span3) → (written solid s).class ≡ Mixed
      → Any (IsOpenUse rows (written solid s).leaf) (uses solid s)

  one : (e matrix : ℕ) (p : Primitive) → row_at rows e ≡ row.Prim p matrix
      → SomeUseIsOpen (primitive e (chain_of rows matrix) p)
  one e matrix p is s mixed =
      let u : Use = record { number = e; spans = s } in
      let margins = margins_back matrix p s in
      let own = sym (named_class e (span_class margins)) ∙ mixed in
      let class = class_of_margins e matrix p s is ∙ own in
      let held = ((mixed-cause margins).0 own).1 in
      let touches = subst (λ r. TouchesZero (chain_of rows) r s) (sym is) held in
      let open_use : IsOpenUse rows e u = (refl, class, touches) in
      let number = sym (own_number e (span_class margins) mixed) in
      (0, u, omega arith, refl, subst (λ d. IsOpenUse rows d u) number open_use)

  of_side : (a b : Solid) (s : Span3) (leaf : ℕ) → SomeUseIsOpen a → SomeUseIsOpen b
      → (((written a s).class ≡ Mixed) × (leaf ≡ (written a s).leaf))
      ⊎ (((written b s).class ≡ Mixed) × (leaf ≡ (written b s).leaf))
      → Any (IsOpenUse rows leaf) (uses a s ++ uses b s)
  of_side a b s leaf f g (inl h) =
      let left = subst (λ d. Any (IsOpenUse rows d) (uses a s)) (sym h.1) (f s h.0) in
      some_left (IsOpenUse rows leaf) (uses a s) (uses b s) left
  of_side a b s leaf f g (inr h) =
      let right = subst (λ d. Any (IsOpenUse rows d) (uses b s)) (sym h.1) (g s h.0) in
      some_right (IsOpenUse rows leaf) (uses a s) (uses b s) right

  both : (o : Operation) (a b : Solid) → SomeUseIsOpen a → SomeUseIsOpen b
      → SomeUseIsOpen (combined o a b)
  both o a b f g s mixed =
      let v = written a s in
      let w = written b s in
      let open_side = side o v.class w.class v.leaf w.leaf mixed in
      of_side a b s (written (combined o a b) s).leaf f g open_side

  move : (m : ℕ) (part : Solid) → SomeUseIsOpen part → SomeUseIsOpen (moved (chain_of rows m) part)
  move m part h s = h (spans_through (chain_of rows m) s)

  pub open_use : (e : ℕ) (s : Span3) → HasCause rows e s (written (solid_of rows e) s)
  open_use e = solid-all rows SomeUseIsOpen (λ s mixed. absurd cc) one move (λ e part h. h) both e
