-- Any three spans are those of a box, so what holds of boxes holds of spans.
use Rattle.std.proofs.Common.{◌≡◌, ◌≢◌, ℕ, ◌<◌, refl, sym, ap, ◌∙◌, subst}
use Rattle.solid_base.specs.declared.classes.Class.{Class}
use Rattle.solid_base.specs.declared.classes.Class.TheVariants.{Outside, Mixed, Inside}
use Rattle.solid_base.specs.declared.geometry.Vec3.{Vec3}
use Rattle.solid_base.specs.declared.solids.Primitive.{Primitive}
use Rattle.solid_base.specs.Ranges.{IsLawfulPrim}
use Rattle.fixed_enclosure.specs.declared.enclosures.Enc.{Enc}
use Rattle.fixed_enclosure.specs.declared.enclosures.Enc.TheVariants as enc
use Rattle.fixed_enclosure.specs.declared.enclosures.Box3.{Box3}
use Rattle.fixed_enclosure.specs.Spans.{Span, Every, Between, enc_span}
use Rattle.fixed_enclosure.specs.Places.{Span3, spans_of, SpansHold, AreNested}
use Rattle.csg_primitives.specs.ExactMargins.{primitive_class}
use Rattle.csg_primitives.specs.WrittenMargins.{span_class, written_margins}
use Rattle.csg_primitives.proofs.Soundness.{inside-sound, outside-sound}
use Rattle.csg_primitives.proofs.MarginsNest.{class-in}
use Rattle.boolean_tree.specs.Verdicts.{Decides}

abbrev enc_of : Span → Enc
enc_of Every = enc.All
enc_of (Between lo hi) = enc.Span lo hi

same_span : (s : Span) → enc_span (enc_of s) ≡ s
same_span Every = refl
same_span (Between lo hi) = refl

abbrev box_from : Span3 → Box3
box_from s = record { x = enc_of s.x; y = enc_of s.y; z = enc_of s.z }

same_spans : (s : Span3) → spans_of (box_from s) ≡ s
same_spans s =
    ap (λ x. record { x = x; y = enc_span (enc_of s.y); z = enc_span (enc_of s.z) }) (same_span s.x)
    ∙ ap (λ y. record { x = s.x; y = y; z = enc_span (enc_of s.z) }) (same_span s.y)
    ∙ ap (λ z. record { x = s.x; y = s.y; z = z }) (same_span s.z)

-- different boxes have different spans
one_enc : (a b : Enc) → enc_span a ≡ enc_span b → a ≡ b
one_enc enc.All enc.All is = refl
one_enc enc.All (enc.Span lo hi) is = absurd cc
one_enc (enc.Span lo hi) enc.All is = absurd cc
one_enc (enc.Span lo hi) (enc.Span low high) is = cc

pub one_box : (a b : Box3) → spans_of a ≡ spans_of b → a ≡ b
one_box a b is =
    let x = one_enc a.x b.x (ap (λ (s : Span3). s.x) is) in
    let y = one_enc a.y b.y (ap (λ (s : Span3). s.y) is) in
    let z = one_enc a.z b.z (ap (λ (s : Span3). s.z) is) in
    ap (λ (x : Enc). record { x = x; y = a.y; z = a.z }) x
    ∙ ap (λ (y : Enc). record { x = b.x; y = y; z = a.z }) y
    ∙ ap (λ (z : Enc). record { x = b.x; y = b.y; z = z }) z

-- ---- a primitive's class over spans decides that of each place in them
decides_by : (k c : Class) → (k ≡ Inside → c ≡ Inside) → (k ≡ Outside → c ≡ Outside) → Decides k c
decides_by Outside c inside out = out refl
decides_by Mixed c inside out = tt
decides_by Inside c inside out = inside refl

box-sound : (m : ℕ) (q : Primitive) (box : Box3) (p : Vec3) → 0 < m → IsLawfulPrim q → SpansHold m (spans_of box) p → Decides (span_class (written_margins q (spans_of box))) (primitive_class m q p)
box-sound m q box p parts l h = decides_by _ _ (inside-sound m q box p parts l h) (outside-sound m q box p parts l h)

pub primitive-sound : (m : ℕ) (q : Primitive) (s : Span3) (p : Vec3) → 0 < m → IsLawfulPrim q → SpansHold m s p → Decides (span_class (written_margins q s)) (primitive_class m q p)
primitive-sound m q s p parts l h =
    subst (λ s. Decides (span_class (written_margins q s)) (primitive_class m q p)) (same_spans s) (box-sound m q (box_from s) p parts l (subst (λ s. SpansHold m s p) (sym (same_spans s)) h))

-- ---- and that over spans within
decides_same : (k c : Class) → (k ≢ Mixed → c ≡ k) → Decides k c
decides_same Outside c same = same (λ e. cc)
decides_same Mixed c same = tt
decides_same Inside c same = same (λ e. cc)

box-nested : (q : Primitive) (inner outer : Box3) → IsLawfulPrim q → AreNested (spans_of inner) (spans_of outer) → Decides (span_class (written_margins q (spans_of outer))) (span_class (written_margins q (spans_of inner)))
box-nested q inner outer l h = decides_same _ _ (class-in q inner outer l (h.0.0, h.1.0, h.2.0) (h.0.1, h.1.1, h.2.1))

pub primitive-nested : (q : Primitive) (inner outer : Span3) → IsLawfulPrim q → AreNested inner outer → Decides (span_class (written_margins q outer)) (span_class (written_margins q inner))
primitive-nested q inner outer l h =
    let boxes = subst (λ s. AreNested s (spans_of (box_from outer))) (sym (same_spans inner)) (subst (λ s. AreNested inner s) (sym (same_spans outer)) h) in
    subst (λ s. Decides (span_class (written_margins q s)) (span_class (written_margins q inner))) (same_spans outer)
    (subst (λ s. Decides (span_class (written_margins q (spans_of (box_from outer)))) (span_class (written_margins q s))) (same_spans inner) (box-nested q (box_from inner) (box_from outer) l boxes))
