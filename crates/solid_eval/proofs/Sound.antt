-- A verdict's class decides the class of each place that the spans hold, and the verdict over spans within.
use Rattle.std.proofs.Common.{◌≡◌, ◌≢◌, ℕ, ◌<◌, List, refl, sym, ap, ◌∙◌}
use Rattle.std.specs.List.{AllByRecursion}
use Rattle.solid_base.specs.declared.classes.Class.{Class}
use Rattle.solid_base.specs.declared.classes.Class.TheVariants.{Outside, Mixed, Inside}
use Rattle.solid_base.specs.declared.classes.Verdict.{Verdict}
use Rattle.solid_base.specs.declared.entities.Entity.{Entity}
use Rattle.solid_base.specs.declared.geometry.Vec3.{Vec3}
use Rattle.solid_base.specs.Ranges.{IsLawfulRow}
use Rattle.fixed_enclosure.specs.declared.enclosures.Box3.{Box3}
use Rattle.fixed_enclosure.specs.Places.{Span3, spans_of, SpansHold, AreNested}
use Rattle.csg_primitives.specs.WrittenMargins.{span_class, written_margins}
use Rattle.boolean_tree.specs.Verdicts.{class_of, leaf_of, Decides}
use Rattle.boolean_tree.proofs.Deciding.{two_decides}
use Rattle.affine_pull.specs.Chains.{parts_through, pulled_through, spans_through}
use Rattle.affine_pull.proofs.Enclosed.{through-held, parts-positive}
use Rattle.affine_pull.proofs.Nests.{through-nested}
use Rattle.solid_eval.specs.Solids.{Solid, nothing, primitive, moved, entity, combined, solid_of}
use Rattle.solid_eval.specs.Classes.{place_class, IsOfPlaces}
use Rattle.solid_eval.specs.Written.{named, written}
use Rattle.solid_eval.proofs.AllSolids.{IsLawful, lawful-solid}
use Rattle.solid_eval.proofs.BoxesOfSpans.{primitive-sound, primitive-nested}

pub named_class : (e : ℕ) (k : Class) → (named e k).class ≡ k
named_class e Outside = refl
named_class e Mixed = refl
named_class e Inside = refl

pub sound : (m : ℕ) (solid : Solid) (s : Span3) (p : Vec3) → 0 < m → IsLawful solid → SpansHold m s p → Decides (written solid s).class (place_class m solid p)
sound m nothing s p parts l h = refl
sound m (primitive e chain q) s p parts l h =
    rw (named_class e (span_class (written_margins q (spans_through chain s))))
    (primitive-sound (parts_through m chain) q (spans_through chain s) (pulled_through m chain p) (parts-positive m chain parts) l.1 (through-held m chain s p h))
sound m (moved chain part) s p parts l h = sound (parts_through m chain) part (spans_through chain s) (pulled_through m chain p) (parts-positive m chain parts) l.1 (through-held m chain s p h)
sound m (entity e part) s p parts l h = sound m part s p parts l h
sound m (combined o a b) s p parts l h = two_decides o (written a s).class (written b s).class (place_class m a p) (place_class m b p) (sound m a s p parts l.0 h) (sound m b s p parts l.1 h)

pub nested : (solid : Solid) (inner outer : Span3) → IsLawful solid → AreNested inner outer → Decides (written solid outer).class (written solid inner).class
nested nothing inner outer l h = refl
nested (primitive e chain q) inner outer l h =
    rw (named_class e (span_class (written_margins q (spans_through chain inner))), named_class e (span_class (written_margins q (spans_through chain outer))))
    (primitive-nested q (spans_through chain inner) (spans_through chain outer) l.1 (through-nested chain inner outer l.0 h))
nested (moved chain part) inner outer l h = nested part (spans_through chain inner) (spans_through chain outer) l.1 (through-nested chain inner outer l.0 h)
nested (entity e part) inner outer l h = nested part inner outer l h
nested (combined o a b) inner outer l h =
    two_decides o (written a outer).class (written b outer).class (written a inner).class (written b inner).class (nested a inner outer l.0 h) (nested b inner outer l.1 h)

-- ---- what is decided
pub decided : (k c d : Class) → Decides k c → k ≡ d → d ≢ Mixed → c ≡ d
decided Outside c d h is n = h ∙ is
decided Mixed c d h is n = absurd (n (sym is))
decided Inside c d h is n = h ∙ is

named_leaf : (e : ℕ) (k : Class) → k ≢ Mixed → (named e k).leaf ≡ 0
named_leaf e Outside n = refl
named_leaf e Mixed n = absurd (n refl)
named_leaf e Inside n = refl

no_leaf : (k : Class) (a b : Verdict) → k ≢ Mixed → leaf_of k a b ≡ 0
no_leaf Outside a b n = refl
no_leaf Mixed a b n = absurd (n refl)
no_leaf Inside a b n = refl

-- a class that isn't Mixed has no leaf
pub leaf_zero : (solid : Solid) (s : Span3) → (written solid s).class ≢ Mixed → (written solid s).leaf ≡ 0
leaf_zero nothing s n = refl
leaf_zero (primitive e chain q) s n =
    let k = span_class (written_margins q (spans_through chain s)) in
    named_leaf e k (λ is. n (named_class e k ∙ is))
leaf_zero (moved chain part) s n = leaf_zero part (spans_through chain s) n
leaf_zero (entity e part) s n = leaf_zero part s n
leaf_zero (combined o a b) s n = no_leaf (class_of o (written a s).class (written b s).class) (written a s) (written b s) n

same_verdict : (v w : Verdict) → v.class ≡ w.class → v.leaf ≡ w.leaf → v ≡ w
same_verdict v w c l = ap (λ k. record { class = k; leaf = v.leaf }) c ∙ ap (λ n. record { class = w.class; leaf = n }) l

pub isotone : (solid : Solid) (inner outer : Span3) → IsLawful solid → AreNested inner outer → (written solid outer).class ≢ Mixed → written solid inner ≡ written solid outer
isotone solid inner outer l h n =
    let class = decided (written solid outer).class (written solid inner).class (written solid outer).class (nested solid inner outer l h) refl n in
    let leaf = leaf_zero solid inner (λ is. n (sym class ∙ is)) ∙ sym (leaf_zero solid outer n) in
    same_verdict (written solid inner) (written solid outer) class leaf

-- ---- the entities of lawful rows
pub of_places : (rows : List Entity) (e : ℕ) (box : Box3)
    → AllByRecursion (λ (e : Entity). IsLawfulRow e.row) rows
    → IsOfPlaces (solid_of rows e) box (written (solid_of rows e) (spans_of box)).class
of_places rows e box lawful m at parts held =
    sound m (solid_of rows e) (spans_of box) at parts (lawful-solid rows e lawful) held
