-- The test of keys is equality, so that a table may find keys by it. solidd's own.
use Rattle.std.proofs.Common.{◌≡◌, true, refl, ap, sym, subst, true≢false}
use Rattle.std.specs.Bool.{Decides}
use Rattle.std.specs.Cmp.{IsEquivalence, decided}
use Rattle.std.proofs.lemmas.Bool.Decides.{Decides-int_eq, Decides-eqb, Decides-and}
use Rattle.fixed_enclosure.specs.declared.enclosures.Box3.{Box3}
use Rattle.fixed_enclosure.specs.declared.enclosures.Enc.{Enc}
use Rattle.fixed_enclosure.specs.declared.enclosures.Enc.TheVariants as enc
use Rattle.memo_graph.specs.declared.key.Key.{Key}
use Rattle.memo_graph.specs.Memos.{same_ends, same_box, same_key}

pub same_ends_exact : (a b : Enc) → Decides (same_ends a b) (a ≡ b)
same_ends_exact enc.All enc.All = (λ _. refl, λ _. refl)
same_ends_exact enc.All (enc.Span lo hi) =
    (λ e. absurd (true≢false (sym e)), λ e. sym (ap (same_ends enc.All) e))
same_ends_exact (enc.Span lo hi) enc.All =
    (λ e. absurd (true≢false (sym e)), λ e. ap (same_ends enc.All) e)
same_ends_exact (enc.Span lo hi) (enc.Span lo' hi') =
    let both = Decides-and _ _ (Decides-int_eq lo lo') (Decides-int_eq hi hi') in
    let self = Decides-and _ _ (Decides-int_eq lo lo) (Decides-int_eq hi hi) in (
      λ e. let h = both.0 e in λ i. enc.Span (h.0 i) (h.1 i),
      λ e. subst (λ c. same_ends (enc.Span lo hi) c ≡ true) e (self.1 (refl, refl)),
    )

same_box_exact : (a b : Box3) → Decides (same_box a b) (a ≡ b)
same_box_exact a b =
    let both = Decides-and _ _ (same_ends_exact a.x b.x)
    (Decides-and _ _ (same_ends_exact a.y b.y) (same_ends_exact a.z b.z)) in (
      λ e. let h = both.0 e in λ i. record { x = h.0 i; y = h.1.0 i; z = h.1.1 i },
      λ e. both.1 (ap (λ (c : Box3). c.x) e, (ap (λ (c : Box3). c.y) e, ap (λ (c : Box3). c.z) e)),
    )

pub same_key_exact : (a b : Key) → Decides (same_key a b) (a ≡ b)
unfolding same_key
same_key_exact a b =
    let both = Decides-and _ _ (Decides-eqb a.de b.de)
    (Decides-and _ _ (Decides-eqb a.stamp b.stamp) (same_box_exact a.at b.at)) in (
      λ e. let h = both.0 e in λ i. record { de = h.0 i; stamp = h.1.0 i; at = h.1.1 i },
      λ e. both.1 (ap (λ (c : Key). c.de) e, (ap (λ (c : Key). c.stamp) e, ap (λ (c : Key). c.at) e)),
    )

pub same_key_equiv : IsEquivalence same_key
same_key_equiv = decided same_key same_key_exact
