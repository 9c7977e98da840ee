-- `==` of packed keys is equality of the keys, and keys of other digests are other keys.
use Rattle.std.proofs.Common.{◌≡◌, ◌≢◌, ℕ, nat_eq, refl, ap, sym, ◌∙◌}
use Rattle.std.specs.Bool.{Decides}
use Rattle.std.proofs.lemmas.Bool.Decides.{Decides-int_eq, Decides-eqb, Decides-and}
use Rattle.std.proofs.lemmas.Bool.Decides.{same_from_decides}
use Rattle.memo_graph.specs.declared.key.Key.{Key}
use Rattle.memo_graph.specs.declared.packed_key.Ends.{Ends}
use Rattle.memo_graph.specs.declared.packed_key.Ends.TheVariants as ends
use Rattle.memo_graph.specs.declared.packed_key.PackedKey.{PackedKey}
use Rattle.memo_graph.specs.contracts.packed_key.EndsPartialEq.TheImpl as ends_test
use Rattle.memo_graph.specs.contracts.packed_key.PackedKeyPartialEq.TheImpl as packed_test
use Rattle.memo_graph.specs.Digests.{key_digest}
use Rattle.memo_graph.specs.Memos.{same_key}
use Rattle.memo_graph.specs.PackedKeys.{key_of, packed_of, packed_again}
use Rattle.memo_graph.proofs.Keys.{same_key_exact}

ends_exact : (a b : Ends) → Decides (ends_test.eq-value.it a b) (a ≡ b)
ends_exact ends.All ends.All = (λ _. refl, λ _. refl)
ends_exact ends.All (ends.Span lo hi) = (λ e. absurd cc, λ e. absurd cc)
ends_exact (ends.Span lo hi) ends.All = (λ e. absurd cc, λ e. absurd cc)
ends_exact (ends.Span lo hi) (ends.Span lo' hi') =
    let both = Decides-and _ _ (Decides-int_eq lo lo') (Decides-int_eq hi hi') in
    (λ e. let h = both.0 e in λ i. ends.Span (h.0 i) (h.1 i), λ e. both.1 (cc e, cc e))

packed_exact : (a b : PackedKey) → Decides (packed_test.eq-value.it a b) (a ≡ b)
packed_exact a b =
    let both = Decides-and _ _ (Decides-eqb a.de b.de)
    (Decides-and _ _ (Decides-eqb a.stamp b.stamp)
    (Decides-and _ _ (ends_exact a.x b.x)
    (Decides-and _ _ (ends_exact a.y b.y) (ends_exact a.z b.z)))) in (
      λ e. let h = both.0 e in λ i. record {
        de = h.0 i;
        stamp = h.1.0 i;
        x = h.1.1.0 i;
        y = h.1.1.1.0 i;
        z = h.1.1.1.1 i;
      },
      λ e. both.1 (
        ap (λ (c : PackedKey). c.de) e,
        (
          ap (λ (c : PackedKey). c.stamp) e,
          (
            ap (λ (c : PackedKey). c.x) e,
            (ap (λ (c : PackedKey). c.y) e, ap (λ (c : PackedKey). c.z) e),
          ),
        ),
      ),
    )

-- packed keys are the same where the keys that they are are
key_exact : (a b : PackedKey) → Decides (same_key (key_of a) (key_of b)) (a ≡ b)
key_exact a b =
    let test = same_key_exact (key_of a) (key_of b) in (
      λ t. sym (packed_again a) ∙ ap packed_of (test.0 t) ∙ packed_again b,
      λ is. test.1 (ap key_of is),
    )

-- the test by parts is the test of keys
pub test_same : (a b : PackedKey) → packed_test.eq-value.it a b ≡ same_key (key_of a) (key_of b)
test_same a b = same_from_decides _ _ (packed_exact a b) (key_exact a b)

-- keys of other digests are other keys
pub other_digest : (a b : Key) (d e : ℕ) → d ≡ key_digest a → e ≡ key_digest b → d ≢ e
    → nat_eq d e ≡ same_key a b
other_digest a b d e da eb n = same_from_decides _ _ (Decides-eqb d e) (
  λ t. da ∙ ap key_digest ((same_key_exact a b).0 t) ∙ sym eb,
  λ is. absurd (n is),
)
