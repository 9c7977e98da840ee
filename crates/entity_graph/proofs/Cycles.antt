-- What places reach is what their numbers reach, and the same rows reach cycles.
use Rattle.std.proofs.Common.{◌≡◌, ℕ, zero, suc, ◌+◌, ◌*◌, ◌/◌, ◌<◌, List, [], ◌∷◌, get_or, length, map, refl, sym, ap, ◌∙◌, subst, arith}
use Rattle.std.proofs.lemmas.List.{length-map}
use Rattle.solid_base.specs.declared.entities.Entity.{Entity}
use Rattle.solid_base.specs.declared.references.Reference.{Reference}
use Rattle.solid_base.specs.References.{HasNumber, target, Refers, Reaches, here, further}
use Rattle.solid_base.specs.Graph.{ReachesCycle}
use Rattle.entity_graph.specs.FirstFaults.{ArePresent, AreAcyclic, IsFirstRow}
use Rattle.entity_graph.specs.Links.{references_at, place_of, places}
use Rattle.entity_graph.specs.Order.{Names, Goes, stay, go, Rings}
use Rattle.entity_graph.proofs.Numbers.{number_is, place_in, names_place, refers_from, refers_to}

half_at : (rs : List Reference) (k d : ℕ) → k < length rs → get_or (map place_of rs) k 0 ≡ get_or (map target rs) k d / 2
half_at [] k d h = absurd (omega arith)
half_at (r ∷ rs) zero d h = refl
half_at (r ∷ rs) (suc k) d h = half_at rs k d (omega arith)

same_at : (xs : List ℕ) (k d e : ℕ) → k < length xs → get_or xs k d ≡ get_or xs k e
same_at [] k d e h = absurd (omega arith)
same_at (x ∷ xs) zero d e h = refl
same_at (x ∷ xs) (suc k) d e h = same_at xs k d e (omega arith)

pub refers_names : (rows : List Entity) (i c : ℕ) → Refers rows (2 * i + 1) c → Names (places rows) i (c / 2)
refers_names rows i c r =
    let rs = references_at rows i in
    let l = length-map rs target in
    let m = length-map rs place_of in
    let w = r.1 in
    let inside : r.0 < length rs = omega arith in
    let q = names_place rows i in
    record {
      at = r.0;
      within = subst (λ (x : List ℕ). r.0 < length x) (sym q) (omega arith);
      is = ap (λ (x : List ℕ). get_or x r.0 0) q ∙ half_at rs r.0 c inside ∙ ap (λ n. n / 2) r.2;
    }

module _ (rows : List Entity) (present : ArePresent rows) where
  pub names_refers : (i j : ℕ) → Names (places rows) i j → Refers rows (2 * i + 1) (2 * j + 1)
  names_refers i j n =
      let rs = references_at rows i in
      let l = length-map rs target in
      let m = length-map rs place_of in
      let q = names_place rows i in
      let v : n.at < length (map place_of rs) = subst (λ (x : List ℕ). n.at < length x) q n.within in
      let inside : n.at < length rs = omega arith in
      let w : n.at < length (map target rs) = omega arith in
      let c = get_or (map target rs) n.at 0 in
      let half : c / 2 ≡ j = sym (half_at rs n.at 0 inside) ∙ sym (ap (λ (x : List ℕ). get_or x n.at 0) q) ∙ n.is in
      let number : HasNumber rows c = refers_to rows present (2 * i + 1) c (n.at, w, same_at (map target rs) n.at c 0 w) in
      let is : c ≡ 2 * j + 1 = sym (number_is rows c number) ∙ ap (λ k. 2 * k + 1) half in
      (n.at, w, same_at (map target rs) n.at (2 * j + 1) 0 w ∙ is)

  pub within : (i j : ℕ) → Names (places rows) i j → j < length rows
  within i j n = place_in rows j (refers_to rows present (2 * i + 1) (2 * j + 1) (names_refers i j n))

  goes_reaches : (i j : ℕ) → Goes (places rows) i j → Reaches rows (2 * i + 1) (2 * j + 1)
  goes_reaches i j stay = here
  goes_reaches i j (go {c = c} n w) = further (names_refers i c n) (goes_reaches c j w)

  reaches_goes : (e k i : ℕ) → e ≡ 2 * i + 1 → Reaches rows e k → Goes (places rows) i (k / 2)
  reaches_goes e k i q here = let h : i ≡ e / 2 = omega arith in subst (λ x. Goes (places rows) i x) h stay
  reaches_goes e k i q (further {c = c} m r) =
      let n = refers_to rows present e c m in
      go (refers_names rows i c (subst (λ x. Refers rows x c) q m)) (reaches_goes c k (c / 2) (sym (number_is rows c n)) r)

  pub ring_cycle : (i : ℕ) → Rings (places rows) i → ReachesCycle rows (2 * i + 1)
  ring_cycle i r = record {
    on = 2 * r.on + 1;
    next = 2 * r.next + 1;
    reached = goes_reaches i r.on r.reached;
    refers = names_refers r.on r.next r.names;
    back = goes_reaches r.next r.on r.back;
  }

  cycle_ring : (e i : ℕ) → e ≡ 2 * i + 1 → ReachesCycle rows e → Rings (places rows) i
  cycle_ring e i q r =
      let on = refers_from rows r.on r.next r.refers in
      let next = refers_to rows present r.on r.next r.refers in
      record {
        on = r.on / 2;
        next = r.next / 2;
        reached = reaches_goes e r.on i q r.reached;
        names = refers_names rows (r.on / 2) r.next (subst (λ x. Refers rows x r.next) (sym (number_is rows r.on on)) r.refers);
        back = reaches_goes r.next r.on (r.next / 2) (sym (number_is rows r.next next)) r.back;
      }

  cycle_number : (e : ℕ) → ReachesCycle rows e → HasNumber rows e
  cycle_number e r = first e r.on r.reached (refers_from rows r.on r.next r.refers) where
    first : (e k : ℕ) → Reaches rows e k → HasNumber rows k → HasNumber rows e
    first e k here n = n
    first e k (further {c = c} m w) n = refers_from rows e c m

  pub acyclic : ((i : ℕ) → Rings (places rows) i → ⊥) → AreAcyclic rows
  acyclic h e r = h (e / 2) (cycle_ring e (e / 2) (sym (number_is rows e (cycle_number e r))) r)

  pub first_cycle : (i : ℕ) → Rings (places rows) i → ((k : ℕ) → k < i → Rings (places rows) k → ⊥) → IsFirstRow (ReachesCycle rows) (2 * i + 1)
  first_cycle i r h = record {
    holds = ring_cycle i r;
    earlier = λ k l c.
        let n = number_is rows k (cycle_number k c) in
        h (k / 2) (omega arith) (cycle_ring k (k / 2) (sym n) c);
  }
