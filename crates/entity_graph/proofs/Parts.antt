-- The parts of a list, one more part, and the part at a place.
use Rattle.std.proofs.Common.{◌≡◌, ℕ, zero, suc, ◌+◌, ◌-◌, ◌<◌, ◌≤◌, List, [], ◌∷◌, ◌++◌, Some, get_or, length, map, take, drop, refl, sym, ap, ◌∙◌, subst, arith, length-append}
use Rattle.std.specs.Prelude.{slice_get}
use Rattle.std.proofs.Math.Seq.{take-length}
use Rattle.std.proofs.lemmas.Grind.{get_or_default_zero}
use Rattle.std.proofs.lemmas.List.{length-map, map-append}
use Rattle.solid_base.specs.declared.entities.Entity.{Entity}
use Rattle.solid_base.specs.declared.references.Reference.{Reference}
use Rattle.solid_base.specs.References.{references_of}
use Rattle.entity_graph.specs.Links.{references_at, parts, start_of, AreEnds, AreLinks}
use Rattle.entity_graph.proofs.Numbers.{references_place}
use Rattle.entity_graph.proofs.Steps.{take_step}

ends_within : (from : ℕ) (ends : List ℕ) (size : ℕ) → AreEnds from ends size → from ≤ size
ends_within from [] size h = omega arith
ends_within from (end ∷ ends) size h = let a = h.0 in let b = ends_within end ends size h.1 in omega arith

-- ---- one more part

drop_front : (items new : List Reference) (from : ℕ) → from ≡ length items → drop from (items ++ new) ≡ new
drop_front [] new from e = ap (λ n. drop n new) e
drop_front (x ∷ items) new zero e = absurd (omega arith)
drop_front (x ∷ items) new (suc from) e = drop_front items new from (omega arith)

take_front : (items new : List Reference) (n from : ℕ) → from + n ≤ length items → take n (drop from (items ++ new)) ≡ take n (drop from items)
take_front [] new n from h =
    let a : n ≡ 0 = omega arith in
    rw a refl
take_front (x ∷ items) new zero zero h = refl
take_front (x ∷ items) new (suc n) zero h = ap (λ (l : List Reference). x ∷ l) (take_front items new n zero (omega arith))
take_front (x ∷ items) new n (suc from) h = take_front items new n from (omega arith)

parts_push : (items new : List Reference) (from : ℕ) (ends : List ℕ) → AreEnds from ends (length items) → parts (items ++ new) from (ends ++ length (items ++ new) ∷ []) ≡ parts items from ends ++ new ∷ []
parts_push items new from [] h =
    let n = length-append items new in
    let k : length (items ++ new) - from ≡ length new = omega arith in
    let d = drop_front items new from h in
    rw (d, k) (ap (λ (l : List Reference). l ∷ []) (take-length new))
parts_push items new from (end ∷ ends) h =
    let a = h.0 in
    let b = ends_within end ends (length items) h.1 in
    let f = take_front items new (end - from) from (omega arith) in
    let r = parts_push items new end ends h.1 in
    rw (f, r) refl

ends_push : (from : ℕ) (ends : List ℕ) (size more : ℕ) → AreEnds from ends size → size ≤ more → AreEnds from (ends ++ more ∷ []) more
ends_push from [] size more h l = (omega arith, refl)
ends_push from (end ∷ ends) size more h l = (h.0, ends_push end ends size more h.1 l)

pub record AreFront (rows : List Entity) (items : List Reference) (ends : List ℕ) (place : ℕ) : Type 0 where
  pub ordered : AreEnds 0 ends (length items)
  pub are : parts items 0 ends ≡ map (λ entity. references_of entity.row) (take place rows)

pub front_more : (rows : List Entity) (items more : List Reference) (ends new : List ℕ) (place : ℕ) (entity : Entity) → AreFront rows items ends place
    → slice_get rows place ≡ Some entity → more ≡ items ++ references_of entity.row → new ≡ ends ++ length more ∷ [] → AreFront rows more new (place + 1)
front_more rows items more ends new place entity f s m n =
    let c = ap length m in
    let d = length-append items (references_of entity.row) in
    let p = parts_push items (references_of entity.row) 0 ends f.ordered in
    let t = take_step rows place (place + 1) entity refl s in
    let e : parts more 0 new ≡ parts (items ++ references_of entity.row) 0 (ends ++ length (items ++ references_of entity.row) ∷ []) = rw (n, m) refl in
    let g : map (λ entity. references_of entity.row) (take (place + 1) rows) ≡ map (λ entity. references_of entity.row) (take place rows) ++ references_of entity.row ∷ [] =
    ap (map (λ entity. references_of entity.row)) t ∙ map-append (λ entity. references_of entity.row) (take place rows) (entity ∷ []) in
    record {
      ordered = subst (λ l. AreEnds 0 l (length more)) (sym n) (ends_push 0 ends (length items) (length more) f.ordered (omega arith));
      are = e ∙ p ∙ ap (λ (l : List (List Reference)). l ++ references_of entity.row ∷ []) f.are ∙ sym g;
    }

-- ---- the part at a place

start_step : (end : ℕ) (ends : List ℕ) (p : ℕ) → get_or (end ∷ ends) p 0 ≡ start_of end ends p
start_step end ends zero = refl
start_step end ends (suc p) = refl

pub record IsPart (items : List Reference) (part : List Reference) (start end : ℕ) : Type 0 where
  pub ordered : start ≤ end
  pub within : end ≤ length items
  pub is : part ≡ take (end - start) (drop start items)

part_at : (items : List Reference) (from : ℕ) (ends : List ℕ) (p : ℕ) → AreEnds from ends (length items) → p < length ends → IsPart items (get_or (parts items from ends) p []) (start_of from ends p) (get_or ends p 0)
part_at items from [] p h l = absurd (omega arith)
part_at items from (end ∷ ends) zero h l = record { ordered = h.0; within = ends_within end ends (length items) h.1; is = refl }
part_at items from (end ∷ ends) (suc p) h l =
    subst (λ s. IsPart items (get_or (parts items end ends) p []) s (get_or ends p 0)) (sym (start_step end ends p)) (part_at items end ends p h.1 (omega arith))

parts_length : (items : List Reference) (from : ℕ) (ends : List ℕ) → length (parts items from ends) ≡ length ends
parts_length items from [] = refl
parts_length items from (end ∷ ends) = ap suc (parts_length items end ends)

pub links_length : (rows : List Entity) (items : List Reference) (ends : List ℕ) → AreLinks rows items ends → length ends ≡ length rows
links_length rows items ends a = sym (parts_length items 0 ends) ∙ ap length a.are ∙ length-map rows (λ entity. references_of entity.row)

pub links_at : (rows : List Entity) (items : List Reference) (ends : List ℕ) (p start end : ℕ) → AreLinks rows items ends → p < length rows → start ≡ start_of 0 ends p → end ≡ get_or ends p 0
    → IsPart items (references_at rows p) start end
links_at rows items ends p start end a h s t =
    let n = links_length rows items ends a in
    let r = part_at items 0 ends p a.ordered (omega arith) in
    let q : get_or (parts items 0 ends) p [] ≡ references_at rows p = ap (λ (l : List (List Reference)). get_or l p []) a.are ∙ references_place rows p in
    rw (s, t) (subst (λ l. IsPart items l (start_of 0 ends p) (get_or ends p 0)) q r)

pub row_part : (rows value : List Entity) (items : List Reference) (ends read : List ℕ) (p start end : ℕ) → AreLinks rows items ends → rows ≡ value → p < length value
    → start ≡ start_of 0 read p → read ≡ ends → end ≡ get_or ends p end → IsPart items (references_at value p) start end
row_part rows value items ends read p start end a v h s r t =
    let n = links_length rows items ends a in
    let m = ap length v in
    let k : p < length ends = omega arith in
    subst (λ x. IsPart items (references_at x p) start end) v (links_at rows items ends p start end a (omega arith) (s ∙ ap (λ (l : List ℕ). start_of 0 l p) r) (t ∙ get_or_default_zero ends p end k))

pub row_in : (rows value : List Entity) (items : List Reference) (ends read : List ℕ) (p : ℕ) → AreLinks rows items ends → rows ≡ value → p < length value → read ≡ ends → p < length read
row_in rows value items ends read p a v h r =
    let n = links_length rows items ends a in
    let m = ap length v in
    let k = ap length r in
    omega arith

pub row_is : (items part read : List Reference) (refs : List Reference) (start end : ℕ) → IsPart items refs start end → read ≡ items → part ≡ take (end - start) (drop start read) → part ≡ refs
row_is items part read refs start end k r e = e ∙ ap (λ (l : List Reference). take (end - start) (drop start l)) r ∙ sym k.is
