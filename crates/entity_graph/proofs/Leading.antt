-- Whether one row reaches another is decided: by ways whose rows between have numbers below a bound, the bound raised one by one.
use Rattle.std.proofs.Common.{◌≡◌, ◌⊎◌, inl, inr, ℕ, zero, suc, ◌<◌, ◌≤◌, List, refl, subst, arith}
use Rattle.std.proofs.lemmas.Bool.{cases_eq, cases_lt}
use Rattle.solid_base.specs.declared.entities.Entity.{Entity}
use Rattle.solid_base.specs.References.{Refers, Reaches, here, further}
use Rattle.solid_base.specs.Graph.{ReachesCycle}
use Rattle.entity_graph.proofs.Decided.{Decided, both_decided, either_decided, as_decided, some_decided}
use Rattle.entity_graph.proofs.RowsDecided.{bound, refers_decided, refers_nowhere}

-- ---- ways by at least one reference

-- e names a row that reaches c
pub record Leads (rows : List Entity) (e c : ℕ) : Type 0 where
  pub next : ℕ
  pub refers : Refers rows e next
  pub reaches : Reaches rows next c

-- what is reached from where one gets is reached
pub reaches_on : (rows : List Entity) (e c k : ℕ) → Reaches rows e c → Reaches rows c k → Reaches rows e k
reaches_on rows e c k here more = more
reaches_on rows e c k (further {c = x} refers way) more = further refers (reaches_on rows x c k way more)

-- a way by at least one reference after another way
pub reaches_leads : (rows : List Entity) (e c k : ℕ) → Reaches rows e c → Leads rows c k → Leads rows e k
reaches_leads rows e c k here more = more
reaches_leads rows e c k (further {c = x} refers way) more = record { next = x; refers = refers; reaches = reaches_on rows x c k way (further more.refers more.reaches) }

-- ---- ways through rows below a bound

-- a way of at least one reference from e to c, whose rows between have numbers below k
abbrev pub Through : List Entity → ℕ → ℕ → ℕ → Type 0
Through rows zero e c = Refers rows e c
Through rows (suc k) e c = Through rows k e c ⊎ (Through rows k e k × Through rows k k c)

-- there is such a way or not
pub through_decided : (rows : List Entity) (k e c : ℕ) → Decided (Through rows k e c)
through_decided rows zero e c = refers_decided rows e c
through_decided rows (suc k) e c =
    either_decided (Through rows k e c) (Through rows k e k × Through rows k k c) (through_decided rows k e c)
    (both_decided (Through rows k e k) (Through rows k k c) (through_decided rows k e k) (through_decided rows k k c))

-- such a way leads there
pub through_leads : (rows : List Entity) (k e c : ℕ) → Through rows k e c → Leads rows e c
through_leads rows zero e c refers = record { next = c; refers = refers; reaches = here }
through_leads rows (suc k) e c (inl way) = through_leads rows k e c way
through_leads rows (suc k) e c (inr ways) =
    let to : Leads rows e k = through_leads rows k e k ways.0 in
    reaches_leads rows e k c (further to.refers to.reaches) (through_leads rows k k c ways.1)

-- a reference alone is such a way
pub straight : (rows : List Entity) (k e c : ℕ) → Refers rows e c → Through rows k e c
straight rows zero e c refers = refers
straight rows (suc k) e c refers = inl (straight rows k e c refers)

-- the way to the last row between needs that row not between, and so does the way from it
to_last : (rows : List Entity) (k e : ℕ) → Through rows (suc k) e k → Through rows k e k
to_last rows k e (inl way) = way
to_last rows k e (inr ways) = ways.0

from_last : (rows : List Entity) (k c : ℕ) → Through rows (suc k) k c → Through rows k k c
from_last rows k c (inl way) = way
from_last rows k c (inr ways) = ways.1

-- two such ways that meet in a row below the bound are one
pub joined : (rows : List Entity) (k x e c : ℕ) → x < k → Through rows k e x → Through rows k x c → Through rows k e c
joined rows zero x e c below a b = let none : ⊥ = omega (arith, below) in absurd none
joined rows (suc k) x e c below a b = place (cases_lt x k) (joined rows k x) a b where
  go : ((e c : ℕ) → Through rows k e x → Through rows k x c → Through rows k e c) → Through rows (suc k) e x → Through rows (suc k) x c → Through rows (suc k) e c
  go join (inl a) (inl b) = inl (join e c a b)
  go join (inl a) (inr b) = inr (join e k a b.0, b.1)
  go join (inr a) (inl b) = inr (a.0, join k c a.1 b)
  go join (inr a) (inr b) = inr (a.0, b.1)

  place : (x < k) ⊎ (k ≤ x) → ((e c : ℕ) → x < k → Through rows k e x → Through rows k x c → Through rows k e c) → Through rows (suc k) e x → Through rows (suc k) x c → Through rows (suc k) e c
  place (inl low) join a b = go (λ e c. join e c low) a b
  place (inr high) join a b =
      let is : x ≡ k = omega (arith, below, high) in
      inr (to_last rows k e (subst (λ (y : ℕ). Through rows (suc k) e y) is a), from_last rows k c (subst (λ (y : ℕ). Through rows (suc k) y c) is b))

-- each way goes through rows below the bound of the rows
pub all_through : (rows : List Entity) (x c e : ℕ) → Reaches rows x c → Refers rows e x → Through rows (bound rows) e c
all_through rows x c e here refers = straight rows (bound rows) e x refers
all_through rows x c e (further {c = y} names way) refers =
    go (cases_lt x (bound rows)) (all_through rows y c x way names) where
      go : (x < bound rows) ⊎ (bound rows ≤ x) → Through rows (bound rows) x c → Through rows (bound rows) e c
      go (inl below) more = joined rows (bound rows) x e c below (straight rows (bound rows) e x refers) more
      go (inr past) more = absurd (refers_nowhere rows x y past names)

-- ---- what is decided

-- a row leads to another by at least one reference or not
pub leads_decided : (rows : List Entity) (e c : ℕ) → Decided (Leads rows e c)
leads_decided rows e c =
    as_decided (Through rows (bound rows) e c) (Leads rows e c) (through_leads rows (bound rows) e c) (λ w. all_through rows w.next c e w.reaches w.refers) (through_decided rows (bound rows) e c)

itself_or_on : (rows : List Entity) (e c : ℕ) → Reaches rows e c → (e ≡ c) ⊎ Leads rows e c
itself_or_on rows e c here = inl refl
itself_or_on rows e c (further {c = x} refers way) = inr (record { next = x; refers = refers; reaches = way })

itself_and_on : (rows : List Entity) (e c : ℕ) → (e ≡ c) ⊎ Leads rows e c → Reaches rows e c
itself_and_on rows e c (inl is) = subst (λ (x : ℕ). Reaches rows e x) is here
itself_and_on rows e c (inr w) = further w.refers w.reaches

-- a row reaches another or not
pub reaches_decided : (rows : List Entity) (e c : ℕ) → Decided (Reaches rows e c)
reaches_decided rows e c = as_decided ((e ≡ c) ⊎ Leads rows e c) (Reaches rows e c) (itself_and_on rows e c) (itself_or_on rows e c) (either_decided (e ≡ c) (Leads rows e c) (cases_eq e c) (leads_decided rows e c))

-- a row reaches a cycle or not
pub cycle_decided : (rows : List Entity) (e : ℕ) → Decided (ReachesCycle rows e)
cycle_decided rows e = as_decided ((on : ℕ) × On on) (ReachesCycle rows e) there back (some_decided On (λ on. both_decided (Reaches rows e on) (Leads rows on on) (reaches_decided rows e on) (leads_decided rows on on)) (bound rows) past) where
  On : ℕ → Type 0
  On on = Reaches rows e on × Leads rows on on

  there : (on : ℕ) × On on → ReachesCycle rows e
  there w = record { on = w.0; next = w.1.1.next; reached = w.1.0; refers = w.1.1.refers; back = w.1.1.reaches }

  back : ReachesCycle rows e → (on : ℕ) × On on
  back w = (w.on, (w.reached, record { next = w.next; refers = w.refers; reaches = w.back }))

  past : (on : ℕ) → bound rows ≤ on → ¬ On on
  past on up w = refers_nowhere rows on w.1.next up w.1.refers
