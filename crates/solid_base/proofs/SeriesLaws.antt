-- Laws of texts that stand one after the other.
use Rattle.std.proofs.Common.{◌≡◌, ℕ, suc, ◌+◌, ◌<◌, ◌≤◌, List, [], ◌∷◌, ◌++◌, length, Option, None, Some, refl, sym, ap, subst, ◌∙◌, arith, append_assoc, append-nil, length-append, inl, inr}
use Rattle.std.proofs.lemmas.Bool.{cases_lt}
use Rattle.solid_base.specs.Series.{Spells, HasRead}
use Rattle.solid_base.proofs.Pairs.{same_pair}

-- a reader of one item in front reads what is spelt, and nothing else
pub record IsReader {X : Type 0} (Item : ℕ → List ℕ → X → Type 0) (item_at : ℕ → List ℕ → Option (X × List ℕ)) : Type 0 where
  pub again : (k : ℕ) (text rest : List ℕ) (x : X) → Item k text x → item_at k (text ++ rest) ≡ Some (x, rest)
  pub takes : (k : ℕ) (bytes rest : List ℕ) (x : X) → item_at k bytes ≡ Some (x, rest) → (text : List ℕ) × Item k text x × (bytes ≡ text ++ rest)

-- one item more after the others
pub Spells-more : {X : Type 0} (Item : ℕ → List ℕ → X → Type 0) (k : ℕ) (text last : List ℕ) (xs : List X) (x : X) → Spells Item k text xs → Item (k + length xs) last x
    → Spells Item k (text ++ last) (xs ++ x ∷ [])
Spells-more Item k text last [] x h l =
    let at : k + 0 ≡ k = omega arith in
    let whole : text ++ last ≡ last ++ [] = ap (λ t. t ++ last) h ∙ sym (append-nil last) in
    (last, [], whole, subst (λ j. Item j last x) at l, refl)
Spells-more {X} Item k text last (y ∷ ys) x h l =
    let (first, more, whole, is, rest) = h in
    let at : k + suc (length ys) ≡ suc k + length ys = omega arith in
    (first, more ++ last, ap (λ t. t ++ last) whole ∙ append_assoc first more last, is, Spells-more Item (suc k) more last ys x rest (subst (λ j. Item j last x) at l))

-- no items have no text
pub none_spelt : {X : Type 0} (Item : ℕ → List ℕ → X → Type 0) (k : ℕ) (text : List ℕ) (xs : List X) → xs ≡ [] → Spells Item k text xs → text ≡ []
none_spelt Item k text [] e h = h
none_spelt Item k text (x ∷ xs) e h = cc

-- of two series in front of the same bytes the shorter one begins the longer one
pub series_split : {X : Type 0} (Item : ℕ → List ℕ → X → Type 0) (item_at : ℕ → List ℕ → Option (X × List ℕ)) → IsReader Item item_at → (k : ℕ) (s t p q : List ℕ) (xs ys : List X)
    → Spells Item k s xs → Spells Item k t ys → s ++ p ≡ t ++ q → length xs ≤ length ys
    → (zs : List X) × (u : List ℕ) × (ys ≡ xs ++ zs) × Spells Item (k + length xs) u zs × (p ≡ u ++ q)
series_split Item item_at r k s t p q [] ys h g e l =
    let at : k ≡ k + 0 = omega arith in
    (ys, t, refl, subst (λ j. Spells Item j t ys) at g, ap (λ a. a ++ p) (sym h) ∙ e)
series_split Item item_at r k s t p q (x ∷ xs) [] h g e l = absurd (omega arith)
series_split {X} Item item_at r k s t p q (x ∷ xs) (y ∷ ys) h g e l =
    let (first, more, whole, is, rest) = h in
    let (first', more', whole', is', rest') = g in
    let left : s ++ p ≡ first ++ (more ++ p) = ap (λ a. a ++ p) whole ∙ append_assoc first more p in
    let right : t ++ q ≡ first' ++ (more' ++ q) = ap (λ a. a ++ q) whole' ∙ append_assoc first' more' q in
    let one : item_at k (first ++ (more ++ p)) ≡ Some (x, more ++ p) = r.again k first (more ++ p) x is in
    let two : item_at k (first' ++ (more' ++ q)) ≡ Some (y, more' ++ q) = r.again k first' (more' ++ q) y is' in
    let same : first ++ (more ++ p) ≡ first' ++ (more' ++ q) = sym left ∙ e ∙ right in
    let (item, after) = same_pair x y (more ++ p) (more' ++ q) (sym one ∙ ap (item_at k) same ∙ two) in
    let less : length xs ≤ length ys = omega arith in
    let (zs, u, rows, spells, tail) = series_split Item item_at r (suc k) more more' p q xs ys rest rest' after less in
    let at : suc k + length xs ≡ k + suc (length xs) = omega arith in
    (zs, u, ap (λ a. a ∷ ys) (sym item) ∙ ap (λ l. x ∷ l) rows, subst (λ j. Spells Item j u zs) at spells, tail)

-- a series that isn't empty can be read from
pub series_begins : {X : Type 0} (Item : ℕ → List ℕ → X → Type 0) (item_at : ℕ → List ℕ → Option (X × List ℕ)) → IsReader Item item_at → (k : ℕ) (u q : List ℕ) (z : X) (zs : List X)
    → Spells Item k u (z ∷ zs) → item_at k (u ++ q) ≡ None → ⊥
series_begins {X} Item item_at r k u q z zs h none =
    let (first, more, whole, is, rest) = h in
    let some : item_at k (u ++ q) ≡ Some (z, more ++ q) = ap (λ a. item_at k (a ++ q)) whole ∙ ap (item_at k) (append_assoc first more q) ∙ r.again k first (more ++ q) z is in
    let bad : ◌≡◌ {A = Option (X × List ℕ)} None (Some (z, more ++ q)) = sym none ∙ some in
    cc

counted_none : {X : Type 0} (Item : ℕ → List ℕ → X → Type 0) (k : ℕ) (u : List ℕ) (zs : List X) → Spells Item k u zs → length zs ≡ 0 → (zs ≡ []) × (u ≡ [])
counted_none Item k u [] h n = (refl, h)
counted_none Item k u (z ∷ zs) h n = absurd (omega arith)

none_left : {X : Type 0} (Item : ℕ → List ℕ → X → Type 0) (item_at : ℕ → List ℕ → Option (X × List ℕ)) → IsReader Item item_at → (k : ℕ) (u p q : List ℕ) (zs : List X)
    → Spells Item k u zs → p ≡ u ++ q → item_at k p ≡ None → (zs ≡ []) × (p ≡ q)
none_left Item item_at r k u p q [] h e none = (refl, e ∙ ap (λ a. a ++ q) h)
none_left Item item_at r k u p q (z ∷ zs) h e none = absurd (series_begins Item item_at r k u q z zs h (ap (item_at k) (sym e) ∙ none))

shorter_same : {X : Type 0} (Item : ℕ → List ℕ → X → Type 0) (item_at : ℕ → List ℕ → Option (X × List ℕ)) → IsReader Item item_at → (k : ℕ) (s t p q : List ℕ) (xs ys : List X)
    → Spells Item k s xs → Spells Item k t ys → s ++ p ≡ t ++ q → length xs ≤ length ys → item_at (k + length xs) p ≡ None → (xs ≡ ys) × (p ≡ q)
shorter_same Item item_at r k s t p q xs ys h g e l stop =
    let (zs, u, rows, spells, tail) = series_split Item item_at r k s t p q xs ys h g e l in
    let (none, same) = none_left Item item_at r (k + length xs) u p q zs spells tail stop in
    (sym (append-nil xs) ∙ ap (λ a. xs ++ a) (sym none) ∙ sym rows, same)

-- two series in front of the same bytes that no item follows are the same
pub series_same : {X : Type 0} (Item : ℕ → List ℕ → X → Type 0) (item_at : ℕ → List ℕ → Option (X × List ℕ)) → IsReader Item item_at → (k : ℕ) (s t p q : List ℕ) (xs ys : List X)
    → Spells Item k s xs → Spells Item k t ys → s ++ p ≡ t ++ q → item_at (k + length xs) p ≡ None → item_at (k + length ys) q ≡ None → (xs ≡ ys) × (p ≡ q)
series_same Item item_at r k s t p q xs ys h g e stop stop' =
    elim (cases_lt (length ys) (length xs)) [
      | inl more ↦ (let (rows, rest) = shorter_same Item item_at r k t s q p ys xs g h (sym e) (omega arith) stop' in (sym rows, sym rest))
      | inr less ↦ shorter_same Item item_at r k s t p q xs ys h g e less stop
    ]

-- two series of one length in front of the same bytes are the same
pub series_counted : {X : Type 0} (Item : ℕ → List ℕ → X → Type 0) (item_at : ℕ → List ℕ → Option (X × List ℕ)) → IsReader Item item_at → (k : ℕ) (s t p q : List ℕ) (xs ys : List X)
    → Spells Item k s xs → Spells Item k t ys → s ++ p ≡ t ++ q → length xs ≡ length ys → (xs ≡ ys) × (p ≡ q)
series_counted {X} Item item_at r k s t p q xs ys h g e l =
    let (zs, u, rows, spells, tail) = series_split Item item_at r k s t p q xs ys h g e (omega arith) in
    let none : length zs ≡ 0 = omega (arith, ap (length {A = X}) rows, length-append xs zs) in
    let (empty, gone) = counted_none Item (k + length xs) u zs spells none in
    (sym (append-nil xs) ∙ ap (λ a. xs ++ a) (sym empty) ∙ sym rows, tail ∙ ap (λ a. a ++ q) gone)

-- where fewer are read than are spelt, one more can be read
pub series_goes_on : {X : Type 0} (Item : ℕ → List ℕ → X → Type 0) (item_at : ℕ → List ℕ → Option (X × List ℕ)) → IsReader Item item_at → (k : ℕ) (s t p q : List ℕ) (xs ys : List X)
    → Spells Item k s xs → Spells Item k t ys → s ++ p ≡ t ++ q → length xs < length ys → item_at (k + length xs) p ≡ None → ⊥
series_goes_on {X} Item item_at r k s t p q xs ys h g e l stop =
    let (rows, rest) = shorter_same Item item_at r k s t p q xs ys h g e (omega arith) stop in
    let same : length xs ≡ length ys = ap (length {A = X}) rows in
    omega arith

-- one item more is read
pub read_step : {X : Type 0} (Item : ℕ → List ℕ → X → Type 0) (item_at : ℕ → List ℕ → Option (X × List ℕ)) → IsReader Item item_at → (k : ℕ) (bytes rest after : List ℕ) (xs : List X) (x : X)
    → HasRead Item k bytes rest xs → item_at (k + length xs) rest ≡ Some (x, after) → HasRead Item k bytes after (xs ++ x ∷ [])
read_step Item item_at r k bytes rest after xs x h e =
    let (text, is, front) = r.takes (k + length xs) rest after x e in
    record { text = h.text ++ text; spells = Spells-more Item k h.text text xs x h.spells is; split = h.split ∙ ap (λ t. h.text ++ t) front ∙ sym (append_assoc h.text text after) }

pub read_none : {X : Type 0} (Item : ℕ → List ℕ → X → Type 0) (k : ℕ) (bytes : List ℕ) → HasRead Item k bytes bytes []
read_none Item k bytes = record { text = []; spells = refl; split = refl }
