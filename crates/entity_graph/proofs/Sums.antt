-- Greatest values and weights of rows, from the values of those that they name.
use Rattle.std.proofs.Common.{◌≡◌, ℕ, zero, suc, ◌+◌, ◌≤◌, List, [], ◌∷◌, ◌++◌, map, min, sum_by, refl, sym, ap, subst, arith}
use Rattle.std.specs.List.{Contains}
use Rattle.std.proofs.lemmas.List.{map-append}
use Rattle.std.proofs.lemmas.List.Sums.{sum_by-cons}
use Rattle.std.proofs.lemmas.List.Elements.{Contains-append_left, Contains-append_right}
use Rattle.solid_base.specs.declared.solids.Row.{Row}
use Rattle.solid_base.specs.declared.solids.Row.TheVariants as row
use Rattle.solid_base.specs.declared.references.Reference.TheVariants as reference
use Rattle.solid_base.specs.References.{target, matrix_named, operands_of, items_of, matrices_of, references_of, references}
use Rattle.solid_base.specs.Graph.{greatest, row_weight}

-- ---- members

pub at_head : (x : ℕ) (xs : List ℕ) → Contains (x ∷ xs) x
at_head x xs = (0, omega arith, refl)

pub at_tail : (x c : ℕ) (xs : List ℕ) → Contains xs c → Contains (x ∷ xs) c
at_tail x c xs h = let l = h.1 in (suc h.0, omega arith, h.2)

-- ---- greatest

pub greatest_has : (f : ℕ → ℕ) (ns : List ℕ) (c : ℕ) → Contains ns c → f c ≤ greatest f ns
greatest_has f [] c h = absurd (let l = h.1 in omega arith)
greatest_has f (x ∷ ns) c (zero, l, e) = let k = ap f e in omega arith
greatest_has f (x ∷ ns) c (suc k, l, e) = let r = greatest_has f ns c (k, omega arith, e) in omega arith

pub greatest_same : (f g : ℕ → ℕ) (ns : List ℕ) → ((c : ℕ) → Contains ns c → f c ≡ g c) → greatest f ns ≡ greatest g ns
greatest_same f g [] h = refl
greatest_same f g (x ∷ ns) h =
    let a = h x (at_head x ns) in
    let b = greatest_same f g ns (λ c i. h c (at_tail x c ns i)) in
    omega arith

pub greatest_min : (n : ℕ) (f : ℕ → ℕ) (ns : List ℕ) → min n (greatest f ns) ≡ greatest (λ c. min n (f c)) ns
greatest_min n f [] = omega arith
greatest_min n f (x ∷ ns) = let r = greatest_min n f ns in omega arith

-- ---- weights

-- the numbers of which a row's weight is the sum, each as often as it counts, and what it weighs itself
abbrev counted : Row → List ℕ
counted row.Null = []
counted (row.Opaque kind form matrix text) = []
counted (row.Matrix form affine next) = []
counted (row.Prim p matrix) = []
counted (row.Tree items matrix) = map target (operands_of items)
counted (row.Assembly items matrix) = map target (items_of items)
counted (row.Instance child matrix) = child ∷ []

abbrev own : Row → ℕ
own row.Null = 0
own (row.Opaque kind form matrix text) = 1
own (row.Matrix form affine next) = 0
own (row.Prim p matrix) = 1
own (row.Tree items matrix) = 0
own (row.Assembly items matrix) = 0
own (row.Instance child matrix) = 0

weight_sum : (f : ℕ → ℕ) (r : Row) → row_weight f r ≡ own r + sum_by f (counted r)
weight_sum f row.Null = refl
weight_sum f (row.Opaque kind form matrix text) = refl
weight_sum f (row.Matrix form affine next) = refl
weight_sum f (row.Prim p matrix) = refl
weight_sum f (row.Tree items matrix) = omega arith
weight_sum f (row.Assembly items matrix) = omega arith
weight_sum f (row.Instance child matrix) = let e = sum_by-cons f child [] in omega arith

counted_named : (r : Row) (c : ℕ) → Contains (counted r) c → Contains (references r) c
unfolding references_of
counted_named row.Null c h = h
counted_named (row.Opaque kind form matrix text) c h = h
counted_named (row.Matrix form affine next) c h = absurd (let l = h.1 in omega arith)
counted_named (row.Prim p matrix) c h = absurd (let l = h.1 in omega arith)
counted_named (row.Tree items matrix) c h =
    let e = map-append target (matrix_named matrix) (operands_of items) in
    subst (λ (l : List ℕ). Contains l c) (sym e) (Contains-append_right (map target (matrix_named matrix)) (map target (operands_of items)) c h)
counted_named (row.Assembly items matrix) c h =
    let e = map-append target (matrix_named matrix) (items_of items ++ matrices_of items) in
    let d = map-append target (items_of items) (matrices_of items) in
    subst (λ (l : List ℕ). Contains l c) (sym e)
    (Contains-append_right (map target (matrix_named matrix)) (map target (items_of items ++ matrices_of items)) c
    (subst (λ (l : List ℕ). Contains l c) (sym d) (Contains-append_left (map target (items_of items)) (map target (matrices_of items)) c h)))
counted_named (row.Instance child matrix) c h =
    let e = map-append target (matrix_named matrix) (reference.Solid child ∷ []) in
    subst (λ (l : List ℕ). Contains l c) (sym e) (Contains-append_right (map target (matrix_named matrix)) (child ∷ []) c h)

sum_capped : (cap : ℕ) (f g : ℕ → ℕ) (ns : List ℕ) (b : ℕ) → ((c : ℕ) → Contains ns c → min cap (f c) ≡ min cap (g c)) → min cap (b + sum_by f ns) ≡ min cap (b + sum_by g ns)
sum_capped cap f g [] b h = refl
sum_capped cap f g (x ∷ ns) b h =
    let a = h x (at_head x ns) in
    let r = sum_capped cap f g ns (b + f x) (λ c i. h c (at_tail x c ns i)) in
    let p = sum_by-cons f x ns in
    let q = sum_by-cons g x ns in
    omega arith

pub weight_capped : (cap : ℕ) (f g : ℕ → ℕ) (r : Row) → ((c : ℕ) → Contains (references r) c → min cap (f c) ≡ min cap (g c)) → min cap (row_weight f r) ≡ min cap (row_weight g r)
weight_capped cap f g r h =
    let s = sum_capped cap f g (counted r) (own r) (λ c i. h c (counted_named r c i)) in
    let p = weight_sum f r in
    let q = weight_sum g r in
    omega arith

sum_same : (f g : ℕ → ℕ) (ns : List ℕ) → ((c : ℕ) → Contains ns c → f c ≡ g c) → sum_by f ns ≡ sum_by g ns
sum_same f g [] h = refl
sum_same f g (x ∷ ns) h =
    let a = h x (at_head x ns) in
    let r = sum_same f g ns (λ c i. h c (at_tail x c ns i)) in
    let p = sum_by-cons f x ns in
    let q = sum_by-cons g x ns in
    omega arith

pub weight_same : (f g : ℕ → ℕ) (r : Row) → ((c : ℕ) → Contains (references r) c → f c ≡ g c) → row_weight f r ≡ row_weight g r
weight_same f g r h =
    let s = sum_same f g (counted r) (λ c i. h c (counted_named r c i)) in
    let p = weight_sum f r in
    let q = weight_sum g r in
    omega arith
