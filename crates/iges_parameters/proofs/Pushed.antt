-- Tokens that are pushed one by one are those of the rest, from here on.
use Rattle.std.proofs.Common.{◌≡◌, ℕ, zero, suc, ◌+◌, ◌<◌, ◌≤◌, List, [], ◌∷◌, ◌++◌, length, get_or, drop, map, ℤ, pos, Result, OnOk, refl, sym, ap, subst, ◌∙◌, add-one, arith}
use Rattle.std.specs.List.{AllByRecursion}
use Rattle.std.proofs.Math.Seq.{drop-cons}
use Rattle.std.proofs.Math.ListN.{drop_of_length-le}
use Rattle.solid_base.specs.declared.entities.Token.{Token}
use Rattle.iges_parameters.specs.declared.tables.Rule.{Rule}
use Rattle.iges_parameters.specs.Writing.{whole, token_by, tokens_by}

-- the law of a sink: tokens after others are both together
abbrev pub IsJoined : {S : Type 0} → (S → List Token → S) → Type 0
IsJoined {S} with = (sink : S) (tokens more : List Token) → with (with sink tokens) more ≡ with sink (tokens ++ more)

pub pushed : {S : Type 0} (with : S → List Token → S) (s new : S) (t : Token) (rest : List Token) (total : S) → IsJoined with → new ≡ with s (t ∷ []) → with s (t ∷ rest) ≡ total → with new rest ≡ total
pushed with s new t rest total law is so_far = ap (λ x. with x rest) is ∙ law s (t ∷ []) rest ∙ so_far

pub numbers_next : (rules : List Rule) (ns : List ℤ) (at : ℕ) (r : Rule) (n : ℤ) → at < length rules → at < length ns
    → tokens_by (drop at rules) (drop at ns) ≡ token_by (get_or rules at r).values (get_or ns at n) ∷ tokens_by (drop (at + 1) rules) (drop (at + 1) ns)
unfolding tokens_by
numbers_next rules ns at r n lt room =
    let cut : drop at rules ≡ get_or rules at r ∷ drop (at + 1) rules = rw add-one (drop-cons rules at r lt) in
    let cut_ns : drop at ns ≡ get_or ns at n ∷ drop (at + 1) ns = rw add-one (drop-cons ns at n room) in
    rw (cut, cut_ns) refl

pub numbers_none : (rules : List Rule) (ns : List ℤ) (at : ℕ) → length rules ≤ at → tokens_by (drop at rules) (drop at ns) ≡ []
unfolding tokens_by
numbers_none rules ns at le = rw (drop_of_length-le rules le) refl

pub mapped_next : {A : Type 0} (f : A → Token) (xs : List A) (at : ℕ) (x : A) → at < length xs → map f (drop at xs) ≡ f (get_or xs at x) ∷ map f (drop (at + 1) xs)
mapped_next f xs at x lt =
    let cut : drop at xs ≡ get_or xs at x ∷ drop (at + 1) xs = rw add-one (drop-cons xs at x lt) in
    ap (map f) cut

pub mapped_none : {A : Type 0} (f : A → Token) (xs : List A) (at : ℕ) → length xs ≤ at → map f (drop at xs) ≡ []
mapped_none f xs at le = ap (map f) (drop_of_length-le xs le)

pub tail_next : (ts : List Token) (at : ℕ) (t : Token) → at < length ts → drop at ts ≡ get_or ts at t ∷ drop (at + 1) ts
tail_next ts at t lt = rw add-one (drop-cons ts at t lt)

-- what holds of each item holds of that at a place
pub all_at : {A : Type 0} (P : A → Type 0) (xs : List A) (at : ℕ) (x : A) → at < length xs → AllByRecursion P xs → P (get_or xs at x)
all_at P [] at x lt h = absurd (omega arith)
all_at P (y ∷ ys) zero x lt h = h.0
all_at P (y ∷ ys) (suc at) x lt h = all_at P ys at x (omega arith) h.1

pub pushed_number : {S : Type 0} (with : S → List Token → S) (s new : S) (rules : List Rule) (ns : List ℤ) (at : ℕ) (r : Rule) (n : ℤ) (total : S) → IsJoined with → at < length rules → at < length ns
    → new ≡ with s (token_by (get_or rules at r).values (get_or ns at n) ∷ []) → with s (tokens_by (drop at rules) (drop at ns)) ≡ total → with new (tokens_by (drop (at + 1) rules) (drop (at + 1) ns)) ≡ total
pushed_number with s new rules ns at r n total law lt room is so_far =
    pushed with s new (token_by (get_or rules at r).values (get_or ns at n)) (tokens_by (drop (at + 1) rules) (drop (at + 1) ns)) total law is (ap (with s) (sym (numbers_next rules ns at r n lt room)) ∙ so_far)

-- a table and numbers by other names
pub by_names : {S E : Type 0} (with : S → List Token → S) (r : Result (Unit {0}) E) (s new : S) (kind : ℕ) (rs rules : List Rule) (ns numbers : List ℤ) → rs ≡ rules → ns ≡ numbers
    → OnOk r (new ≡ with s (whole (pos kind) ∷ tokens_by rs ns)) → OnOk r (new ≡ with s (whole (pos kind) ∷ tokens_by rules numbers))
by_names with r s new kind rs rules ns numbers h i is =
    subst (λ (xs : List Rule). OnOk r (new ≡ with s (whole (pos kind) ∷ tokens_by xs numbers))) h (subst (λ (xs : List ℤ). OnOk r (new ≡ with s (whole (pos kind) ∷ tokens_by rs xs))) i is)
