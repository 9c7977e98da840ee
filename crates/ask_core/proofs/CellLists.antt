-- Lists that are joined from lists of one length.
use Rattle.std.proofs.Common.{◌≡◌, ℕ, zero, suc, ◌+◌, ◌-◌, ◌*◌, ◌%◌, ◌<◌, ◌≤◌, List, [], ◌∷◌, ◌++◌, length, take, drop, flat_map, slice_get, Option, None, Some, refl, sym, ap, ◌∙◌, arith, length-append}
use Rattle.std.proofs.Math.Nat.{mod-eq_of_lt, add-mod_left}
use Rattle.std.proofs.Math.Seq.{drop-append-add, take-append_seam}
use Rattle.std.proofs.lemmas.List.{drop-append-le, length-drop}

pub drop_none : {A : Type 0} (n : ℕ) → drop {A = A} n [] ≡ []
drop_none zero = refl
drop_none (suc n) = refl

pub take_none : {A : Type 0} (n : ℕ) → take {A = A} n [] ≡ []
take_none zero = refl
take_none (suc n) = refl

-- what begins a list is as much of it as it is long
pub front_taken : {A : Type 0} (l front rest : List A) → l ≡ front ++ rest → front ≡ take (length front) l
front_taken l front rest is = sym (ap (take (length front)) is ∙ take-append_seam front rest)

-- one item more
pub take_one_more : {A : Type 0} (l : List A) (n : ℕ) (x : A) → slice_get l n ≡ Some x → take (suc n) l ≡ take n l ++ x ∷ []
take_one_more [] n x is = grind (arith, is)
take_one_more (y ∷ l) zero x is = (let same : y ≡ x = grind (arith, is) in ap (λ z. z ∷ []) same)
take_one_more (y ∷ l) (suc n) x is = ap (λ t. y ∷ t) (take_one_more l n x is)

pub place_within : {A : Type 0} (l : List A) (n : ℕ) (x : A) → slice_get l n ≡ Some x → n < length l
place_within [] n x is = grind (arith, is)
place_within (y ∷ l) zero x is = omega arith
place_within (y ∷ l) (suc n) x is = (let h = place_within l n x is in omega (arith, h))

pub past_all : {A : Type 0} (l : List A) (n : ℕ) → length l ≤ n → slice_get l n ≡ None
past_all [] n h = refl
past_all (y ∷ l) zero h = absurd (omega (arith, h))
past_all (y ∷ l) (suc n) h = past_all l n (omega (arith, h))

module _ {X U : Type 0} (f : X → List U) (size : ℕ) (sized : (x : X) → length (f x) ≡ size) where
  -- the list of an item, none of none
  abbrev pub list_of : Option X → List U
  list_of None = []
  list_of (Some x) = f x

  pub joined_length : (xs : List X) → length (flat_map f xs) ≡ length xs * size
  joined_length [] = omega arith
  joined_length (x ∷ xs) =
      let more = joined_length xs in
      let own = sized x in
      let all : length (f x ++ flat_map f xs) ≡ length (f x) + length (flat_map f xs) = length-append (f x) (flat_map f xs) in
      omega (arith, more, own, all)

  -- what is left in the list of the item at a place
  pub left_in_list : (xs : List X) (place known : ℕ) → (place < length xs → known < size)
      → take (size - (place * size + known) % size) (drop (place * size + known) (flat_map f xs))
      ≡ drop known (list_of (slice_get xs place))
  left_in_list [] place known going =
      ap (take (size - (place * size + known) % size)) (drop_none (place * size + known)) ∙ take_none (size - (place * size + known) % size) ∙ sym (drop_none known)
  left_in_list (x ∷ xs) zero known going =
      let less : known < size = going (omega arith) in
      let own = sized x in
      let rest : drop known (f x ++ flat_map f xs) ≡ drop known (f x) ++ flat_map f xs = drop-append-le known (f x) (flat_map f xs) (omega (arith, less, own)) in
      let long : length (drop known (f x)) ≡ size - known = length-drop known (f x) ∙ ap (λ n. n - known) own in
      let same_rest : known % size ≡ known = mod-eq_of_lt less in
      let sum : 0 * size + known ≡ known = omega arith in
      ap (λ n. take (size - n % size) (drop n (f x ++ flat_map f xs))) sum
      ∙ ap (λ n. take (size - n) (drop known (f x ++ flat_map f xs))) same_rest
      ∙ ap (take (size - known)) rest
      ∙ ap (λ n. take n (drop known (f x) ++ flat_map f xs)) (sym long)
      ∙ take-append_seam (drop known (f x)) (flat_map f xs)
  left_in_list (x ∷ xs) (suc place) known going =
      let own = sized x in
      let sum : suc place * size + known ≡ size + (place * size + known) = omega arith in
      let same_rest : (size + (place * size + known)) % size ≡ (place * size + known) % size = add-mod_left size (place * size + known) in
      let past : drop (size + (place * size + known)) (f x ++ flat_map f xs) ≡ drop (place * size + known) (flat_map f xs) =
      ap (λ n. drop (n + (place * size + known)) (f x ++ flat_map f xs)) (sym own) ∙ drop-append-add (f x) (flat_map f xs) (place * size + known) in
      ap (λ n. take (size - n % size) (drop n (f x ++ flat_map f xs))) sum
      ∙ ap (λ n. take (size - n) (drop (size + (place * size + known)) (f x ++ flat_map f xs))) same_rest
      ∙ ap (take (size - (place * size + known) % size)) past
      ∙ left_in_list xs place known (λ h. going (omega (arith, h)))
