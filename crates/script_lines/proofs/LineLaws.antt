-- Lines are found one after the other.
use Rattle.std.proofs.Common.{◌≡◌, ◌≢◌, ℕ, suc, ◌+◌, ◌<◌, List, [], ◌∷◌, ◌++◌, length, take, drop, Bool, true, false, not, cond, ◌==◌, ◌&&◌, nat_eq, refl, ap, ◌∙◌, arith}
use Rattle.std.specs.List.{prefix_len}
use Rattle.script_lines.specs.Lines.{lines_of, put_in_front, begins_with_feed, without_return}

abbrev pub in_line : ℕ → Bool
in_line b = not (nat_eq b 10)

-- a line feed in front ends an empty line
feed : (b : ℕ) (bs : List ℕ) → nat_eq b 10 ≡ true → lines_of (b ∷ bs) ≡ [] ∷ lines_of bs
unfolding lines_of
feed b bs k = rw k refl

-- another byte belongs to the line after it
step : (b : ℕ) (bs : List ℕ) → nat_eq b 10 ≡ false → begins_with_feed bs ≡ false → lines_of (b ∷ bs) ≡ put_in_front b (lines_of bs)
unfolding lines_of
step b bs k f = rw (k, f) (elim (b == 13) as (λ v. cond (v && false) (lines_of bs) (put_in_front b (lines_of bs)) ≡ put_in_front b (lines_of bs)) [ true ↦ refl | false ↦ refl ])

-- but a CR before a line feed
crlf : (b : ℕ) (bs : List ℕ) → nat_eq b 10 ≡ false → begins_with_feed bs ≡ true → lines_of (b ∷ bs) ≡ cond (b == 13) (lines_of bs) (put_in_front b (lines_of bs))
unfolding lines_of
crlf b bs k f = rw (k, f) (elim (b == 13) as (λ v. cond (v && true) (lines_of bs) (put_in_front b (lines_of bs)) ≡ cond v (lines_of bs) (put_in_front b (lines_of bs))) [ true ↦ refl | false ↦ refl ])

no_lines : lines_of [] ≡ []
unfolding lines_of
no_lines = refl

-- bytes without LF are one line
pub last_line : (bytes : List ℕ) → 0 < length bytes → prefix_len in_line bytes ≡ length bytes → lines_of bytes ≡ bytes ∷ lines_of []
last_line [] some h = absurd (omega arith)
last_line (b ∷ []) some h = go (nat_eq b 10) refl
  where
    go : (v : Bool) → nat_eq b 10 ≡ v → lines_of (b ∷ []) ≡ (b ∷ []) ∷ lines_of []
    go true k = absurd (let h2 : 0 ≡ 1 = rw k at h in omega (arith, h2))
    go false k = rw (step b [] k refl, no_lines) refl
last_line (b ∷ c ∷ bs) some h = go (nat_eq b 10) refl (nat_eq c 10) refl (last_line (c ∷ bs))
  where
    go : (v : Bool) → nat_eq b 10 ≡ v → (w : Bool) → nat_eq c 10 ≡ w
        → (0 < length (c ∷ bs) → prefix_len in_line (c ∷ bs) ≡ length (c ∷ bs) → lines_of (c ∷ bs) ≡ (c ∷ bs) ∷ lines_of []) → lines_of (b ∷ c ∷ bs) ≡ (b ∷ c ∷ bs) ∷ lines_of []
    go true k w j more = absurd (let h2 : 0 ≡ suc (suc (length bs)) = rw k at h in omega (arith, h2))
    go false k true j more = absurd (let h2 : 1 + 0 ≡ suc (suc (length bs)) = rw (k, j) at h in omega (arith, h2))
    go false k false j more =
        let n = prefix_len in_line (c ∷ bs) in
        let h2 : 1 + n ≡ suc (suc (length bs)) = rw k at h in
        step b (c ∷ bs) k j ∙ ap (put_in_front b) (more (omega arith) (omega (arith, h2)))

-- the first line, and those after it
pub first_line : (bytes : List ℕ) → prefix_len in_line bytes < length bytes
    → lines_of bytes ≡ without_return (take (prefix_len in_line bytes) bytes) ∷ lines_of (drop (prefix_len in_line bytes + 1) bytes)
unfolding without_return
first_line [] h = absurd (omega arith)
first_line (b ∷ []) h = go (nat_eq b 10) refl
  where
    go : (v : Bool) → nat_eq b 10 ≡ v → lines_of (b ∷ []) ≡ without_return (take (prefix_len in_line (b ∷ [])) (b ∷ [])) ∷ lines_of (drop (prefix_len in_line (b ∷ []) + 1) (b ∷ []))
    go true k = rw k (feed b [] k)
    go false k = absurd (let h2 : 1 + 0 < 1 = rw k at h in omega (arith, h2))
first_line (b ∷ c ∷ bs) h = go (nat_eq b 10) refl (nat_eq c 10) refl (first_line (c ∷ bs))
  where
    go : (v : Bool) → nat_eq b 10 ≡ v → (w : Bool) → nat_eq c 10 ≡ w
        → (prefix_len in_line (c ∷ bs) < length (c ∷ bs) → lines_of (c ∷ bs) ≡ without_return (take (prefix_len in_line (c ∷ bs)) (c ∷ bs)) ∷ lines_of (drop (prefix_len in_line (c ∷ bs) + 1) (c ∷ bs)))
        → lines_of (b ∷ c ∷ bs) ≡ without_return (take (prefix_len in_line (b ∷ c ∷ bs)) (b ∷ c ∷ bs)) ∷ lines_of (drop (prefix_len in_line (b ∷ c ∷ bs) + 1) (b ∷ c ∷ bs))
    go true k w j more = rw k (feed b (c ∷ bs) k)
    go false k true j more =
        let count : prefix_len in_line (b ∷ c ∷ bs) ≡ 1 = rw (k, j) refl in
        rw (crlf b (c ∷ bs) k j, count, feed c bs j) (elim (b == 13) as (λ v. cond v ([] ∷ lines_of bs) ((b ∷ []) ∷ lines_of bs) ≡ cond v [] (b ∷ []) ∷ lines_of bs) [ true ↦ refl | false ↦ refl ])
    go false k false j more =
        let m = prefix_len in_line bs in
        let count : prefix_len in_line (b ∷ c ∷ bs) ≡ suc (suc m) = rw (k, j) (omega arith) in
        let inner : prefix_len in_line (c ∷ bs) ≡ suc m = rw j (omega arith) in
        let past : suc (suc m) + 1 ≡ suc (suc (suc m)) = omega arith in
        let past2 : suc m + 1 ≡ suc (suc m) = omega arith in
        let h2 : suc (suc m) < suc (suc (length bs)) = rw count at h in
        let rest = rw (inner, past2) at (more (rw inner (omega (arith, h2)))) in
        rw (count, past) (step b (c ∷ bs) k j ∙ ap (put_in_front b) rest)

-- a CR at the end is cut off, and only there
pub return_cut : (front : List ℕ) → without_return (front ++ 13 ∷ []) ≡ front
unfolding without_return
return_cut [] = refl
return_cut (b ∷ []) = refl
return_cut (b ∷ c ∷ bs) = ap (λ (t : List ℕ). b ∷ t) (return_cut (c ∷ bs))

pub none_cut : (line : List ℕ) → ((front : List ℕ) → line ≢ front ++ 13 ∷ []) → without_return line ≡ line
unfolding without_return
none_cut [] h = refl
none_cut (b ∷ []) h = go (b == 13) refl
  where
    go : (v : Bool) → (b == 13) ≡ v → cond (b == 13) [] (b ∷ []) ≡ b ∷ []
    go true k = absurd (h [] (ap (λ (n : ℕ). n ∷ []) (grind (arith, k))))
    go false k = rw k refl
none_cut (b ∷ c ∷ bs) h = ap (λ (t : List ℕ). b ∷ t) (none_cut (c ∷ bs) (λ front e. h (b ∷ front) (ap (λ (t : List ℕ). b ∷ t) e)))
