-- The body of a reply, by its text: no blank stands in front of the one before it.
use Rattle.std.proofs.Common.{◌≡◌, ℕ, zero, suc, ◌+◌, ◌-◌, ◌/◌, ◌%◌, ◌==◌, ◌<◌, ◌≤◌, nat_lt, Bool, true, false, List, [], ◌∷◌, ◌++◌, length, take, drop, codes, decimal, Option, Some, None, refl, ap, ◌∙◌, append_assoc, arith, length-append, if◌then◌else◌}
use Rattle.std.specs.List.{AllByRecursion, position, position_or_len}
use Rattle.std.proofs.lemmas.List.{take_at, take_rest}
use Rattle.std.specs.Fmt.{digit_glyph, digits_onto, digits}
use Rattle.solid_base.specs.declared.replies.Reply.{Reply}
use Rattle.solid_top.specs.Load.{load_text}
use Rattle.solid_desk.specs.Outcomes.{version_text, reply_text}

abbrev NoBlank : List ℕ → Type 0
NoBlank text = AllByRecursion (λ b. (b == 32) ≡ false) text

glyph_no_blank : (d : ℕ) → (digit_glyph false d == 32) ≡ false
glyph_no_blank d = go (nat_lt d 10) where
  go : (b : Bool) → ((if b then 48 + d else 87 + d) == 32) ≡ false
  go true = grind arith
  go false = grind arith

onto_no_blank : (k n : ℕ) (after : List ℕ) → NoBlank after → NoBlank (digits_onto k 10 false n after)
onto_no_blank zero n after h = h
onto_no_blank (suc k) n after h = go (n / 10 == 0) (onto_no_blank k (n / 10) (digit_glyph false (n % 10) ∷ after) (glyph_no_blank (n % 10), h)) where
  go : (b : Bool) → NoBlank (digits_onto k 10 false (n / 10) (digit_glyph false (n % 10) ∷ after))
      → NoBlank (if b then digit_glyph false (n % 10) ∷ after else digits_onto k 10 false (n / 10) (digit_glyph false (n % 10) ∷ after))
  go true more = (glyph_no_blank (n % 10), h)
  go false more = more

decimal_no_blank : (n : ℕ) → NoBlank (decimal n)
unfolding digits
decimal_no_blank n = onto_no_blank 64 n [] tt

version_no_blank : (version : Option ℕ) → NoBlank (version_text version)
version_no_blank None = (refl, tt)
version_no_blank (Some n) = decimal_no_blank n

first_place : (front rest : List ℕ) → NoBlank front → position_or_len (λ b. b == 32) (front ++ 32 ∷ rest) ≡ length front
first_place [] rest h = refl
first_place (b ∷ front) rest h = rw h.0 (let more = first_place front rest h.1 in omega (arith, more))

first_blank_is : (front rest : List ℕ) → NoBlank front → position (λ b. b == 32) (front ++ 32 ∷ rest) ≡ Some (length front)
first_blank_is front rest h =
    let size = length-append front (32 ∷ rest) in
    let within : nat_lt (length front) (length (front ++ 32 ∷ rest)) ≡ true = (let less : length front < length (front ++ 32 ∷ rest) = omega (arith, size) in grind arith) in
    rw (first_place front rest h, within) refl

after_blank : (front rest : List ℕ) → drop (length front + 1) (front ++ 32 ∷ rest) ≡ rest
after_blank [] rest = refl
after_blank (b ∷ front) rest =
    let size : suc (length front) + 1 ≡ suc (length front + 1) = omega arith in
    ap (λ (n : ℕ). drop n (b ∷ (front ++ 32 ∷ rest))) size ∙ after_blank front rest

without_last : (body : List ℕ) (last : ℕ) → take (length (body ++ last ∷ []) - 1) (body ++ last ∷ []) ≡ body
without_last body last =
    let size : length (body ++ last ∷ []) - 1 ≡ length body = omega (arith, length-append body (last ∷ [])) in
    rw size (take_at body (last ∷ []) (length body) refl)

module _ (reply : Reply) (text : List ℕ) (is : text ≡ reply_text reply) where
  -- where the first blank of a reply's text stands
  pub reply_blank : position (λ b. b == 32) text ≡ Some (length (version_text reply.version))
  reply_blank = ap (position (λ b. b == 32)) is ∙ first_blank_is (version_text reply.version) (reply.body ++ 10 ∷ []) (version_no_blank reply.version)

  module _ (at : ℕ) (found : position (λ b. b == 32) text ≡ Some at) where
    -- what stands after it
    pub reply_rest : take (length text - (at + 1)) (drop (at + 1) text) ≡ reply.body ++ 10 ∷ []
    reply_rest =
        let place : at ≡ length (version_text reply.version) = (let e = reply_blank in cc) in
        take_rest text (at + 1) ∙ rw (place, is) (after_blank (version_text reply.version) (reply.body ++ 10 ∷ []))

    pub reply_body : (rest : List ℕ) → rest ≡ take (length text - (at + 1)) (drop (at + 1) text) → take (length rest - 1) rest ≡ reply.body
    reply_body rest h = rw (h ∙ reply_rest) (without_last reply.body 10)

    pub reply_long : (rest : List ℕ) → rest ≡ take (length text - (at + 1)) (drop (at + 1) text) → 1 ≤ length rest
    reply_long rest h =
        let size = ap (length {A = ℕ}) (h ∙ reply_rest) in
        let whole = length-append reply.body (10 ∷ []) in
        omega (arith, size, whole)

glued : (a b c d e f g h i j k : List ℕ) → ((((((([] ++ (a ++ b)) ++ (c ++ d)) ++ (e ++ f)) ++ (g ++ h)) ++ i) ++ j) ++ k)
    ≡ a ++ (b ++ (c ++ (d ++ (e ++ (f ++ (g ++ (h ++ (i ++ (j ++ k)))))))))
glued a b c d e f g h i j k = simp append_assoc

-- the text of a run, part by part
pub text_is : (n inside outside undecided commits : ℕ) (none first a b c words number text : List ℕ) → none ≡ []
    → first ≡ none ++ (codes "LOAD " ++ decimal n) → a ≡ first ++ (codes " INSIDE " ++ decimal inside)
    → b ≡ a ++ (codes " OUTSIDE " ++ decimal outside) → c ≡ b ++ (codes " UNDECIDED " ++ decimal undecided)
    → words ≡ c ++ codes " COMMITS " → number ≡ words ++ decimal commits → text ≡ number ++ codes "\n"
    → text ≡ load_text n inside outside undecided commits
unfolding load_text
text_is n inside outside undecided commits none first a b c words number text h0 h1 h2 h3 h4 h5 h6 h7 =
    h7 ∙ ap (λ (t : List ℕ). t ++ codes "\n") (h6 ∙ ap (λ (t : List ℕ). t ++ decimal commits) (h5 ∙ ap (λ (t : List ℕ). t ++ codes " COMMITS ")
    (h4 ∙ ap (λ (t : List ℕ). t ++ (codes " UNDECIDED " ++ decimal undecided)) (h3 ∙ ap (λ (t : List ℕ). t ++ (codes " OUTSIDE " ++ decimal outside))
    (h2 ∙ ap (λ (t : List ℕ). t ++ (codes " INSIDE " ++ decimal inside)) (h1 ∙ ap (λ (t : List ℕ). t ++ (codes "LOAD " ++ decimal n)) h0))))))
    ∙ glued (codes "LOAD ") (decimal n) (codes " INSIDE ") (decimal inside) (codes " OUTSIDE ") (decimal outside)
    (codes " UNDECIDED ") (decimal undecided) (codes " COMMITS ") (decimal commits) (codes "\n")
