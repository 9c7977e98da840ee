-- Parameters 1 and 2: what is spelt as one is read as it, and what is read was spelt so.
use Rattle.std.proofs.Common.{◌≡◌, ◌≢◌, ℕ, List, [], ◌∷◌, ◌++◌, take, Bool, true, false, cond, ◌&&◌, ◌==◌, refl, sym, ap, ◌∙◌, arith, append_assoc, inl, inr, Option, Some, None}
use Rattle.std.specs.List.{prefix_len}
use Rattle.std.proofs.lemmas.List.{take-append-drop}
use Rattle.std.proofs.lemmas.Bool.Decides.{nat_tests}
use Rattle.solid_base.specs.Spelling.{is_blank, AreBlanks, after_blanks}
use Rattle.solid_base.proofs.Prefix.{front_passes, both}
use Rattle.iges_fields.specs.Delimiters.{is_lawful, AreDelimiters}
use Rattle.iges_fields.specs.Grammar.{delimiter}
use Rattle.iges_fields.proofs.Numerics.{all_append, lawful_parts}
use Rattle.iges_fields.proofs.Ends.{blanks_skipped}
use Rattle.iges_directory.specs.Global.{SpellsDelimiter, TellsDelimiter, IsFirst, IsSecond}
use Rattle.iges_directory.specs.GlobalReading.{told_at, told, closed, first_in, Second, ended_by, second_in}

-- ---- bytes
same_byte : (b : ℕ) → (b == b) ≡ true
same_byte b = grind arith

is_byte : (b c : ℕ) → (b == c) ≡ true → b ≡ c
is_byte b c h = grind arith

other_byte : (b c : ℕ) → b ≢ c → (b == c) ≡ false
other_byte b c h = grind arith

no_other : (b c : ℕ) → (b == c) ≡ false → b ≢ c
no_other b c h = grind arith

lawful_no_one : (d : ℕ) → is_lawful d ≡ true → (d == 49) ≡ false
lawful_no_one d h = grind (arith, nat_tests)

-- a delimiter that is told is lawful
pub told_lawful : (usual d : ℕ) (spelt : List ℕ) → is_lawful usual ≡ true → SpellsDelimiter usual d spelt → is_lawful d ≡ true
told_lawful usual d spelt law (inl h) = rw h.1 law
told_lawful usual d spelt law (inr h) = h.1

-- ---- what is spelt is read
nothing_told : (usual end : ℕ) (rest : List ℕ) → (end == 49) ≡ false → told_at usual (end ∷ rest) ≡ (usual, end ∷ rest)
nothing_told usual end [] h = refl
nothing_told usual end (b ∷ []) h = refl
nothing_told usual end (b ∷ d ∷ rest) h = rw h refl

tells : (usual d end : ℕ) (text rest before spelt after : List ℕ) → is_lawful end ≡ true → AreBlanks before → AreBlanks after → SpellsDelimiter usual d spelt
    → text ≡ before ++ (spelt ++ (after ++ end ∷ rest)) → told usual text ≡ (d, end ∷ rest)
tells usual d end text rest before spelt after law blank_before blank_after (inl h) is =
    let stop : prefix_len is_blank (end ∷ rest) ≡ 0 = rw ((lawful_parts end law).blank) refl in
    let cut : after_blanks text ≡ end ∷ rest =
    ap after_blanks is ∙ ap (λ (s : List ℕ). after_blanks (before ++ (s ++ (after ++ end ∷ rest)))) h.0 ∙ ap after_blanks (sym (append_assoc before after (end ∷ rest)))
    ∙ blanks_skipped (before ++ after) (end ∷ rest) (all_append is_blank before after blank_before blank_after) stop in
    ap (told_at usual) cut ∙ nothing_told usual end rest (lawful_no_one end law) ∙ ap (λ (x : ℕ). (x, end ∷ rest)) (sym h.1)
tells usual d end text rest before spelt after law blank_before blank_after (inr h) is =
    let stop : prefix_len is_blank (end ∷ rest) ≡ 0 = rw ((lawful_parts end law).blank) refl in
    let cut : after_blanks text ≡ 49 ∷ 72 ∷ d ∷ (after ++ end ∷ rest) =
    ap after_blanks is ∙ ap (λ (s : List ℕ). after_blanks (before ++ (s ++ (after ++ end ∷ rest)))) h.0
    ∙ blanks_skipped before (49 ∷ 72 ∷ d ∷ (after ++ end ∷ rest)) blank_before refl in
    let one : told_at usual (49 ∷ 72 ∷ d ∷ (after ++ end ∷ rest)) ≡ (d, after_blanks (after ++ end ∷ rest)) = rw h.1 refl in
    ap (told_at usual) cut ∙ one ∙ ap (λ (x : List ℕ). (d, x)) (blanks_skipped after (end ∷ rest) blank_after stop)

told_again : (usual d end : ℕ) (text rest : List ℕ) → is_lawful end ≡ true → TellsDelimiter usual d end text rest → told usual text ≡ (d, end ∷ rest)
told_again usual d end text rest law h = tells usual d end text rest h.before h.spelt h.after law h.blank_before h.blank_after h.spells h.is

pub first_lawful : (comma : ℕ) (text rest : List ℕ) → IsFirst comma text rest → is_lawful comma ≡ true
first_lawful comma text rest h = told_lawful 44 comma h.spelt refl h.spells

pub first_again : (comma : ℕ) (text rest : List ℕ) → IsFirst comma text rest → first_in text ≡ Some (comma, rest)
unfolding first_in
first_again comma text rest h =
    let e = told_again 44 comma comma text rest (first_lawful comma text rest h) h in
    let one : closed comma (comma ∷ rest) ≡ Some (comma, rest) = rw (same_byte comma) refl in
    ap (λ (p : ℕ × List ℕ). closed p.0 p.1) e ∙ one

pub second_lawful : (comma semi : ℕ) (ended : Bool) (text rest : List ℕ) → is_lawful comma ≡ true → IsSecond comma semi ended text rest → AreDelimiters comma semi
second_lawful comma semi ended text rest law h =
    (law, told_lawful 59 semi h.1.spelt refl h.1.spells, λ e. h.0 (sym e))

ends : (comma semi : ℕ) (ended : Bool) (rest : List ℕ) → semi ≢ comma → ended_by comma semi (delimiter comma semi ended ∷ rest) ≡ Some (record { semi = semi; ended = ended; rest = rest })
ends comma semi false rest other = rw (same_byte comma) refl
ends comma semi true rest other = rw (other_byte semi comma other, same_byte semi) refl

end_lawful : (comma semi : ℕ) (ended : Bool) → AreDelimiters comma semi → is_lawful (delimiter comma semi ended) ≡ true
end_lawful comma semi false law = law.0
end_lawful comma semi true law = law.1

pub second_again : (comma semi : ℕ) (ended : Bool) (text rest : List ℕ) → is_lawful comma ≡ true → IsSecond comma semi ended text rest
    → second_in comma text ≡ Some (record { semi = semi; ended = ended; rest = rest })
unfolding second_in
second_again comma semi ended text rest law h =
    let d = delimiter comma semi ended in
    let e = told_again 59 semi d text rest (end_lawful comma semi ended (second_lawful comma semi ended text rest law h)) h.1 in
    let one : cond (semi == comma) None (ended_by comma semi (d ∷ rest)) ≡ Some (record { semi = semi; ended = ended; rest = rest }) = rw (other_byte semi comma h.0) (ends comma semi ended rest h.0) in
    ap (λ (p : ℕ × List ℕ). cond (p.0 == comma) None (ended_by comma p.0 p.1)) e ∙ one

-- ---- what is read was spelt
nothing_spelt : (usual d end : ℕ) (text rest before r : List ℕ) → AreBlanks before → text ≡ before ++ r → ◌≡◌ {A = ℕ × List ℕ} (usual, r) (d, end ∷ rest) → TellsDelimiter usual d end text rest
nothing_spelt usual d end text rest before r blank is e = record {
  before = before;
  spelt = [];
  after = [];
  blank_before = blank;
  spells = inl (refl, sym (ap (λ (p : ℕ × List ℕ). p.0) e));
  blank_after = tt;
  is = is ∙ ap (λ (p : ℕ × List ℕ). before ++ p.1) e;
}

blanks_cut : (text : List ℕ) → text ≡ take (prefix_len is_blank text) text ++ after_blanks text
blanks_cut text = sym (take-append-drop (prefix_len is_blank text) text)

told_takes : (usual d end : ℕ) (text rest : List ℕ) → told usual text ≡ (d, end ∷ rest) → TellsDelimiter usual d end text rest
told_takes usual d end text rest h = go (after_blanks text) (blanks_cut text) h where
  before : List ℕ
  before = take (prefix_len is_blank text) text

  spelt_out : (a b x : ℕ) (more : List ℕ) (v : Bool) → (a == 49) && (b == 72) && is_lawful x ≡ v → text ≡ before ++ a ∷ b ∷ x ∷ more
      → ◌≡◌ {A = ℕ × List ℕ} (cond v (x, after_blanks more) (usual, a ∷ b ∷ x ∷ more)) (d, end ∷ rest) → TellsDelimiter usual d end text rest
  spelt_out a b x more false is cut e = nothing_spelt usual d end text rest before (a ∷ b ∷ x ∷ more) (front_passes is_blank text) cut e
  spelt_out a b x more true is cut e =
      let q = both ((a == 49) && (b == 72)) (is_lawful x) is in
      let p = both (a == 49) (b == 72) q.0 in
      let dd : x ≡ d = ap (λ (p : ℕ × List ℕ). p.0) e in
      let left : after_blanks more ≡ end ∷ rest = ap (λ (p : ℕ × List ℕ). p.1) e in
      record {
        before = before;
        spelt = 49 ∷ 72 ∷ d ∷ [];
        after = take (prefix_len is_blank more) more;
        blank_before = front_passes is_blank text;
        spells = inr (refl, ap is_lawful (sym dd) ∙ q.1);
        blank_after = front_passes is_blank more;
        is = cut
            ∙ ap (λ (n : ℕ). before ++ n ∷ b ∷ x ∷ more) (is_byte a 49 p.0)
            ∙ ap (λ (n : ℕ). before ++ 49 ∷ n ∷ x ∷ more) (is_byte b 72 p.1)
            ∙ ap (λ (n : ℕ). before ++ 49 ∷ 72 ∷ n ∷ more) dd
            ∙ ap (λ (t : List ℕ). before ++ 49 ∷ 72 ∷ d ∷ t) (blanks_cut more ∙ ap (λ (t : List ℕ). take (prefix_len is_blank more) more ++ t) left);
      }

  go : (r : List ℕ) → text ≡ before ++ r → told_at usual r ≡ (d, end ∷ rest) → TellsDelimiter usual d end text rest
  go [] cut e = nothing_spelt usual d end text rest before [] (front_passes is_blank text) cut e
  go (a ∷ []) cut e = nothing_spelt usual d end text rest before (a ∷ []) (front_passes is_blank text) cut e
  go (a ∷ b ∷ []) cut e = nothing_spelt usual d end text rest before (a ∷ b ∷ []) (front_passes is_blank text) cut e
  go (a ∷ b ∷ x ∷ more) cut e = spelt_out a b x more ((a == 49) && (b == 72) && is_lawful x) refl cut e

pub first_takes : (comma : ℕ) (text rest : List ℕ) → first_in text ≡ Some (comma, rest) → IsFirst comma text rest
unfolding first_in
first_takes comma text rest h = go (told 44 text).0 (told 44 text).1 refl h where
  at : (t b : ℕ) (more : List ℕ) (v : Bool) → (b == t) ≡ v → told 44 text ≡ (t, b ∷ more) → ◌≡◌ {A = Option (ℕ × List ℕ)} (cond v (Some (t, more)) None) (Some (comma, rest)) → IsFirst comma text rest
  at t b more false is e k = cc
  at t b more true is e k =
      let p : ◌≡◌ {A = ℕ × List ℕ} (t, more) (comma, rest) = cc in
      let c : t ≡ comma = ap (λ (p : ℕ × List ℕ). p.0) p in
      let m : more ≡ rest = ap (λ (p : ℕ × List ℕ). p.1) p in
      let bc : b ≡ comma = is_byte b t is ∙ c in
      let same : ◌≡◌ {A = ℕ × List ℕ} (t, b ∷ more) (comma, comma ∷ rest) = rw (bc, c, m) refl in
      told_takes 44 comma comma text rest (e ∙ same)

  go : (t : ℕ) (r : List ℕ) → told 44 text ≡ (t, r) → closed t r ≡ Some (comma, rest) → IsFirst comma text rest
  go t [] e k = cc
  go t (b ∷ more) e k = at t b more (b == t) refl e k

pub second_takes : (comma : ℕ) (text : List ℕ) (s : Second) → second_in comma text ≡ Some s → IsSecond comma s.semi s.ended text s.rest
unfolding second_in
second_takes comma text s h = go (told 59 text).0 (told 59 text).1 ((told 59 text).0 == comma) refl refl h where
  done : (semi b : ℕ) (more : List ℕ) (ended : Bool) → semi ≢ comma → b ≡ delimiter comma semi ended → told 59 text ≡ (semi, b ∷ more)
      → ◌≡◌ {A = Option Second} (Some (record { semi = semi; ended = ended; rest = more })) (Some s) → IsSecond comma s.semi s.ended text s.rest
  done semi b more ended other is e k =
      let p : ◌≡◌ {A = Second} (record { semi = semi; ended = ended; rest = more }) s = cc in
      rw (sym p) (other, told_takes 59 semi (delimiter comma semi ended) text more (e ∙ ap (λ (x : ℕ). (semi, x ∷ more)) is))

  at : (semi b : ℕ) (more : List ℕ) (v w : Bool) → semi ≢ comma → (b == comma) ≡ v → (b == semi) ≡ w → told 59 text ≡ (semi, b ∷ more)
      → ◌≡◌ {A = Option Second} (cond v (Some (record { semi = semi; ended = false; rest = more })) (cond w (Some (record { semi = semi; ended = true; rest = more })) None)) (Some s)
      → IsSecond comma s.semi s.ended text s.rest
  at semi b more true w other is es e k = done semi b more false other (is_byte b comma is) e k
  at semi b more false true other is es e k = done semi b more true other (is_byte b semi es) e k
  at semi b more false false other is es e k = cc

  go : (semi : ℕ) (r : List ℕ) (v : Bool) → (semi == comma) ≡ v → told 59 text ≡ (semi, r) → ◌≡◌ {A = Option Second} (cond v None (ended_by comma semi r)) (Some s) → IsSecond comma s.semi s.ended text s.rest
  go semi r true is e k = cc
  go semi [] false is e k = cc
  go semi (b ∷ more) false is e k = at semi b more (b == comma) (b == semi) (no_other semi comma is) refl refl e k
