-- A text is a global section with one reading, or has one first fault.
use Rattle.std.proofs.Common.{◌≡◌, ◌⊎◌, ◌<◌, ◌≤◌, ℕ, List, [], ◌∷◌, ◌++◌, length, length-append, Bool, true, false, Option, Some, None, refl, sym, ap, subst, ◌∙◌, arith, inl, inr}
use Rattle.solid_base.specs.declared.entities.Token.{Token}
use Rattle.iges_fields.specs.Delimiters.{AreDelimiters}
use Rattle.iges_fields.specs.Grammar.{delimiter}
use Rattle.iges_fields.specs.Layout.{is_last, AreFields}
use Rattle.iges_directory.specs.declared.global_faults.GlobalFault.{GlobalFault}
use Rattle.iges_directory.specs.declared.global_faults.GlobalFault.TheVariants as fault
use Rattle.iges_directory.specs.declared.globals.GlobalText.{GlobalText}
use Rattle.iges_directory.specs.Global.{TellsDelimiter, IsFirst, IsSecond, IsGlobal, StopsAt, NoFirst, NoSecond, NoOther, IsFirstFault, IsFaultOf}
use Rattle.iges_directory.specs.GlobalReading.{first_in, Second, second_in}
use Rattle.iges_directory.specs.GlobalSteps.{IsOtherFault}
use Rattle.iges_directory.proofs.Telling.{first_lawful, first_again, first_takes, second_lawful, second_again, second_takes}
use Rattle.iges_directory.proofs.FieldLaws.{same_fields, fields_go_on, stops_once, Found, fields_or_stop}

-- ---- the delimiters
one_first : (c d : ℕ) (text r s : List ℕ) → IsFirst c text r → IsFirst d text s → ◌≡◌ {A = ℕ × List ℕ} (c, r) (d, s)
one_first c d text r s h k =
    let e : ◌≡◌ {A = Option (ℕ × List ℕ)} (Some (c, r)) (Some (d, s)) = sym (first_again c text r h) ∙ first_again d text s k in
    cc

abbrev pub second : ℕ → Bool → List ℕ → Second
second semi ended rest = record { semi = semi; ended = ended; rest = rest }

-- the second parameter stands after one first parameter
moved : (c d semi : ℕ) (ended : Bool) (r s rest : List ℕ) → ◌≡◌ {A = ℕ × List ℕ} (c, r) (d, s) → IsSecond c semi ended r rest → IsSecond d semi ended s rest
moved c d semi ended r s rest e h = subst (λ (p : ℕ × List ℕ). IsSecond p.0 semi ended p.1 rest) e h

one_second : (comma m n : ℕ) (v w : Bool) (text first r s : List ℕ) → IsFirst comma first text → IsSecond comma m v text r → IsSecond comma n w text s → second m v r ≡ second n w s
one_second comma m n v w text first r s f h k =
    let law = first_lawful comma first text f in
    let e : ◌≡◌ {A = Option Second} (Some (second m v r)) (Some (second n w s)) = sym (second_again comma m v text r law h) ∙ second_again comma n w text s law k in
    cc

-- ---- one reading
pub global_once : (text : List ℕ) (a b : GlobalText) → IsGlobal text a → IsGlobal text b → a ≡ b
global_once text a b h k =
    let p = one_first a.comma b.comma text h.after_first k.after_first h.first k.first in
    let c : a.comma ≡ b.comma = ap (λ (x : ℕ × List ℕ). x.0) p in
    let e = one_second b.comma a.semi b.semi (is_last a.tokens) (is_last b.tokens) k.after_first text h.after_second k.after_second k.first
    (moved a.comma b.comma a.semi (is_last a.tokens) h.after_first k.after_first h.after_second p h.second) k.second in
    let s : a.semi ≡ b.semi = ap (λ (x : Second). x.semi) e in
    let law = second_lawful b.comma b.semi (is_last b.tokens) k.after_first k.after_second (first_lawful b.comma text k.after_first k.first) k.second in
    let mine : AreFields b.comma b.semi k.after_second a.tokens =
    subst (λ (x : Second). AreFields b.comma x.semi x.rest a.tokens) e (subst (λ (x : ℕ). AreFields x a.semi h.after_second a.tokens) c h.fields) in
    let t = same_fields b.comma b.semi k.after_second a.tokens b.tokens law (ap (λ (x : Second). x.ended) e) mine k.fields in
    let one : a ≡ record { comma = b.comma; semi = a.semi; tokens = a.tokens } = ap (λ (x : ℕ). let g : GlobalText = record { comma = x; semi = a.semi; tokens = a.tokens } in g) c in
    let two : ◌≡◌ {A = GlobalText} (record { comma = b.comma; semi = a.semi; tokens = a.tokens }) (record { comma = b.comma; semi = b.semi; tokens = a.tokens }) = ap (λ (x : ℕ). let g : GlobalText = record { comma = b.comma; semi = x; tokens = a.tokens } in g) s in
    let three : ◌≡◌ {A = GlobalText} (record { comma = b.comma; semi = b.semi; tokens = a.tokens }) b = ap (λ (x : List Token). let g : GlobalText = record { comma = b.comma; semi = b.semi; tokens = x } in g) t in
    one ∙ two ∙ three

-- ---- one first fault
second_lacks : (text first r : List ℕ) (comma semi : ℕ) (ended : Bool) (h : NoSecond text) → IsFirst comma text first → IsSecond comma semi ended first r → ⊥
second_lacks text first r comma semi ended h f s =
    h.none semi ended r (moved comma h.comma semi ended first h.after_first r (one_first comma h.comma text first h.after_first f h.first) s)

other_second : (text first r : List ℕ) (comma semi n : ℕ) (ended : Bool) (h : NoOther n text) → IsFirst comma text first → IsSecond comma semi ended first r → second semi ended r ≡ second h.semi false h.after_second
other_second text first r comma semi n ended h f s =
    one_second h.comma semi h.semi ended false h.after_first text r h.after_second h.first
    (moved comma h.comma semi ended first h.after_first r (one_first comma h.comma text first h.after_first f h.first) s) h.second

pub one_fault : (text : List ℕ) (m n : ℕ) → IsFirstFault m text → IsFirstFault n text → m ≡ n
one_fault text m n (inl h) (inl k) = h.0 ∙ sym k.0
one_fault text m n (inl h) (inr (inl k)) = absurd (h.1 k.1.comma k.1.after_first k.1.first)
one_fault text m n (inl h) (inr (inr k)) = absurd (h.1 k.comma k.after_first k.first)
one_fault text m n (inr (inl h)) (inl k) = absurd (k.1 h.1.comma h.1.after_first h.1.first)
one_fault text m n (inr (inr h)) (inl k) = absurd (k.1 h.comma h.after_first h.first)
one_fault text m n (inr (inl h)) (inr (inl k)) = h.0 ∙ sym k.0
one_fault text m n (inr (inl h)) (inr (inr k)) = absurd (second_lacks text k.after_first k.after_second k.comma k.semi false h.1 k.first k.second)
one_fault text m n (inr (inr h)) (inr (inl k)) = absurd (second_lacks text h.after_first h.after_second h.comma h.semi false k.1 h.first h.second)
one_fault text m n (inr (inr h)) (inr (inr k)) =
    let c : h.comma ≡ k.comma = ap (λ (x : ℕ × List ℕ). x.0) (one_first h.comma k.comma text h.after_first k.after_first h.first k.first) in
    let e = other_second text h.after_first h.after_second h.comma h.semi n false k h.first h.second in
    let law = second_lawful k.comma k.semi false k.after_first k.after_second (first_lawful k.comma text k.after_first k.first) k.second in
    let mine = subst (λ (x : Second). StopsAt k.comma x.semi m x.rest) e (subst (λ (x : ℕ). StopsAt x h.semi m h.after_second) c h.stops) in
    stops_once k.comma k.semi m n k.after_second law mine k.stops

-- ---- never both
pub global_no_fault : (text : List ℕ) (global : GlobalText) (n : ℕ) → IsGlobal text global → IsFirstFault n text → ⊥
global_no_fault text global n h (inl k) = k.1 global.comma h.after_first h.first
global_no_fault text global n h (inr (inl k)) = second_lacks text h.after_first h.after_second global.comma global.semi (is_last global.tokens) k.1 h.first h.second
global_no_fault text global n h (inr (inr k)) =
    let c : global.comma ≡ k.comma = ap (λ (x : ℕ × List ℕ). x.0) (one_first global.comma k.comma text h.after_first k.after_first h.first k.first) in
    let e = other_second text h.after_first h.after_second global.comma global.semi n (is_last global.tokens) k h.first h.second in
    let law = second_lawful k.comma k.semi false k.after_first k.after_second (first_lawful k.comma text k.after_first k.first) k.second in
    let mine : AreFields k.comma k.semi k.after_second global.tokens =
    subst (λ (x : Second). AreFields k.comma x.semi x.rest global.tokens) e (subst (λ (x : ℕ). AreFields x global.semi h.after_second global.tokens) c h.fields) in
    fields_go_on k.comma k.semi k.after_second k.stops.rest global.tokens k.stops.front law (ap (λ (x : Second). x.ended) e) mine k.stops.begins k.stops.none

-- ---- from the steps
tells_shorter : (usual d end : ℕ) (text rest : List ℕ) → TellsDelimiter usual d end text rest → length rest < length text
tells_shorter usual d end text rest h =
    let whole = ap (length {A = ℕ}) h.is in
    let a = length-append h.before (h.spelt ++ (h.after ++ end ∷ rest)) in
    let b = length-append h.spelt (h.after ++ end ∷ rest) in
    let c = length-append h.after (end ∷ rest) in
    omega (arith, whole, a, b, c)

pub second_shorter : (text rest r : List ℕ) (comma semi most : ℕ) (ended : Bool) → first_in text ≡ Some (comma, rest) → second_in comma rest ≡ Some (second semi ended r) → length text ≤ most → length r ≤ most
second_shorter text rest r comma semi most ended f s le =
    let a = tells_shorter 44 comma comma text rest (first_takes comma text rest f) in
    let b = tells_shorter 59 semi (delimiter comma semi ended) rest r (second_takes comma rest (second semi ended r) s).1 in
    omega (arith, a, b, le)

pub lacks_first : (text : List ℕ) → first_in text ≡ None → NoFirst text
lacks_first text e comma rest h = let both : ◌≡◌ {A = Option (ℕ × List ℕ)} None (Some (comma, rest)) = sym e ∙ first_again comma text rest h in cc

pub lacks_second : (text rest : List ℕ) (comma : ℕ) → first_in text ≡ Some (comma, rest) → second_in comma rest ≡ None → NoSecond text
lacks_second text rest comma f e =
    let first = first_takes comma text rest f in
    record {
      comma = comma;
      after_first = rest;
      first = first;
      none = λ semi ended r h.
          let both : ◌≡◌ {A = Option Second} None (Some (second semi ended r)) = sym e ∙ second_again comma semi ended rest r (first_lawful comma text rest first) h in
          cc;
    }

pub lawful_told : (text rest r : List ℕ) (comma semi : ℕ) (ended : Bool) → first_in text ≡ Some (comma, rest) → second_in comma rest ≡ Some (second semi ended r) → AreDelimiters comma semi
lawful_told text rest r comma semi ended f s =
    second_lawful comma semi ended rest r (first_lawful comma text rest (first_takes comma text rest f)) (second_takes comma rest (second semi ended r) s)

pub lacks_other : (text rest r : List ℕ) (comma semi n : ℕ) → first_in text ≡ Some (comma, rest) → second_in comma rest ≡ Some (second semi false r) → StopsAt comma semi n r → NoOther n text
lacks_other text rest r comma semi n f s h = record {
  comma = comma;
  semi = semi;
  after_first = rest;
  after_second = r;
  first = first_takes comma text rest f;
  second = second_takes comma rest (second semi false r) s;
  stops = h;
}

pub is_short : (text rest r : List ℕ) (comma semi : ℕ) → first_in text ≡ Some (comma, rest) → second_in comma rest ≡ Some (second semi true r) → IsGlobal text (record { comma = comma; semi = semi; tokens = [] })
is_short text rest r comma semi f s = record {
  after_first = rest;
  after_second = r;
  first = first_takes comma text rest f;
  second = second_takes comma rest (second semi true r) s;
  fields = tt;
}

pub is_long : (text rest r : List ℕ) (comma semi : ℕ) (ts : List Token) → first_in text ≡ Some (comma, rest) → second_in comma rest ≡ Some (second semi false r) → 0 < length ts → AreFields comma semi r ts
    → IsGlobal text (record { comma = comma; semi = semi; tokens = ts })
is_long text rest r comma semi [] f s some h = absurd (omega arith)
is_long text rest r comma semi (t ∷ ts) f s some h = record {
  after_first = rest;
  after_second = r;
  first = first_takes comma text rest f;
  second = second_takes comma rest (second semi false r) s;
  fields = h;
}

-- a fault of the fields is one of the text
pub other_fault : (text rest r : List ℕ) (comma semi : ℕ) (fault : GlobalFault) → first_in text ≡ Some (comma, rest) → second_in comma rest ≡ Some (second semi false r) → IsOtherFault comma semi r fault → IsFaultOf text fault
other_fault text rest r comma semi (fault.Memory e) f s h = tt
other_fault text rest r comma semi (fault.BadGlobal n) f s h = inr (inr (lacks_other text rest r comma semi n f s h))

-- ---- one of both
abbrev pub Told : List ℕ → Type 0
Told text = ((global : GlobalText) × IsGlobal text global) ⊎ ((n : ℕ) × IsFirstFault n text)

fields_told : (text rest r : List ℕ) (comma semi : ℕ) → first_in text ≡ Some (comma, rest) → second_in comma rest ≡ Some (second semi false r) → Found comma semi r → Told text
fields_told text rest r comma semi f s (inl ([], last, h)) = cc
fields_told text rest r comma semi f s (inl (t ∷ ts, last, h)) = inl (record { comma = comma; semi = semi; tokens = t ∷ ts }, is_long text rest r comma semi (t ∷ ts) f s (omega arith) h)
fields_told text rest r comma semi f s (inr (n, h)) = inr (n, inr (inr (lacks_other text rest r comma semi n f s h)))

pub global_or_fault : (text : List ℕ) → Told text
global_or_fault text = go (first_in text) refl where
  seconds : (comma : ℕ) (rest : List ℕ) (o : Option Second) → first_in text ≡ Some (comma, rest) → second_in comma rest ≡ o → Told text
  seconds comma rest None f e = inr (2, inr (inl (refl, lacks_second text rest comma f e)))
  seconds comma rest (Some s) f e = ends s.semi s.ended s.rest e where
    ends : (semi : ℕ) (v : Bool) (r : List ℕ) → second_in comma rest ≡ Some (second semi v r) → Told text
    ends semi true r k = inl (record { comma = comma; semi = semi; tokens = [] }, is_short text rest r comma semi f k)
    ends semi false r k = fields_told text rest r comma semi f k (fields_or_stop comma semi r (lawful_told text rest r comma semi false f k))

  go : (o : Option (ℕ × List ℕ)) → first_in text ≡ o → Told text
  go None e = inr (1, inl (refl, lacks_first text e))
  go (Some p) e = seconds p.0 p.1 (second_in p.0 p.1) e refl
