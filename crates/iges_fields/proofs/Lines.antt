-- Tokens in lines: what is laid step by step, cut into lines, and read back.
use Rattle.std.proofs.Common.{◌≡◌, ℕ, zero, suc, ◌+◌, ◌-◌, ◌<◌, ◌≤◌, List, [], ◌∷◌, ◌++◌, length, take, drop, get_or, replicate, decimal, Bool, true, false, ◌==◌, refl, sym, ap, subst, ◌∙◌, arith, append_assoc, append-nil, length-append, length-drop, length-take-le, min, add-one, Ok, Err, Result, IfOk}
use Rattle.std.specs.declared.alloc.AllocError.{AllocError}
use Rattle.std.specs.List.{AllByRecursion, concat}
use Rattle.std.proofs.lemmas.Fmt.{decimal_nonempty}
use Rattle.std.proofs.lemmas.List.{length-replicate, take-append-drop}
use Rattle.std.proofs.lemmas.List.Folds.{concat-append}
use Rattle.std.proofs.Math.Seq.{drop-cons}
use Rattle.std.proofs.Math.ListN.{drop_of_length-le}
use Rattle.solid_base.specs.Spelling.{AreBlanks}
use Rattle.solid_base.specs.declared.entities.Token.{Token}
use Rattle.solid_base.specs.declared.entities.Token.TheVariants as token
use Rattle.solid_base.proofs.DecimalTexts.{decimal_digits, decimal_value}
use Rattle.iges_fields.specs.Delimiters.{AreDelimiters}
use Rattle.iges_fields.specs.Grammar.{IsSpelling, delimiter}
use Rattle.iges_fields.specs.Reading.{field_at}
use Rattle.iges_fields.specs.Layout.{kind_of_token, content_of_token, spelling_of_token, IsSpelt, AreSpelt, IsHeld, AreHeld, field_of, is_last, Reads, piece, gap, placed, laid, AreLines}
use Rattle.iges_fields.proofs.Written.{spelt_is_read}

-- ---- a laid token is read back
blanks : (n : ℕ) → AreBlanks (replicate n 32)
blanks zero = tt
blanks (suc n) = (refl, blanks n)

spells : (t : Token) → IsSpelt t → IsHeld t → IsSpelling (kind_of_token t) (content_of_token t) (spelling_of_token t)
spells token.Empty h s = (refl, refl)
spells (token.Whole text) h s = (h, refl)
spells (token.Real text) h s = (h, refl)
spells (token.Text text) h s = record { digits = decimal (length text); are_digits = decimal_digits (length text) s; some = decimal_nonempty (length text) s; counts = decimal_value (length text) s; is = refl }

piece_again : (comma semi g : ℕ) (t : Token) (more : List ℕ) (ended : Bool) → AreDelimiters comma semi → IsSpelt t → IsHeld t
    → field_at comma semi ((replicate g 32 ++ piece (delimiter comma semi ended) t) ++ more) ≡ Ok (field_of t more ended)
piece_again comma semi g t more ended law h s =
    let d = delimiter comma semi ended in
    let glue : (replicate g 32 ++ (spelling_of_token t ++ d ∷ [])) ++ more ≡ replicate g 32 ++ (spelling_of_token t ++ d ∷ more) = simp append_assoc in
    spelt_is_read comma semi ((replicate g 32 ++ piece d t) ++ more) (field_of t more ended) law
    (record { before = replicate g 32; spelt = spelling_of_token t; after = []; blank_before = blanks g; spells = spells t h s; blank_after = tt; is = glue })

pub laid_reads : (width comma semi used : ℕ) (t : Token) (ts : List Token) (after : List ℕ) → AreDelimiters comma semi → AreSpelt (t ∷ ts) → AreHeld (t ∷ ts)
    → Reads comma semi (laid width comma semi used (t ∷ ts) ++ after) (t ∷ ts)
unfolding laid
laid_reads width comma semi used t [] after law h s =
    let p = placed width used (piece semi t) in
    let glue : (p ++ []) ++ after ≡ p ++ after = ap (λ (x : List ℕ). x ++ after) (append-nil p) in
    (after, ap (field_at comma semi) glue ∙ piece_again comma semi (gap width used (length (piece semi t))) t after true law h.0 s.0)
laid_reads width comma semi used t (u ∷ ts) after law h s =
    let p = placed width used (piece comma t) in
    let more = laid width comma semi (used + length p) (u ∷ ts) in (
      more ++ after,
      ap (field_at comma semi) (append_assoc p more after) ∙ piece_again comma semi (gap width used (length (piece comma t))) t (more ++ after) false law h.0 s.0,
      laid_reads width comma semi (used + length p) u ts after law h.1 s.1,
    )

pub some_tokens : (width comma semi : ℕ) (ts : List Token) (after : List ℕ) → 0 < length ts → AreDelimiters comma semi → AreSpelt ts → AreHeld ts → Reads comma semi (laid width comma semi 0 ts ++ after) ts
some_tokens width comma semi [] after some law h s = absurd (omega arith)
some_tokens width comma semi (t ∷ ts) after some law h s = laid_reads width comma semi 0 t ts after law h s

pub lines_read : (width comma semi : ℕ) (ts : List Token) (lines : List (List ℕ)) (after : List ℕ) → 0 < length ts → AreDelimiters comma semi → AreSpelt ts → AreHeld ts → AreLines width (laid width comma semi 0 ts) lines
    → Reads comma semi (concat lines ++ after) ts
lines_read width comma semi ts lines after some law h s is =
    let text = laid width comma semi 0 ts in
    let fill = replicate is.blanks 32 in
    let glue : concat lines ++ after ≡ text ++ (fill ++ after) = ap (λ (x : List ℕ). x ++ after) is.joined ∙ append_assoc text fill after in
    subst (λ (x : List ℕ). Reads comma semi x ts) (sym glue) (some_tokens width comma semi ts (fill ++ after) some law h s)

pub lines_back : (width comma semi : ℕ) (ts : List Token) (text : List ℕ) (r : Result (List (List ℕ)) AllocError) → 0 < length ts → AreDelimiters comma semi → AreSpelt ts → AreHeld ts → text ≡ laid width comma semi 0 ts
    → IfOk r (AreLines width text) → IfOk r (λ lines. (after : List ℕ) → Reads comma semi (concat lines ++ after) ts)
lines_back width comma semi ts text (Ok lines) some law h s is l = λ after. lines_read width comma semi ts lines after some law h s (subst (λ (x : List ℕ). AreLines width x lines) is l)
lines_back width comma semi ts text (Err e) some law h s is l = tt

-- ---- the steps of laying
last_is : (at : ℕ) (ts : List Token) (e : Token) → at < length ts → (at + 1 == length ts) ≡ is_last (drop (at + 1) ts)
last_is zero [] e h = absurd (omega arith)
last_is zero (t ∷ []) e h = refl
last_is zero (t ∷ u ∷ ts) e h = let z : (zero + 1 == length (t ∷ u ∷ ts)) ≡ false = grind arith in z
last_is (suc at) [] e h = absurd (omega arith)
last_is (suc at) (t ∷ ts) e h =
    let same : (suc at + 1 == length (t ∷ ts)) ≡ (at + 1 == length ts) = grind arith in
    let shift : drop (suc at + 1) (t ∷ ts) ≡ drop (at + 1) ts = rw (add-one, add-one) refl in
    same ∙ last_is at ts e (omega arith) ∙ ap is_last (sym shift)

pub goes_on : (width comma semi d at : ℕ) (out new bytes : List ℕ) (ts : List Token) (e : Token) (total : List ℕ) → at < length ts → d ≡ delimiter comma semi (at + 1 == length ts)
    → bytes ≡ piece d (get_or ts at e) → new ≡ out ++ placed width (length out) bytes
    → out ++ laid width comma semi (length out) (drop at ts) ≡ total → new ++ laid width comma semi (length new) (drop (at + 1) ts) ≡ total
unfolding laid
goes_on width comma semi d at out new bytes ts e total lt is made put so_far =
    let rest = drop (at + 1) ts in
    let t = get_or ts at e in
    let cut : drop at ts ≡ t ∷ rest = rw add-one (drop-cons ts at e lt) in
    let same : bytes ≡ piece (delimiter comma semi (is_last rest)) t = made ∙ ap (λ (x : ℕ). piece x t) (is ∙ ap (delimiter comma semi) (last_is at ts e lt)) in
    let p = placed width (length out) bytes in
    let size : length new ≡ length out + length p = ap (length {A = ℕ}) put ∙ length-append out p in
    let step : laid width comma semi (length out) (t ∷ rest) ≡ p ++ laid width comma semi (length out + length p) rest =
    ap (λ (b : List ℕ). placed width (length out) b ++ laid width comma semi (length out + length (placed width (length out) b)) rest) (sym same) in
    ap (λ (n : ℕ). new ++ laid width comma semi n rest) size
    ∙ ap (λ (x : List ℕ). x ++ laid width comma semi (length out + length p) rest) put
    ∙ append_assoc out p (laid width comma semi (length out + length p) rest)
    ∙ ap (λ (x : List ℕ). out ++ x) (sym step)
    ∙ ap (λ (x : List Token). out ++ laid width comma semi (length out) x) (sym cut)
    ∙ so_far

pub is_done : (width comma semi at : ℕ) (out : List ℕ) (ts : List Token) (total : List ℕ) → length ts ≤ at → out ++ laid width comma semi (length out) (drop at ts) ≡ total → out ≡ total
unfolding laid
is_done width comma semi at out ts total le so_far =
    let cut : drop at ts ≡ [] = drop_of_length-le ts le in
    sym (append-nil out) ∙ ap (λ (x : List Token). out ++ laid width comma semi (length out) x) (sym cut) ∙ so_far

pub held_more : (k : ℕ) (ts : List Token) (e : Token) → k < length ts → AreHeld (take k ts) → IsHeld (get_or ts k e) → AreHeld (take (k + 1) ts)
held_more zero [] e lt h s = absurd (omega arith)
held_more zero (t ∷ ts) e lt h s = (s, tt)
held_more (suc k) [] e lt h s = absurd (omega arith)
held_more (suc k) (t ∷ ts) e lt h s =
    let more : AreHeld (take (k + 1) ts) = held_more k ts e (omega arith) h.1 s in
    let size : suc k + 1 ≡ suc (k + 1) = omega arith in
    rw size (h.0, more)

-- ---- cutting into lines
-- lines that hold a text up to a rest; where there is a rest no blanks stand after the last line
pub record IsCutTo (width : ℕ) (text rest : List ℕ) (lines : List (List ℕ)) : Type 0 where
  pub wide : AllByRecursion (λ line. length line ≡ width) lines
  pub blanks : ℕ
  pub few : blanks < width
  pub open_end : 0 < length rest → blanks ≡ 0
  pub joined : concat lines ++ rest ≡ text ++ replicate blanks 32

pub cut_none : (width : ℕ) (text : List ℕ) → 0 < width → IsCutTo width text text []
cut_none width text some = record { wide = tt; blanks = 0; few = some; open_end = λ h. refl; joined = sym (append-nil text) }

wide_more : (width : ℕ) (lines : List (List ℕ)) (line : List ℕ) → AllByRecursion (λ l. length l ≡ width) lines → length line ≡ width → AllByRecursion (λ l. length l ≡ width) (lines ++ line ∷ [])
wide_more width [] line all h = (h, tt)
wide_more width (l ∷ lines) line all h = (all.0, wide_more width lines line all.1 h)

-- blanks where nothing stands after, or nothing where bytes do
swapped : (fill : ℕ) (after : List ℕ) → (0 < length after → fill ≡ 0) → replicate fill 32 ++ after ≡ after ++ replicate fill 32
swapped fill [] h = append-nil (replicate fill 32)
swapped fill (b ∷ bs) h =
    let none : fill ≡ 0 = h (omega arith) in
    ap (λ (n : ℕ). replicate n 32 ++ (b ∷ bs)) none ∙ sym (append-nil (b ∷ bs)) ∙ ap (λ (n : ℕ). (b ∷ bs) ++ replicate n 32) (sym none)

pub cut_more : (width k : ℕ) (text rest front after line : List ℕ) (lines : List (List ℕ)) → 0 < width → 0 < length rest → k ≡ min (length rest) width → front ≡ take k rest → after ≡ drop k rest
    → line ≡ front ++ replicate (width - length front) 32 → IsCutTo width text rest lines → IsCutTo width text after (lines ++ line ∷ [])
cut_more width k text rest front after line lines some more kk f b l h =
    let size : length front ≡ k = ap (length {A = ℕ}) f ∙ length-take-le k rest (omega arith) in
    let left : length after ≡ length rest - k = ap (length {A = ℕ}) b ∙ length-drop k rest in
    let fill = width - length front in
    let open_end : 0 < length after → fill ≡ 0 = λ lt. omega (arith, size, left, lt) in
    let none : h.blanks ≡ 0 = h.open_end more in
    let so_far : concat lines ++ rest ≡ text = h.joined ∙ ap (λ (n : ℕ). text ++ replicate n 32) none ∙ append-nil text in
    let whole : front ++ after ≡ rest = ap (λ (x : List ℕ). x ++ after) f ∙ ap (λ (x : List ℕ). take k rest ++ x) b ∙ take-append-drop k rest in
    let last : concat (lines ++ line ∷ []) ≡ concat lines ++ line = concat-append lines (line ∷ []) ∙ ap (λ (x : List ℕ). concat lines ++ x) (append-nil line) in
    record {
      wide = wide_more width lines line h.wide (ap (length {A = ℕ}) l ∙ length-append front (replicate fill 32) ∙ (let r = length-replicate {A = ℕ} fill 32 in omega (arith, r, size)));
      blanks = fill;
      few = omega (arith, size);
      open_end = open_end;
      joined = ap (λ (x : List ℕ). x ++ after) (last ∙ ap (λ (x : List ℕ). concat lines ++ x) l)
          ∙ append_assoc (concat lines) (front ++ replicate fill 32) after
          ∙ ap (λ (x : List ℕ). concat lines ++ x) (append_assoc front (replicate fill 32) after ∙ ap (λ (x : List ℕ). front ++ x) (swapped fill after open_end) ∙ sym (append_assoc front after (replicate fill 32)))
          ∙ ap (λ (x : List ℕ). concat lines ++ (x ++ replicate fill 32)) whole
          ∙ sym (append_assoc (concat lines) rest (replicate fill 32))
          ∙ ap (λ (x : List ℕ). x ++ replicate fill 32) so_far;
    }

pub cut_all : (width : ℕ) (text rest : List ℕ) (lines : List (List ℕ)) → rest ≡ [] → IsCutTo width text rest lines → AreLines width text lines
cut_all width text rest lines none h = record {
  wide = h.wide;
  blanks = h.blanks;
  few = h.few;
  joined = sym (append-nil (concat lines)) ∙ ap (λ (x : List ℕ). concat lines ++ x) (sym none) ∙ h.joined;
}
