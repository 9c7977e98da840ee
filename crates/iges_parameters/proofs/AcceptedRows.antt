-- The rows of an accepted model can be written; a record that is kept is read back from its lines.
use Rattle.std.proofs.Common.{◌≡◌, ℕ, zero, suc, ◌+◌, ◌-◌, List, [], ◌∷◌, ◌++◌, length, take, replicate, refl, sym, ap, ◌∙◌, append_assoc, append-nil, length-append, arith}
use Rattle.std.specs.List.{AllByRecursion, concat, suffix_len, prefix_len}
use Rattle.std.proofs.lemmas.List.{reverse-append, take-append-le}
use Rattle.solid_base.specs.declared.entities.Entity.{Entity}
use Rattle.solid_base.specs.Spelling.{is_blank, before_blanks}
use Rattle.iges_fields.specs.Layout.{AreLines}
use Rattle.iges_parameters.specs.Accepted.{IsAcceptedEntity, IsWritable}
use Rattle.iges_parameters.specs.Writing.{kept_text}

pub can_be_written : (rows : List Entity) → AllByRecursion IsAcceptedEntity rows → AllByRecursion IsWritable rows
can_be_written [] h = tt
can_be_written (e ∷ rows) h = ((h.0.lawful, h.0.tail_spelt, h.0.tail_of_row), can_be_written rows h.1)

-- a blank more after a text
one_blank : (text : List ℕ) → before_blanks (text ++ 32 ∷ []) ≡ before_blanks text
one_blank text =
    let more : suffix_len is_blank (text ++ 32 ∷ []) ≡ 1 + suffix_len is_blank text = ap (prefix_len is_blank) (reverse-append text (32 ∷ [])) in
    let size = length-append text (32 ∷ []) in
    let fewer : length (text ++ 32 ∷ []) - suffix_len is_blank (text ++ 32 ∷ []) ≡ length text - suffix_len is_blank text = omega (arith, more, size) in
    ap (λ (n : ℕ). take n (text ++ 32 ∷ [])) fewer
    ∙ take-append-le (length text - suffix_len is_blank text) text (32 ∷ []) (omega arith)

blanks_after : (count : ℕ) (text : List ℕ) → before_blanks (text ++ replicate count 32) ≡ before_blanks text
blanks_after zero text = ap before_blanks (append-nil text)
blanks_after (suc count) text =
    ap before_blanks (sym (append_assoc text (32 ∷ []) (replicate count 32)))
    ∙ blanks_after count (text ++ 32 ∷ [])
    ∙ one_blank text

kept_before_blanks : (text : List ℕ) → before_blanks (kept_text text) ≡ before_blanks text
kept_before_blanks [] = refl
kept_before_blanks (b ∷ text) = refl

pub kept_back : (text : List ℕ) (lines : List (List ℕ)) → before_blanks text ≡ text → AreLines 64 (kept_text text) lines → before_blanks (concat lines) ≡ text
kept_back text lines kept are =
    ap before_blanks are.joined ∙ blanks_after are.blanks (kept_text text) ∙ kept_before_blanks text ∙ kept
