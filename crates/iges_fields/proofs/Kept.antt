-- What the tokens of a text keep of it: they are spelt as numbers are, and of one line where the text is.
use Rattle.std.proofs.Common.{ℕ, List, [], ◌∷◌, ◌++◌, Bool, subst}
use Rattle.solid_base.specs.Texts.{IsOneLine}
use Rattle.solid_base.specs.declared.entities.Token.{Token}
use Rattle.solid_base.specs.declared.entities.Token.TheVariants as token
use Rattle.solid_base.proofs.Texts.{one_line_front, one_line_end}
use Rattle.iges_fields.specs.Grammar.{IsSpelling, delimiter, IsField}
use Rattle.iges_fields.specs.Layout.{kind_of_token, content_of_token, IsSpelt, AreSpelt, AreOneLine, field_of, is_last, AreFields}

-- ---- spelt
pub token_spelt : (t : Token) (spelt : List ℕ) → IsSpelling (kind_of_token t) (content_of_token t) spelt → IsSpelt t
token_spelt token.Empty spelt h = tt
token_spelt (token.Whole text) spelt h = h.0
token_spelt (token.Real text) spelt h = h.0
token_spelt (token.Text text) spelt h = tt

pub fields_spelt : (comma semi : ℕ) (text : List ℕ) (ts : List Token) → AreFields comma semi text ts → AreSpelt ts
fields_spelt comma semi text [] h = tt
fields_spelt comma semi text (t ∷ ts) h = (token_spelt t h.1.spelt h.1.spells, fields_spelt comma semi h.0 ts h.2)

-- ---- of one line
token_line : (t : Token) (spelt : List ℕ) → IsSpelling (kind_of_token t) (content_of_token t) spelt → IsOneLine spelt → IsOneLine (content_of_token t)
token_line token.Empty spelt h one = tt
token_line (token.Whole text) spelt h one = subst IsOneLine h.1 one
token_line (token.Real text) spelt h one = subst IsOneLine h.1 one
token_line (token.Text text) spelt h one = (one_line_end h.digits (72 ∷ text) (subst IsOneLine h.is one)).1

-- a field of a text of one line, and what stands after it, are of one line
pub field_line : (comma semi : ℕ) (text : List ℕ) (t : Token) (rest : List ℕ) (ended : Bool) → IsOneLine text → IsField comma semi text (field_of t rest ended)
    → IsOneLine (content_of_token t) × IsOneLine rest
field_line comma semi text t rest ended one h =
    let end : List ℕ = delimiter comma semi ended ∷ rest in
    let here = one_line_end h.before (h.spelt ++ (h.after ++ end)) (subst IsOneLine h.is one) in
    let spelt = one_line_front h.spelt (h.after ++ end) here in
    let more = one_line_end h.after end (one_line_end h.spelt (h.after ++ end) here) in
    (token_line t h.spelt h.spells spelt, more.1)

pub fields_line : (comma semi : ℕ) (text : List ℕ) (ts : List Token) → IsOneLine text → AreFields comma semi text ts → AreOneLine ts
fields_line comma semi text [] one h = tt
fields_line comma semi text (t ∷ ts) one h =
    let f = field_line comma semi text t h.0 (is_last ts) one h.1 in
    (f.0, fields_line comma semi h.0 ts f.1 h.2)
