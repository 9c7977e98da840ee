-- A text that reads as tokens has them as its fields.
use Rattle.std.proofs.Common.{◌≡◌, ℕ, List, [], ◌∷◌, map, Option, Some, refl, ap, ◌∙◌}
use Rattle.solid_base.specs.declared.entities.Token.{Token}
use Rattle.solid_base.specs.declared.entities.Token.TheVariants as token
use Rattle.iges_fields.specs.Layout.{kind_of_token, content_of_token, Reads}
use Rattle.iges_parameters.specs.RecordFields.{token_of, listed, fields_of}
use Rattle.iges_parameters.proofs.FieldLists.{fields_unfold}

-- a token's field is the token
token_again : (t : Token) → token_of (kind_of_token t) (content_of_token t) ≡ t
token_again token.Empty = refl
token_again (token.Whole text) = refl
token_again (token.Real text) = refl
token_again (token.Text text) = refl

-- a text that reads as tokens has them as its fields
pub reads_fields : (comma semi : ℕ) (text : List ℕ) (ts : List Token) → Reads comma semi text ts → fields_of comma semi text ≡ map Some ts
reads_fields comma semi text [] h = absurd h
reads_fields comma semi text (t ∷ []) h =
    fields_unfold comma semi text ∙ ap (listed (fields_of comma semi)) h.1 ∙ ap (λ (x : Token). Some x ∷ []) (token_again t)
reads_fields comma semi text (t ∷ u ∷ ts) h =
    fields_unfold comma semi text ∙ ap (listed (fields_of comma semi)) h.1
    ∙ ap (λ (x : Token). Some x ∷ fields_of comma semi h.0) (token_again t)
    ∙ ap (λ (fs : List (Option Token)). Some t ∷ fs) (reads_fields comma semi h.0 (u ∷ ts) h.2)
