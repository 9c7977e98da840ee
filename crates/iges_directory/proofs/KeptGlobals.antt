-- What the parameters of a global section keep of its text.
use Rattle.std.proofs.Common.{ℕ, ◌+◌, ◌*◌, ◌^◌, ◌<◌, ◌≤◌, List, [], ◌∷◌, ◌++◌, length, decimal, ap, subst, arith, length-append}
use Rattle.std.proofs.lemmas.Fmt.{length-decimal-le}
use Rattle.solid_base.specs.Texts.{IsOneLine}
use Rattle.solid_base.specs.declared.entities.Token.TheVariants as token
use Rattle.iges_fields.specs.Delimiters.{AreDelimiters}
use Rattle.iges_fields.specs.Grammar.{delimiter}
use Rattle.iges_fields.specs.Layout.{spelling_of_token, AreSpelt, AreOneLine, laid, spelt_size, is_last}
use Rattle.solid_base.proofs.Texts.{one_line_end}
use Rattle.iges_fields.proofs.Kept.{fields_spelt, fields_line}
use Rattle.iges_fields.proofs.Sizes.{fields_size, laid_size}
use Rattle.iges_directory.specs.declared.globals.GlobalText.{GlobalText}
use Rattle.iges_directory.specs.Global.{TellsDelimiter, IsGlobal}
use Rattle.iges_directory.proofs.Telling.{first_lawful, second_lawful}

pub delimiters_kept : (text : List ℕ) (global : GlobalText) → IsGlobal text global → AreDelimiters global.comma global.semi
delimiters_kept text global h =
    second_lawful global.comma global.semi (is_last global.tokens) h.after_first h.after_second (first_lawful global.comma text h.after_first h.first) h.second

pub parameters_spelt : (text : List ℕ) (global : GlobalText) → IsGlobal text global → AreSpelt global.tokens
parameters_spelt text global h = fields_spelt global.comma global.semi h.after_second global.tokens h.fields

-- what stands after a delimiter is of one line where the text is, and shorter than it
rest_line : (usual d end : ℕ) (text rest : List ℕ) → TellsDelimiter usual d end text rest → IsOneLine text → IsOneLine rest
rest_line usual d end text rest h one =
    (one_line_end h.after (end ∷ rest) (one_line_end h.spelt (h.after ++ end ∷ rest) (one_line_end h.before (h.spelt ++ (h.after ++ end ∷ rest)) (subst IsOneLine h.is one)))).1

rest_shorter : (usual d end : ℕ) (text rest : List ℕ) → TellsDelimiter usual d end text rest → length rest ≤ length text
rest_shorter usual d end text rest h =
    let whole = ap (length {A = ℕ}) h.is in
    let a = length-append h.before (h.spelt ++ (h.after ++ end ∷ rest)) in
    let b = length-append h.spelt (h.after ++ end ∷ rest) in
    let c = length-append h.after (end ∷ rest) in
    omega (arith, whole, a, b, c)

pub parameters_line : (text : List ℕ) (global : GlobalText) → IsGlobal text global → IsOneLine text → AreOneLine global.tokens
parameters_line text global h one =
    let first = rest_line 44 global.comma global.comma text h.after_first h.first one in
    let second = rest_line 59 global.semi (delimiter global.comma global.semi (is_last global.tokens)) h.after_first h.after_second h.second.1 first in
    fields_line global.comma global.semi h.after_second global.tokens second h.fields

parameters_size : (text : List ℕ) (global : GlobalText) → IsGlobal text global → length text < 2 ^ 64 → spelt_size global.tokens ≤ length text
parameters_size text global h small =
    let first = rest_shorter 44 global.comma global.comma text h.after_first h.first in
    let second = rest_shorter 59 global.semi (delimiter global.comma global.semi (is_last global.tokens)) h.after_first h.after_second h.second.1 in
    let room = fields_size global.comma global.semi h.after_second global.tokens (omega (arith, first, second, small)) h.fields in
    omega (arith, first, second, room)

byte_size : (d : ℕ) → length (spelling_of_token (token.Text (d ∷ []))) ≤ 3
byte_size d =
    let count = length-decimal-le 1 (length (d ∷ [])) (omega arith) (omega arith) (omega arith) in
    let whole = length-append (decimal (length (d ∷ []))) (72 ∷ d ∷ []) in
    omega (arith, count, whole)

-- the delimiters as texts of one byte, and the parameters
pub whole_room : (text : List ℕ) (global : GlobalText) → IsGlobal text global → length text < 2 ^ 64
    → length (laid 72 global.comma global.semi 0 (token.Text (global.comma ∷ []) ∷ token.Text (global.semi ∷ []) ∷ global.tokens)) ≤ 2 * (length text + 8)
unfolding spelt_size
whole_room text global h small =
    let most = laid_size 72 global.comma global.semi 0 (token.Text (global.comma ∷ []) ∷ token.Text (global.semi ∷ []) ∷ global.tokens) in
    let room = parameters_size text global h small in
    omega (arith, most, room, byte_size global.comma, byte_size global.semi)
