-- How the words of a command line are read by `clap`. No contract of a public function names these.
use Rattle.std.specs.Prelude.{◌==◌, ℕ, Bool, true, List, [], ◌∷◌, codes, slice_index}
use Rattle.std.specs.Prelude.{Option, Some, None}
use Rattle.clap.specs.Words.{App, Rule, first_value, new_app, new_rule, with_rule}
use Rattle.clap.specs.declared.builder.action.ArgAction.TheVariants.{Set}
use Rattle.clap.specs.declared.parser.matches.Found.{Found}

-- solidd's own: the word begins with a hyphen, as a flag does
abbrev pub begins_with_hyphen : List ℕ → Bool
begins_with_hyphen word = slice_index word 0 == 45

-- solidd's own: a plain word that may be given
abbrev pub place : List ℕ → Rule
place name = record (new_rule name) { action = Some Set }

abbrev pub unnamed : App
unnamed = record (new_app (codes "solidd")) {
  top = record (new_app (codes "solidd")).top { no_binary_name = true };
}

-- solidd's own: at most two words are taken, a command's name and a number
abbrev pub words_app : App
words_app = with_rule (with_rule unnamed (place (codes "command"))) (place (codes "number"))

-- solidd's own: the words that were given: a command's name, and a number or none
abbrev pub given_words : Option (List ℕ) → Option (List ℕ) → List (List ℕ)
given_words None number = []
given_words (Some name) None = name ∷ []
given_words (Some name) (Some number) = name ∷ number ∷ []

abbrev pub words_given : Found → List (List ℕ)
words_given found =
    given_words (first_value found (codes "command")) (first_value found (codes "number"))
