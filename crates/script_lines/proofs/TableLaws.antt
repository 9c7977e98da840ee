-- The words after a command's name are read by its table: all obey it, or the first that doesn't
-- is the fault.
use Rattle.std.proofs.Common.{◌≡◌, ℕ, List, [], ◌∷◌, ◌++◌, Bool, Option, Some, None, Result, Ok, Err, ℤ, refl, sym, ap, ◌∙◌, true≢false}
use Rattle.script_lines.specs.declared.faults.LineFault.{LineFault}
use Rattle.script_lines.specs.declared.faults.LineFault.TheVariants as fault
use Rattle.script_lines.specs.declared.tables.Rule.{Rule}
use Rattle.script_lines.specs.Tables.{Fits}
use Rattle.script_lines.specs.Words.{Word, end_of}
use Rattle.script_lines.specs.Grammar.{Fit, Breaks}
use Rattle.script_lines.specs.Reading.{Left, taken, next_word, number_by, numbers_from}
use Rattle.script_lines.proofs.FittingLaws.{is_there}
use Rattle.script_lines.proofs.RulesFit.{number_sound}
use Rattle.script_lines.proofs.RulesRead.{number_complete}

-- the rules, and what came of them
pub record AllFit (rules : List Rule) (before : List ℤ) (line : List ℕ) (words : List Word) (numbers : List ℤ) (left : Left) : Type 0 where
  pub fitting : List Word
  pub rest : List Word
  pub split : words ≡ fitting ++ rest
  pub fit : Fit rules before fitting numbers
  pub is : left ≡ record { line = line; words = rest }

pub record OneBreaks (rules : List Rule) (before : List ℤ) (line : List ℕ) (words : List Word) (f : LineFault) : Type 0 where
  pub obeyed : List Rule
  pub other : Rule
  pub others : List Rule
  pub fitting : List Word
  pub rest : List Word
  pub numbers : List ℤ
  pub column : ℕ
  pub rules_split : rules ≡ obeyed ++ other ∷ others
  pub split : words ≡ fitting ++ rest
  pub fit : Fit obeyed before fitting numbers
  pub breaks : (record_follows : Bool) → Breaks record_follows (other ∷ others) numbers rest (end_of line) column
  pub is : f ≡ fault.BadLine column

abbrev pub Read : List Rule → List ℤ → List ℕ → List Word → Result (List ℤ × Left) LineFault → Type 0
Read rules before line words (Ok x) = AllFit rules before line words x.0 x.1
Read rules before line words (Err f) = OneBreaks rules before line words f

one_more : (r : Rule) (rules : List Rule) (before : List ℤ) (line : List ℕ) (w : Word) (words : List Word) (v : ℤ) → Fits r before w.text v
    → (result : Result (List ℤ × Left) LineFault) → Read rules (before ++ v ∷ []) line words result → Read (r ∷ rules) before line (w ∷ words) result
one_more r rules before line w words v h (Ok x) read = record {
  fitting = w ∷ read.fitting;
  rest = read.rest;
  split = ap (λ (l : List Word). w ∷ l) read.split;
  fit = (v, h, read.fit);
  is = read.is;
}
one_more r rules before line w words v h (Err f) read = record {
  obeyed = r ∷ read.obeyed;
  other = read.other;
  others = read.others;
  fitting = w ∷ read.fitting;
  rest = read.rest;
  numbers = read.numbers;
  column = read.column;
  rules_split = ap (λ (l : List Rule). r ∷ l) read.rules_split;
  split = ap (λ (l : List Word). w ∷ l) read.split;
  fit = (v, h, read.fit);
  breaks = read.breaks;
  is = read.is;
}

pub numbers_read : (rules : List Rule) (before : List ℤ) (line : List ℕ) (words : List Word) → Read rules before line words (numbers_from rules before (record { line = line; words = words }))
unfolding numbers_from taken next_word
numbers_read [] before line words = record { fitting = []; rest = words; split = refl; fit = refl; is = refl }
numbers_read (r ∷ rules) before line [] = record {
  obeyed = [];
  other = r;
  others = rules;
  fitting = [];
  rest = [];
  numbers = before;
  column = end_of line;
  rules_split = refl;
  split = refl;
  fit = refl;
  breaks = λ record_follows. refl;
  is = refl;
}
numbers_read (r ∷ rules) before line (w ∷ words) = go (number_by r before w.text) refl (λ v. numbers_read rules (before ++ v ∷ []) line words)
  where
    go : (o : Option ℤ) → number_by r before w.text ≡ o
        → ((v : ℤ) → Read rules (before ++ v ∷ []) line words (numbers_from rules (before ++ v ∷ []) (record { line = line; words = words })))
        → Read (r ∷ rules) before line (w ∷ words) (numbers_from (r ∷ rules) before (record { line = line; words = w ∷ words }))
    go None e more = rw e (record {
      obeyed = [];
      other = r;
      others = rules;
      fitting = [];
      rest = w ∷ words;
      numbers = before;
      column = w.column;
      rules_split = refl;
      split = refl;
      fit = refl;
      breaks = λ record_follows. ((λ v h. true≢false (ap is_there (sym (number_complete r before w.text v h) ∙ e))), refl);
      is = refl;
    })
    go (Some v) e more = rw e (one_more r rules before line w words v (number_sound r before w.text v e) _ (more v))
