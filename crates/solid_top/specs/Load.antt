-- What a run of the generated input answers. solidd's own.
use Rattle.std.specs.Prelude.{◌≡◌, ℕ, ◌==◌, Bool, List, ◌++◌, length, codes, decimal, bytes_eq}
use Rattle.std.specs.List.{count_by, starts_with}
use Rattle.script_lines.specs.declared.commands.ScriptLine.{ScriptLine}
use Rattle.edit_core.specs.Versions.{LogEntry}
use Rattle.solid_desk.specs.InOrder.{IsRun, HadMemory}
use Rattle.solid_desk.specs.Outcomes.{Outcome, reply_of}
use Rattle.solid_top.specs.LoadInput.{load_bytes, load_model}
use Rattle.solid_top.specs.Replay.{IsReplay}

-- ---- counts of replies

-- the words for a point that is inside, for one that is outside, and those with which the words
-- begin for one that is neither
abbrev pub inside_words : List ℕ
inside_words = codes "INSIDE"

abbrev pub outside_words : List ℕ
outside_words = codes "OUTSIDE"

abbrev pub undecided_words : List ℕ
undecided_words = codes "UNDECIDED "

-- these are the words of a reply
abbrev pub has_words : List ℕ → Outcome → Bool
has_words words outcome = bytes_eq (reply_of outcome).body words

-- the words of a reply begin with these
abbrev pub begins_with : List ℕ → Outcome → Bool
begins_with words outcome = starts_with ◌==◌ (reply_of outcome).body words

-- ---- the text

-- how many spheres there are, how many replies there are of each kind, and how many commits
unfoldable pub load_text : ℕ → ℕ → ℕ → ℕ → ℕ → List ℕ
load_text n inside outside undecided commits =
    codes "LOAD "
    ++ (decimal n
    ++ (codes " INSIDE "
    ++ (decimal inside
    ++ (codes " OUTSIDE "
    ++ (decimal outside
    ++ (codes " UNDECIDED "
    ++ (decimal undecided ++ (codes " COMMITS " ++ (decimal commits ++ codes "\n")))))))))

-- the text tells of the run of the generated input, for each of whose lines there was memory
pub record IsLoadOutput (n : ℕ) (text : List ℕ) : Type 0 where
  pub lines : List ScriptLine
  pub outcomes : List Outcome
  pub log : List LogEntry
  pub input : IsReplay (load_bytes n) (load_model n) lines
  pub run : IsRun (load_model n) lines outcomes log
  pub memory : HadMemory outcomes
  pub printed : text
      ≡ load_text n (count_by (has_words inside_words) outcomes)
      (count_by (has_words outside_words) outcomes)
      (count_by (begins_with undecided_words) outcomes) (length log)
