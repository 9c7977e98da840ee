-- solidd's own: the words that are a command, and what a command answers to bytes.
use Rattle.std.specs.Prelude.{◌≡◌, ◌≤◌, ℕ, List, [], ◌∷◌, codes, length, ⊤}
use Rattle.solid_base.specs.Digits.{AreDigits, number_of}
use Rattle.solid_top.specs.declared.commands.Command.{Command}
use Rattle.solid_top.specs.declared.commands.Command.TheVariants as command
use Rattle.solid_top.specs.declared.statuses.Status.{Status}
use Rattle.solid_top.specs.Checks.{IsCheckOutput}
use Rattle.solid_top.specs.Load.{IsLoadOutput}
use Rattle.solid_top.specs.Replay.{IsReplayOutput, IsWholeReplay, IsLackingReplay}
use Rattle.solid_top.specs.Serve.{IsServeOutput}
use Rattle.solid_top.specs.Statuses.{IsDoneOrRefused}
use Rattle.solid_top.specs.TopFaults.{IsRefusal}

-- the word is a number of spheres, from 1 to 1,000, in at most four digits
pub record IsSphereCount (word : List ℕ) (n : ℕ) : Type 0 where
  pub digits : AreDigits word
  pub four : length word ≤ 4
  pub value : number_of word ≡ n
  pub some : 1 ≤ n
  pub most : n ≤ 1000

-- the words are this command: its one word, or `load` and a number of spheres
abbrev pub Names : List (List ℕ) → Command → Type 0
Names words command.Check = words ≡ codes "check" ∷ []
Names words command.Replay = words ≡ codes "replay" ∷ []
Names words command.Serve = words ≡ codes "serve" ∷ []
Names words (command.Load n) =
    (word : List ℕ) × (words ≡ codes "load" ∷ word ∷ []) × IsSphereCount word n

-- the words are a command
abbrev pub IsCommand : List (List ℕ) → Type 0
IsCommand words = (c : Command) × Names words c

-- a command with a number of spheres that may be asked for
abbrev pub IsLawful : Command → Type 0
IsLawful command.Check = ⊤
IsLawful command.Replay = ⊤
IsLawful command.Serve = ⊤
IsLawful (command.Load n) = (1 ≤ n) × (n ≤ 1000)

-- a command that reads the input
abbrev pub TakesInput : Command → Type 0
TakesInput command.Check = ⊤
TakesInput command.Replay = ⊤
TakesInput command.Serve = ⊤
TakesInput (command.Load n) = ⊥

-- the words are a command that reads the input
abbrev pub IsReader : List (List ℕ) → Type 0
IsReader words = (c : Command) × Names words c × TakesInput c

-- the text that a command prints for bytes that it answers; `load` answers none
abbrev pub IsOutputOf : Command → List ℕ → List ℕ → Type 0
IsOutputOf command.Check bytes text = IsCheckOutput bytes text
IsOutputOf command.Replay bytes text = IsReplayOutput bytes text
IsOutputOf command.Serve bytes text = IsServeOutput bytes text
IsOutputOf (command.Load n) bytes text = IsLoadOutput n text

-- the text that a command prints for bytes that it refuses
abbrev pub IsRefusalOf : Command → List ℕ → List ℕ → Type 0
IsRefusalOf command.Check bytes text = IsRefusal bytes text
IsRefusalOf command.Replay bytes text = IsRefusal bytes text
IsRefusalOf command.Serve bytes text = IsRefusal bytes text
IsRefusalOf (command.Load n) bytes text = ⊥

-- the status and the text that a command answers to bytes
abbrev pub Answers : Command → List ℕ → Status → List ℕ → Type 0
Answers c bytes s text = IsDoneOrRefused (IsOutputOf c bytes) (IsRefusalOf c bytes) s text

-- ---- where there is memory for each line, and where there isn't

-- the text that is due to bytes that a command answers: that for whose lines there was memory. To
-- `serve` no single text is due, since the order in which sessions take turns is free
abbrev pub IsDueOutputOf : Command → List ℕ → List ℕ → Type 0
IsDueOutputOf command.Check bytes text = IsCheckOutput bytes text
IsDueOutputOf command.Replay bytes text = IsWholeReplay bytes text
IsDueOutputOf command.Serve bytes text = ⊥
IsDueOutputOf (command.Load n) bytes text = IsLoadOutput n text

-- the status and the text that are due to bytes: to each command one of each at most
abbrev pub IsDueAnswer : Command → List ℕ → Status → List ℕ → Type 0
IsDueAnswer c bytes s text = IsDoneOrRefused (IsDueOutputOf c bytes) (IsRefusalOf c bytes) s text

-- a text that a command prints where there wasn't memory for some line, in place of the one that is
-- due. A check has no lines, `load` prints nothing then, and to `serve` no text is due
abbrev pub IsLackingOutputOf : Command → List ℕ → List ℕ → Type 0
IsLackingOutputOf command.Check bytes text = ⊥
IsLackingOutputOf command.Replay bytes text = IsLackingReplay bytes text
IsLackingOutputOf command.Serve bytes text = ⊥
IsLackingOutputOf (command.Load n) bytes text = ⊥

-- ---- other texts

-- what is printed where they are no command
abbrev pub usage_text : List ℕ
usage_text = codes "USAGE: solidd check, replay, serve or load N\n"

-- what is printed where the input is too long
abbrev pub too_long_text : List ℕ
too_long_text = codes "TOO LONG\n"
