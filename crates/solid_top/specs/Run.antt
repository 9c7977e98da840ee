-- solidd's own: how a run ends, what it has then read, and what it has written. Of the bytes left
-- in a source and held by a sink these definitions speak where they are known. `left` and `left'`
-- are those before and after the run, `reads` and `reads'` the counts of failed reads; `held`,
-- `held'`, `writes` and `writes'` the same of the sink.
use Rattle.std.specs.Prelude.{◌≡◌, ℕ, ◌<◌, ◌≤◌, ◌⊎◌, List, [], length, Option}
use Rattle.std.specs.Io.KnownBytes.{Appends, Consumes, IsAtEnd, Keeps}
use Rattle.solid_base.specs.Ledgers.{counted}
use Rattle.solid_io.specs.Causes.{SameKnown}
use Rattle.solid_top.specs.declared.statuses.Status.{Status}
use Rattle.solid_top.specs.declared.statuses.Status.TheVariants as status
use Rattle.solid_top.specs.declared.commands.Command.{Command}
use Rattle.solid_top.specs.declared.commands.Command.TheVariants as command
use Rattle.solid_top.specs.Statuses.{failures_after}
use Rattle.solid_top.specs.Commands.{Names, IsCommand, IsReader, TakesInput, Answers, IsDueAnswer}
use Rattle.solid_top.specs.Commands.{IsLackingOutputOf}
use Rattle.solid_top.specs.Commands.{usage_text, too_long_text}
use Rattle.solid_top.specs.Serve.{IsServed}
use Rattle.solid_top.specs.Streams.{AppendsFront, IsLongRead, IsShortRead, most_bytes}

-- the input was read to its end, at most 2^25 bytes, and these are its bytes
pub record IsInput (left left' : Option (List ℕ)) (bytes : List ℕ) : Type 0 where
  pub read : Consumes left left' bytes
  pub end : IsAtEnd left'
  pub fits : length bytes ≤ most_bytes

-- what a command has of the input: all of it, or nothing, and then nothing was read
abbrev pub IsInputOf : Command → Option (List ℕ) → Option (List ℕ) → List ℕ → Type 0
IsInputOf command.Check left left' bytes = IsInput left left' bytes
IsInputOf command.Replay left left' bytes = IsInput left left' bytes
IsInputOf command.Serve left left' bytes = IsInput left left' bytes
IsInputOf (command.Load n) left left' bytes = Keeps left left' × (bytes ≡ [])

-- the words are a command, this is what it has of the input, and what it answers to that
pub record ComesOf (words : List (List ℕ)) (left left' : Option (List ℕ)) (s : Status)
    (text : List ℕ) : Type 0 where
  pub named : Command
  pub words_are : Names words named
  pub bytes : List ℕ
  pub input : IsInputOf named left left' bytes
  pub answers : Answers named bytes s text

-- the status and the text that a run comes to, before it writes: a usage line where the words are
-- no command, and then nothing is read; TOO LONG where more than 2^25 bytes were read; else what
-- the command answers to the input, or its refusal
abbrev pub Comes : List (List ℕ) → Option (List ℕ) → Option (List ℕ) → Status → List ℕ → Type 0
Comes words left left' status.Done text = ComesOf words left left' status.Done text
Comes words left left' status.Usage text =
    (IsCommand words → ⊥) × Keeps left left' × (text ≡ usage_text)
Comes words left left' status.Refused text = ComesOf words left left' status.Refused text
Comes words left left' status.Memory text = ⊥
Comes words left left' status.ReadFault text = ⊥
Comes words left left' status.WriteFault text = ⊥
Comes words left left' status.TooLong text =
    IsReader words × IsLongRead left left' × (text ≡ too_long_text)

-- a text was written whole, with its status; or a write failed, and a front of it was
abbrev pub Finishes
    : Option (List ℕ) → Option (List ℕ) → ℕ → ℕ → Status → List ℕ → Status → Type 0
Finishes held held' writes writes' s text result =
    ((result ≡ s) × (writes' ≡ writes) × Appends held held' text)
    ⊎ ((result ≡ status.WriteFault) × (writes' ≡ counted writes 1) × AppendsFront held held' text)

-- the whole text of a status was written
abbrev pub Writes
    : List (List ℕ) → Option (List ℕ) → Option (List ℕ) → Option (List ℕ) → Option (List ℕ) → Status
    → Type 0
Writes words left left' held held' s =
    (text : List ℕ) × Comes words left left' s text × Appends held held' text

-- a run stopped at a read or when out of memory: at most 2^25 bytes were read, and nothing was
-- written
abbrev pub Stops
    : List (List ℕ) → Option (List ℕ) → Option (List ℕ) → Option (List ℕ) → Option (List ℕ) → Type 0
Stops words left left' held held' = IsReader words × IsShortRead left left' × Keeps held held'

-- a run was out of memory and had read nothing, and nothing was written
abbrev pub StopsUnread
    : Option (List ℕ) → Option (List ℕ) → Option (List ℕ) → Option (List ℕ) → Type 0
StopsUnread left left' held held' = Keeps left left' × Keeps held held'

-- how a run ends: when out of memory or a read failed nothing is written, and where the words are
-- no command nothing is read; after a failed write a front of the text is written; else the whole
-- text of the status
abbrev pub Ends
    : List (List ℕ) → Option (List ℕ) → Option (List ℕ) → Option (List ℕ) → Option (List ℕ) → Status
    → Type 0
Ends words left left' held held' status.Memory =
    StopsUnread left left' held held' ⊎ Stops words left left' held held'
Ends words left left' held held' status.ReadFault = Stops words left left' held held'
Ends words left left' held held' status.WriteFault =
    (s : Status) × (text : List ℕ) × Comes words left left' s text × AppendsFront held held' text
Ends words left left' held held' status.Done = Writes words left left' held held' status.Done
Ends words left left' held held' status.Usage = Writes words left left' held held' status.Usage
Ends words left left' held held' status.Refused = Writes words left left' held held' status.Refused
Ends words left left' held held' status.TooLong = Writes words left left' held held' status.TooLong

-- a run with these words: how it ends; a read, or a write, failed exactly where the status says so,
-- and none is tried after it; the bytes stay known or unknown
pub record IsRun (words : List (List ℕ)) (left left' : Option (List ℕ)) (reads reads' : ℕ)
    (held held' : Option (List ℕ)) (writes writes' : ℕ) (result : Status) : Type 0 where
  pub ends : Ends words left left' held held' result
  pub reading : reads' ≡ failures_after status.ReadFault reads result
  pub writing : writes' ≡ failures_after status.WriteFault writes result
  pub source : SameKnown left left'
  pub sink : SameKnown held held'

-- ---- an input that is known whole

-- a command doesn't read the bytes, or they are at most 2^25
abbrev pub Fits : Command → List ℕ → Type 0
Fits c bytes = TakesInput c → length bytes ≤ most_bytes

-- the status and the text that are due to an input, where any are: a usage line where the words are
-- no command, TOO LONG where a command reads more than 2^25 bytes, and else what the command
-- answers where there is memory for each line; to `serve` over a file none are
abbrev pub IsDue : List (List ℕ) → List ℕ → Status → List ℕ → Type 0
IsDue words bytes s text =
    ((IsCommand words → ⊥) × (s ≡ status.Usage) × (text ≡ usage_text))
    ⊎ ((IsReader words × (most_bytes < length bytes) × (s ≡ status.TooLong)
    × (text ≡ too_long_text))
    ⊎ ((c : Command) × Names words c × Fits c bytes × IsDueAnswer c bytes s text))

-- the text answers an input for some of whose lines there wasn't memory
abbrev pub IsLacking : List (List ℕ) → List ℕ → List ℕ → Type 0
IsLacking words bytes text =
    (c : Command) × Names words c × Fits c bytes × IsLackingOutputOf c bytes text

-- the status and the text to which a run comes where `s` and `text` are due: these, or Done and a
-- text that says for which lines there wasn't memory
abbrev pub ComesNear
    : List (List ℕ) → List ℕ → Status → List ℕ → Status → List ℕ → Type 0
ComesNear words bytes s text t other =
    ((t ≡ s) × (other ≡ text)) ⊎ ((t ≡ status.Done) × IsLacking words bytes other)

-- how a run ends to which this status and text are due: it comes to them, or to a text that says
-- for which lines there wasn't memory, and the text is written whole, or it ends with WriteFault,
-- and a front of it; or it ends with Memory or ReadFault, and nothing
abbrev pub EndsDue : List (List ℕ) → List ℕ → Option (List ℕ) → Option (List ℕ) → Status → List ℕ
    → Status → Type 0
EndsDue words bytes held held' s text result =
    ((other : List ℕ) × ComesNear words bytes s text result other × Appends held held' other)
    ⊎ (((result ≡ status.WriteFault) × (t : Status) × (other : List ℕ)
    × ComesNear words bytes s text t other × AppendsFront held held' other)
    ⊎ (((result ≡ status.Memory) ⊎ (result ≡ status.ReadFault)) × Keeps held held'))

-- ---- serving

-- how a run of `serve` ends on these bytes: it comes to the output of a lawful outcome of their
-- sessions, or to their refusal, and the text is written whole; or it ends with WriteFault, and a
-- front of such a text; or with Memory or ReadFault, and nothing
abbrev pub EndsServed : List ℕ → Option (List ℕ) → Option (List ℕ) → Status → Type 0
EndsServed bytes held held' result =
    ((text : List ℕ) × IsServed bytes result text × Appends held held' text)
    ⊎ (((result ≡ status.WriteFault) × (s : Status) × (text : List ℕ)
    × IsServed bytes s text × AppendsFront held held' text)
    ⊎ (((result ≡ status.Memory) ⊎ (result ≡ status.ReadFault)) × Keeps held held'))
