-- How a run ends, from how it reads, answers and writes.
use Rattle.std.proofs.Common.{◌≡◌, ◌≢◌, ◌⊎◌, inl, inr, ℕ, ◌<◌, ◌≤◌, true, List, [], ◌∷◌, ◌++◌, length, codes, get_or, Option, None, Some, is_some, ap, sym, subst, refl, ◌∙◌, arith, append-nil, length-append}
use Rattle.std.specs.Io.KnownBytes.{Appends, Consumes, Keeps}
use Rattle.solid_io.specs.Causes.{SameKnown}
use Rattle.solid_base.specs.Digits.{number_of}
use Rattle.solid_top.specs.declared.commands.Command.{Command}
use Rattle.solid_top.specs.declared.commands.Command.TheVariants as command
use Rattle.solid_top.specs.declared.statuses.Status.{Status}
use Rattle.solid_top.specs.declared.statuses.Status.TheVariants as status
use Rattle.solid_top.specs.Commands.{Names, IsCommand, IsReader, IsLawful, TakesInput, Answers, IsDueAnswer, IsLackingOutputOf}
use Rattle.solid_top.specs.Load.{IsLoadOutput}
use Rattle.solid_top.specs.Run.{IsInput, IsInputOf, Fits, Comes, ComesOf, Finishes, Ends, IsRun, IsDue, ComesNear, EndsDue, EndsServed}
use Rattle.solid_top.specs.Serve.{IsServed}
use Rattle.solid_top.specs.Streams.{IsLongRead, IsShortRead, most_bytes}
use Rattle.solid_top.specs.TopFaults.{IsRefusal}
use Rattle.solid_top.proofs.CheckLaws.{checked_once, refusal_once}
use Rattle.solid_top.proofs.LoadOnce.{load_once}
use Rattle.solid_top.proofs.ReplayOnce.{due_replay_once, whole_or_lacking}
use Rattle.solid_top.proofs.ServeLaws.{served_or_refusal}
use Rattle.solid_top.proofs.StatusLaws.{answered_once}

-- a command that the words are may be asked for
pub lawful_named : (words : List (List ℕ)) (c : Command) → Names words c → IsLawful c
lawful_named words command.Check h = tt
lawful_named words command.Replay h = tt
lawful_named words command.Serve h = tt
lawful_named words (command.Load n) (word, is, count) = (count.some, count.most)

-- words that are a command which reads the input are a command
reader_named : (words : List (List ℕ)) → IsReader words → IsCommand words
reader_named words (c, named, takes) = (c, named)

module _ (words : List (List ℕ)) (left left' : Option (List ℕ)) (reads reads' : ℕ)
    (held held' : Option (List ℕ)) (writes writes' : ℕ) (source : SameKnown left left') (sink : SameKnown held held') where
  abbrev EndsAs : Status → Type 0
  EndsAs s = IsRun words left left' reads reads' held held' writes writes' s

  whole : (s : Status) (text : List ℕ) → Comes words left left' s text → reads' ≡ reads → writes' ≡ writes
      → Appends held held' text → EndsAs s
  whole status.Done text c r k w = record { ends = (text, c, w); reading = r; writing = k; source = source; sink = sink }
  whole status.Usage text c r k w = record { ends = (text, c, w); reading = r; writing = k; source = source; sink = sink }
  whole status.Refused text c r k w = record { ends = (text, c, w); reading = r; writing = k; source = source; sink = sink }
  whole status.Memory text c r k w = absurd c
  whole status.ReadFault text c r k w = absurd c
  whole status.WriteFault text c r k w = absurd c
  whole status.TooLong text c r k w = record { ends = (text, c, w); reading = r; writing = k; source = source; sink = sink }

  -- a run that comes to a status and a text ends so, or by a failed write
  pub finished : (s result : Status) (text : List ℕ) → Comes words left left' s text → reads' ≡ reads
      → Finishes held held' writes writes' s text result → EndsAs result
  finished s result text c r f =
      elim f [
        | inl done ↦ (let (same, k, w) = done in subst EndsAs (sym same) (whole s text c r k w))
        | inr failed ↦ (let (same, k, front) = failed in
            subst EndsAs (sym same) (record { ends = (s, text, c, front); reading = r; writing = k; source = source; sink = sink }))
      ]

  -- the answer to an input that was read
  comes_answered : (c : Command) (bytes : List ℕ) (s : Status) (text : List ℕ) → Names words c → IsInputOf c left left' bytes → Answers c bytes s text → Comes words left left' s text
  comes_answered c bytes status.Done text named input h = record { named = c; words_are = named; bytes = bytes; input = input; answers = h }
  comes_answered c bytes status.Refused text named input h = record { named = c; words_are = named; bytes = bytes; input = input; answers = h }
  comes_answered c bytes status.Usage text named input h = absurd h
  comes_answered c bytes status.Memory text named input h = absurd h
  comes_answered c bytes status.ReadFault text named input h = absurd h
  comes_answered c bytes status.WriteFault text named input h = absurd h
  comes_answered c bytes status.TooLong text named input h = absurd h

  -- out of memory over an input that was read, or with none
  lacked : (c : Command) (bytes : List ℕ) → Names words c → IsInputOf c left left' bytes → reads' ≡ reads → writes' ≡ writes → Keeps held held' → EndsAs status.Memory
  lacked command.Check bytes named input r k kept =
      record { ends = inr ((command.Check, named, tt), (bytes, input.fits, input.read), kept); reading = r; writing = k; source = source; sink = sink }
  lacked command.Replay bytes named input r k kept =
      record { ends = inr ((command.Replay, named, tt), (bytes, input.fits, input.read), kept); reading = r; writing = k; source = source; sink = sink }
  lacked command.Serve bytes named input r k kept =
      record { ends = inr ((command.Serve, named, tt), (bytes, input.fits, input.read), kept); reading = r; writing = k; source = source; sink = sink }
  lacked (command.Load n) bytes named input r k kept =
      record { ends = inl (input.0, kept); reading = r; writing = k; source = source; sink = sink }

  -- an input that was read is answered, or out of memory
  pub answered : (c : Command) (bytes : List ℕ) (result : Status) → Names words c → IsInputOf c left left' bytes → reads' ≡ reads
      → ((result ≡ status.Memory) × (writes' ≡ writes) × Keeps held held')
      ⊎ ((s : Status) × (text : List ℕ) × Answers c bytes s text × Finishes held held' writes writes' s text result)
      → EndsAs result
  answered c bytes result named input r h =
      elim h [
        | inl memory ↦ (let (same, k, kept) = memory in subst EndsAs (sym same) (lacked c bytes named input r k kept))
        | inr done ↦ (let (s, text, a, f) = done in finished s result text (comes_answered c bytes s text named input a) r f)
      ]

-- ---- what follows from how a run ends

-- words are one command
abbrev first_word : List (List ℕ) → List ℕ
first_word [] = []
first_word (word ∷ more) = word

abbrev second_word : List (List ℕ) → List ℕ
second_word [] = []
second_word (word ∷ more) = first_word more

check_or_serve : codes "check" ≡ codes "serve" → ⊥
check_or_serve e = let letters : 99 ≡ 115 = ap (λ (t : List ℕ). get_or t 0 0) e in absurd (omega (arith, letters))

pub names_once : (words : List (List ℕ)) (a b : Command) → Names words a → Names words b → a ≡ b
names_once words command.Check command.Check h k = refl
names_once words command.Replay command.Replay h k = refl
names_once words command.Serve command.Serve h k = refl
names_once words command.Check command.Replay h k = absurd (omega (arith, ap (length {A = ℕ}) (ap first_word (sym h ∙ k))))
names_once words command.Replay command.Check h k = absurd (omega (arith, ap (length {A = ℕ}) (ap first_word (sym h ∙ k))))
names_once words command.Replay command.Serve h k = absurd (omega (arith, ap (length {A = ℕ}) (ap first_word (sym h ∙ k))))
names_once words command.Serve command.Replay h k = absurd (omega (arith, ap (length {A = ℕ}) (ap first_word (sym h ∙ k))))
names_once words command.Check command.Serve h k = absurd (check_or_serve (ap first_word (sym h ∙ k)))
names_once words command.Serve command.Check h k = absurd (check_or_serve (ap first_word (sym k ∙ h)))
names_once words command.Check (command.Load n) h (word, k, count) = absurd (omega (arith, ap (length {A = List ℕ}) (sym h ∙ k)))
names_once words command.Replay (command.Load n) h (word, k, count) = absurd (omega (arith, ap (length {A = List ℕ}) (sym h ∙ k)))
names_once words command.Serve (command.Load n) h (word, k, count) = absurd (omega (arith, ap (length {A = List ℕ}) (sym h ∙ k)))
names_once words (command.Load n) command.Serve (word, h, count) k = absurd (omega (arith, ap (length {A = List ℕ}) (sym h ∙ k)))
names_once words (command.Load n) command.Check (word, h, count) k = absurd (omega (arith, ap (length {A = List ℕ}) (sym h ∙ k)))
names_once words (command.Load n) command.Replay (word, h, count) k = absurd (omega (arith, ap (length {A = List ℕ}) (sym h ∙ k)))
names_once words (command.Load m) (command.Load n) (word, h, count) (other, k, also) =
    let same : word ≡ other = ap second_word (sym h ∙ k) in
    ap command.Load (sym count.value ∙ ap number_of same ∙ also.value)

-- to a command and bytes one status and one text are due
answer_once : (c : Command) (bytes : List ℕ) (s t : Status) (a b : List ℕ) → IsDueAnswer c bytes s a → IsDueAnswer c bytes t b → (s ≡ t) × (a ≡ b)
answer_once command.Check bytes = checked_once bytes
answer_once command.Replay bytes = due_replay_once bytes
answer_once command.Serve bytes = answered_once (λ text. ⊥) (IsRefusal bytes) (λ a b h k. absurd h) (refusal_once bytes) (λ a b h k. h)
answer_once (command.Load n) bytes = answered_once (IsLoadOutput n) (λ text. ⊥) (load_once n) (λ a b h k. absurd h) (λ a b h k. k)

-- to a file that is refused `serve` answers its refusal
serve_refused : (bytes : List ℕ) (t : Status) (text other : List ℕ) → IsRefusal bytes text → IsServed bytes t other → (t ≡ status.Refused) × (other ≡ text)
serve_refused bytes status.Done text other h k = absurd (served_or_refusal bytes other text k h)
serve_refused bytes status.Refused text other h k = (refl, refusal_once bytes other text k h)
serve_refused bytes status.Usage text other h k = absurd k
serve_refused bytes status.Memory text other h k = absurd k
serve_refused bytes status.ReadFault text other h k = absurd k
serve_refused bytes status.WriteFault text other h k = absurd k
serve_refused bytes status.TooLong text other h k = absurd k

-- what a command answers is what is due, or says for which lines there wasn't memory
abbrev IsNear : Command → List ℕ → Status → Status → List ℕ → List ℕ → Type 0
IsNear c bytes s t text other = ((t ≡ s) × (other ≡ text)) ⊎ ((t ≡ status.Done) × IsLackingOutputOf c bytes other)

replay_near : (bytes : List ℕ) (s t : Status) (text other : List ℕ) → IsDueAnswer command.Replay bytes s text → Answers command.Replay bytes t other → IsNear command.Replay bytes s t text other
replay_near bytes s status.Done text other h k = elim (whole_or_lacking bytes other k) [ inl whole ↦ inl (due_replay_once bytes status.Done s other text whole h) | inr lacking ↦ inr (refl, lacking) ]
replay_near bytes s status.Refused text other h k = inl (due_replay_once bytes status.Refused s other text k h)
replay_near bytes s status.Usage text other h k = absurd k
replay_near bytes s status.Memory text other h k = absurd k
replay_near bytes s status.ReadFault text other h k = absurd k
replay_near bytes s status.WriteFault text other h k = absurd k
replay_near bytes s status.TooLong text other h k = absurd k

serve_near : (bytes : List ℕ) (s t : Status) (text other : List ℕ) → IsDueAnswer command.Serve bytes s text → Answers command.Serve bytes t other → IsNear command.Serve bytes s t text other
serve_near bytes status.Refused t text other h k = inl (serve_refused bytes t text other h k)
serve_near bytes status.Done t text other h k = absurd h
serve_near bytes status.Usage t text other h k = absurd h
serve_near bytes status.Memory t text other h k = absurd h
serve_near bytes status.ReadFault t text other h k = absurd h
serve_near bytes status.WriteFault t text other h k = absurd h
serve_near bytes status.TooLong t text other h k = absurd h

answer_near : (c : Command) (bytes : List ℕ) (s t : Status) (text other : List ℕ) → IsDueAnswer c bytes s text → Answers c bytes t other → IsNear c bytes s t text other
answer_near command.Check bytes s t text other h k = inl (answer_once command.Check bytes t s other text k h)
answer_near (command.Load n) bytes s t text other h k = inl (answer_once (command.Load n) bytes t s other text k h)
answer_near command.Replay bytes s t text other h k = replay_near bytes s t text other h k
answer_near command.Serve bytes s t text other h k = serve_near bytes s t text other h k

-- more bytes than may be don't fit a command that reads them
too_many : (words : List (List ℕ)) (bytes : List ℕ) (c : Command) → IsReader words → most_bytes < length bytes → Names words c → Fits c bytes → ⊥
too_many words bytes c (d, named, takes) more also fits =
    let few = fits (subst TakesInput (names_once words d c named also) takes) in
    omega (arith, more, few)

-- one status and one text are due to words and bytes
pub due_once : (words : List (List ℕ)) (bytes : List ℕ) (s t : Status) (a b : List ℕ) → IsDue words bytes s a → IsDue words bytes t b → (s ≡ t) × (a ≡ b)
due_once words bytes s t a b (inl (none, h, x)) (inl (none', k, y)) = (h ∙ sym k, x ∙ sym y)
due_once words bytes s t a b (inl (none, h, x)) (inr (inl (is, more, k, y))) = absurd (none (reader_named words is))
due_once words bytes s t a b (inl (none, h, x)) (inr (inr (c, named, fits, k))) = absurd (none (c, named))
due_once words bytes s t a b (inr (inl (is, more, h, x))) (inl (none, k, y)) = absurd (none (reader_named words is))
due_once words bytes s t a b (inr (inl (is, more, h, x))) (inr (inl (is', more', k, y))) = (h ∙ sym k, x ∙ sym y)
due_once words bytes s t a b (inr (inl (is, more, h, x))) (inr (inr (c, named, fits, k))) = absurd (too_many words bytes c is more named fits)
due_once words bytes s t a b (inr (inr (c, named, fits, h))) (inl (none, k, y)) = absurd (none (c, named))
due_once words bytes s t a b (inr (inr (c, named, fits, h))) (inr (inl (is, more, k, y))) = absurd (too_many words bytes c is more named fits)
due_once words bytes s t a b (inr (inr (c, named, fits, h))) (inr (inr (d, named', fits', k))) =
    answer_once c bytes s t a b h (subst (λ (x : Command). IsDueAnswer x bytes t b) (names_once words d c named' named) k)

-- what a command answers to an input that fits is what is due to the words, or says for which lines there wasn't memory
answered_near : (words : List (List ℕ)) (bytes : List ℕ) (c : Command) (s t : Status) (text other : List ℕ) → Names words c → Fits c bytes → Answers c bytes t other → IsDue words bytes s text
    → ComesNear words bytes s text t other
answered_near words bytes c s t text other named fits h (inl (none, k, y)) = absurd (none (c, named))
answered_near words bytes c s t text other named fits h (inr (inl (is, more, k, y))) = absurd (too_many words bytes c is more named fits)
answered_near words bytes c s t text other named fits h (inr (inr (d, named', fits', k))) =
    elim (answer_near c bytes s t text other (subst (λ (x : Command). IsDueAnswer x bytes s text) (names_once words d c named' named) k) h) [
      | inl same ↦ inl same
      | inr lacking ↦ inr (lacking.0, (c, named, fits, lacking.1))
    ]

-- an input that is known whole is what was read
input_whole : (a b : Option (List ℕ)) (bytes read : List ℕ) → a ≡ Some bytes → IsInput a b read → read ≡ bytes
input_whole None b bytes read e h = cc
input_whole (Some x) None bytes read e h = absurd h.read
input_whole (Some x) (Some y) bytes read e h =
    let same : x ≡ bytes = cc in
    let end : y ≡ [] = h.end in
    sym (sym same ∙ h.read ∙ ap (λ t. read ++ t) end ∙ append-nil read)

-- no more is read than there is
read_within : (a b : Option (List ℕ)) (bytes read : List ℕ) → a ≡ Some bytes → Consumes a b read → length read ≤ length bytes
read_within None b bytes read e h = cc
read_within (Some x) None bytes read e h = absurd h
read_within (Some x) (Some y) bytes read e h =
    let same : bytes ≡ read ++ y = cc in
    omega (arith, ap (length {A = ℕ}) same, length-append read y)

-- where bytes are known it is known how many were read
read_once : (a b : Option (List ℕ)) (m n : List ℕ) → is_some a ≡ true → Consumes a b m → Consumes a b n → length m ≡ length n
read_once None b m n e h k = cc
read_once (Some x) None m n e h k = absurd h
read_once (Some x) (Some y) m n e h k =
    omega (arith, ap (length {A = ℕ}) h, ap (length {A = ℕ}) k, length-append m y, length-append n y)

none_read : (a b : Option (List ℕ)) → is_some a ≡ true → Keeps a b → Consumes a b []
none_read None b e h = tt
none_read (Some x) None e h = absurd h
none_read (Some x) (Some y) e h = sym h

-- nothing was read for a command that reads no input
kept_without : (c : Command) (left left' : Option (List ℕ)) (bytes : List ℕ) → IsInputOf c left left' bytes → (TakesInput c → ⊥) → Keeps left left'
kept_without command.Check left left' bytes input none = absurd (none tt)
kept_without command.Replay left left' bytes input none = absurd (none tt)
kept_without command.Serve left left' bytes input none = absurd (none tt)
kept_without (command.Load n) left left' bytes input none = input.0

-- no more than may be was read for a command
few_read : (c : Command) (left left' : Option (List ℕ)) (bytes : List ℕ) → is_some left ≡ true → IsInputOf c left left' bytes → IsShortRead left left'
few_read command.Check left left' bytes known input = (bytes, input.fits, input.read)
few_read command.Replay left left' bytes known input = (bytes, input.fits, input.read)
few_read command.Serve left left' bytes known input = (bytes, input.fits, input.read)
few_read (command.Load n) left left' bytes known input = ([], omega arith, none_read left left' known input.0)

-- what a command answers to what it has of an input that is known whole, it answers to that
answers_whole : (c : Command) (left left' : Option (List ℕ)) (bytes read : List ℕ) (s : Status) (text : List ℕ) → left ≡ Some bytes → IsInputOf c left left' read → Answers c read s text
    → Fits c bytes × Answers c bytes s text
answers_whole command.Check left left' bytes read s text known input h =
    let same : read ≡ bytes = input_whole left left' bytes read known input in
    (λ takes. subst (λ (b : List ℕ). length b ≤ most_bytes) same input.fits, subst (λ (b : List ℕ). Answers command.Check b s text) same h)
answers_whole command.Replay left left' bytes read s text known input h =
    let same : read ≡ bytes = input_whole left left' bytes read known input in
    (λ takes. subst (λ (b : List ℕ). length b ≤ most_bytes) same input.fits, subst (λ (b : List ℕ). Answers command.Replay b s text) same h)
answers_whole command.Serve left left' bytes read s text known input h =
    let same : read ≡ bytes = input_whole left left' bytes read known input in
    (λ takes. subst (λ (b : List ℕ). length b ≤ most_bytes) same input.fits, subst (λ (b : List ℕ). Answers command.Serve b s text) same h)
answers_whole (command.Load n) left left' bytes read s text known input h = (λ takes. absurd takes, h)

module _ (words : List (List ℕ)) (left left' held held' : Option (List ℕ)) where
  abbrev EndsWith : Status → Type 0
  EndsWith s = Ends words left left' held held' s

  -- a usage line exactly where the words are no command, unless a write failed or it was out of memory
  pub usage_only : (result : Status) → EndsWith result → result ≡ status.Usage → IsCommand words → ⊥
  usage_only status.Usage e same = e.1.0
  usage_only status.Done e same = cc
  usage_only status.Refused e same = cc
  usage_only status.Memory e same = cc
  usage_only status.ReadFault e same = cc
  usage_only status.WriteFault e same = cc
  usage_only status.TooLong e same = cc

  pub usage_else : (result : Status) → EndsWith result → result ≢ status.WriteFault → result ≢ status.Memory → (IsCommand words → ⊥) → result ≡ status.Usage
  usage_else status.Usage e ok more none = refl
  usage_else status.Done e ok more none = absurd (none (e.1.named, e.1.words_are))
  usage_else status.Refused e ok more none = absurd (none (e.1.named, e.1.words_are))
  usage_else status.Memory e ok more none = absurd (more refl)
  usage_else status.ReadFault e ok more none = absurd (none (reader_named words e.0))
  usage_else status.WriteFault e ok more none = absurd (ok refl)
  usage_else status.TooLong e ok more none = absurd (none (reader_named words e.1.0))

  unread_case : (s : Status) (text : List ℕ) → Comes words left left' s text → (IsReader words → ⊥) → Keeps left left'
  unread_case status.Usage text c none = c.1
  unread_case status.Done text c none = kept_without c.named left left' c.bytes c.input (λ takes. none (c.named, c.words_are, takes))
  unread_case status.Refused text c none = kept_without c.named left left' c.bytes c.input (λ takes. none (c.named, c.words_are, takes))
  unread_case status.Memory text c none = absurd c
  unread_case status.ReadFault text c none = absurd c
  unread_case status.WriteFault text c none = absurd c
  unread_case status.TooLong text c none = absurd (none c.0)

  -- nothing is read where the words are no command that reads the input
  pub unread : (result : Status) → EndsWith result → (IsReader words → ⊥) → Keeps left left'
  unread status.Usage e none = unread_case status.Usage e.0 e.1 none
  unread status.Done e none = unread_case status.Done e.0 e.1 none
  unread status.Refused e none = unread_case status.Refused e.0 e.1 none
  unread status.Memory (inl e) none = e.0
  unread status.Memory (inr e) none = absurd (none e.0)
  unread status.ReadFault e none = absurd (none e.0)
  unread status.WriteFault e none = let (s, text, c, front) = e in unread_case s text c none
  unread status.TooLong e none = absurd (none e.1.0)

  -- when out of memory, or where a read failed, nothing is written
  pub unwritten : (result : Status) → EndsWith result → (result ≡ status.Memory) ⊎ (result ≡ status.ReadFault) → Keeps held held'
  unwritten status.Memory (inl e) h = e.1
  unwritten status.Memory (inr e) h = e.2
  unwritten status.ReadFault e h = e.2
  unwritten status.Done e (inl h) = cc
  unwritten status.Done e (inr h) = cc
  unwritten status.Usage e (inl h) = cc
  unwritten status.Usage e (inr h) = cc
  unwritten status.Refused e (inl h) = cc
  unwritten status.Refused e (inr h) = cc
  unwritten status.WriteFault e (inl h) = cc
  unwritten status.WriteFault e (inr h) = cc
  unwritten status.TooLong e (inl h) = cc
  unwritten status.TooLong e (inr h) = cc

  -- too long exactly where more bytes were read than may be
  pub long_only : (result : Status) → EndsWith result → result ≡ status.TooLong → IsLongRead left left'
  long_only status.TooLong e same = e.1.1
  long_only status.Done e same = cc
  long_only status.Usage e same = cc
  long_only status.Refused e same = cc
  long_only status.Memory e same = cc
  long_only status.ReadFault e same = cc
  long_only status.WriteFault e same = cc

  not_both : is_some left ≡ true → IsShortRead left left' → IsLongRead left left' → ⊥
  not_both known (a, few, h) (b, more, k) = omega (arith, few, more, read_once left left' a b known h k)

  short_input : is_some left ≡ true → (s : Status) (text : List ℕ) → ComesOf words left left' s text → IsShortRead left left'
  short_input known s text c = few_read c.named left left' c.bytes known c.input

  pub long_else : (result : Status) → EndsWith result → is_some left ≡ true → result ≢ status.WriteFault → IsLongRead left left' → result ≡ status.TooLong
  long_else status.TooLong e known ok long = refl
  long_else status.Done e known ok long = absurd (not_both known (short_input known status.Done e.0 e.1) long)
  long_else status.Refused e known ok long = absurd (not_both known (short_input known status.Refused e.0 e.1) long)
  long_else status.Usage e known ok long = absurd (not_both known ([], omega arith, none_read left left' known e.1.1) long)
  long_else status.Memory (inl e) known ok long = absurd (not_both known ([], omega arith, none_read left left' known e.0) long)
  long_else status.Memory (inr e) known ok long = absurd (not_both known e.1 long)
  long_else status.ReadFault e known ok long = absurd (not_both known e.1 long)
  long_else status.WriteFault e known ok long = absurd (ok refl)

  module _ (bytes : List ℕ) (known : left ≡ Some bytes) where
    near_answered : (s t : Status) (text other : List ℕ) → ComesOf words left left' t other → IsDue words bytes s text → ComesNear words bytes s text t other
    near_answered s t text other c due =
        let (fits, answers) = answers_whole c.named left left' bytes c.bytes t other known c.input c.answers in
        answered_near words bytes c.named s t text other c.words_are fits answers due

    -- what a run comes to is what is due, or says for which lines there wasn't memory
    comes_near : (s t : Status) (text other : List ℕ) → Comes words left left' t other → IsDue words bytes s text → ComesNear words bytes s text t other
    comes_near s status.Done text other c due = near_answered s status.Done text other c due
    comes_near s status.Refused text other c due = near_answered s status.Refused text other c due
    comes_near s status.Usage text other c due = inl (due_once words bytes status.Usage s other text (inl (c.0, refl, c.2)) due)
    comes_near s status.Memory text other c due = absurd c
    comes_near s status.ReadFault text other c due = absurd c
    comes_near s status.WriteFault text other c due = absurd c
    comes_near s status.TooLong text other c due =
        let (read, more, h) = c.1 in
        inl (due_once words bytes status.TooLong s other text (inr (inl (c.0, omega (arith, more, read_within left left' bytes read known h), refl, c.2))) due)

    -- a run ends with what is due, with what says for which lines there wasn't memory, or by a fault
    pub ends_due : (result s : Status) (text : List ℕ) → EndsWith result → IsDue words bytes s text → EndsDue words bytes held held' s text result
    ends_due status.Memory s text (inl e) due = inr (inr (inl refl, e.1))
    ends_due status.Memory s text (inr e) due = inr (inr (inl refl, e.2))
    ends_due status.ReadFault s text e due = inr (inr (inr refl, e.2))
    ends_due status.WriteFault s text e due = (let (t, other, c, front) = e in inr (inl (refl, t, other, comes_near s t text other c due, front)))
    ends_due status.Done s text e due = inl (e.0, comes_near s status.Done text e.0 e.1 due, e.2)
    ends_due status.Usage s text e due = inl (e.0, comes_near s status.Usage text e.0 e.1 due, e.2)
    ends_due status.Refused s text e due = inl (e.0, comes_near s status.Refused text e.0 e.1 due, e.2)
    ends_due status.TooLong s text e due = inl (e.0, comes_near s status.TooLong text e.0 e.1 due, e.2)

    -- ---- a run of `serve`

    module _ (named : Names words command.Serve) (few : length bytes ≤ most_bytes) where
      served_answer : (t : Status) (text : List ℕ) → ComesOf words left left' t text → IsServed bytes t text
      served_answer t text c =
          let (fits, answers) = answers_whole c.named left left' bytes c.bytes t text known c.input c.answers in
          subst (λ (x : Command). Answers x bytes t text) (names_once words c.named command.Serve c.words_are named) answers

      not_long : IsLongRead left left' → ⊥
      not_long (read, more, h) = omega (arith, few, more, read_within left left' bytes read known h)

      comes_served : (t : Status) (text : List ℕ) → Comes words left left' t text → IsServed bytes t text
      comes_served status.Done text c = served_answer status.Done text c
      comes_served status.Refused text c = served_answer status.Refused text c
      comes_served status.Usage text c = absurd (c.0 (command.Serve, named))
      comes_served status.Memory text c = absurd c
      comes_served status.ReadFault text c = absurd c
      comes_served status.WriteFault text c = absurd c
      comes_served status.TooLong text c = absurd (not_long c.1)

      -- it ends with a lawful outcome of the sessions or the refusal of the file, or by a fault
      pub ends_served : (result : Status) → EndsWith result → EndsServed bytes held held' result
      ends_served status.Memory (inl e) = inr (inr (inl refl, e.1))
      ends_served status.Memory (inr e) = inr (inr (inl refl, e.2))
      ends_served status.ReadFault e = inr (inr (inr refl, e.2))
      ends_served status.WriteFault e = (let (t, text, c, front) = e in inr (inl (refl, t, text, comes_served t text c, front)))
      ends_served status.Done e = inl (e.0, comes_served status.Done e.0 e.1, e.2)
      ends_served status.Usage e = inl (e.0, comes_served status.Usage e.0 e.1, e.2)
      ends_served status.Refused e = inl (e.0, comes_served status.Refused e.0 e.1, e.2)
      ends_served status.TooLong e = inl (e.0, comes_served status.TooLong e.0 e.1, e.2)
