-- What a line came to is known by its reply.
use Rattle.std.proofs.Common.{◌≡◌, ◌≢◌, ◌⊎◌, inl, inr, ℕ, suc, ◌≤◌, Bool, List, [], ◌∷◌, ◌++◌, length, map, drop, codes, decimal, get_or, Option, Some, None, refl, sym, ap, subst, ◌∙◌, arith}
use Rattle.std.proofs.lemmas.Fmt.{decimal_injective}
use Rattle.solid_base.specs.declared.entities.Model.{Model}
use Rattle.solid_base.specs.declared.replies.Reply.{Reply}
use Rattle.solid_questions.specs.declared.questions.Question.{Question}
use Rattle.script_lines.specs.declared.commands.Command.{Command}
use Rattle.script_lines.specs.declared.commands.Command.TheVariants as command
use Rattle.script_lines.specs.declared.faults.LineFault.{LineFault}
use Rattle.edit_core.specs.declared.changes.Change.TheVariants as change
use Rattle.edit_core.specs.declared.faults.EditFault.{EditFault}
use Rattle.edit_core.specs.Batches.{stage}
use Rattle.edit_core.specs.Edits.{IsRefused}
use Rattle.edit_core.specs.Versions.{LogEntry, IsLawfulLog}
use Rattle.edit_core.proofs.Logs.{version_unique, few_versions}
use Rattle.edit_core.proofs.OneVersion.{fault_unique}
use Rattle.solid_desk.specs.Outcomes.{Outcome, bad_line, staged, committed, refused, answered, cancelled, no_memory, with_version, without_version, reply_of}
use Rattle.solid_desk.specs.Sessions.{Standing, at_start, standing_after}
use Rattle.solid_desk.specs.Legal.{IsRefusedCommit, IsAsked, IsEdit, IsOutcome, IsSession, AreSessions, IsLegal}
use Rattle.solid_desk.proofs.AnswersApart.{no_cancelled}

-- ---- replies

version_same : (v w : ℕ) → ◌≡◌ {A = Option ℕ} (Some v) (Some w) → v ≡ w
version_same v w h = cc

version_none : (v : ℕ) → ◌≡◌ {A = Option ℕ} (Some v) None → ⊥
version_none v h = cc

pub same_version : (v w : ℕ) (body text : List ℕ) → with_version v body ≡ with_version w text → v ≡ w
same_version v w body text h = version_same v w (ap (λ (r : Reply). r.version) h)

pub same_body : (a b : Reply) → a ≡ b → a.body ≡ b.body
same_body a b h = ap (λ (r : Reply). r.body) h

pub one_has_none : (v : ℕ) (body text : List ℕ) → with_version v body ≡ without_version text → ⊥
one_has_none v body text h = version_none v (ap (λ (r : Reply). r.version) h)

first_byte_same : (body text : List ℕ) → body ≡ text → get_or body 0 0 ≡ get_or text 0 0
first_byte_same body text h = ap (λ (t : List ℕ). get_or t 0 0) h

-- ---- questions

same_answer : (v w : ℕ) (body text : List ℕ) → v ≡ w → body ≡ text → answered v body ≡ answered w text
same_answer v w body text p q = cc

same_cancelled : (v w l m : ℕ) → v ≡ w → l ≡ m → cancelled v l ≡ cancelled w m
same_cancelled v w l m p q = cc

module _ (opening : Model) (log : List LogEntry) (few : length log ≤ 10000) where
  asked_same : (at : Standing) (q : Question) (live : Bool) (a b : Outcome) → IsAsked opening log at q live a → IsAsked opening log at q live b → reply_of a ≡ reply_of b → a ≡ b
  asked_same at q live (bad_line f) b h k same = absurd h
  asked_same at q live (staged count) b h k same = absurd h
  asked_same at q live (committed v) b h k same = absurd h
  asked_same at q live (refused v f) b h k same = absurd h
  asked_same at q live (answered v body) (bad_line f) h k same = absurd k
  asked_same at q live (answered v body) (staged count) h k same = absurd k
  asked_same at q live (answered v body) (committed w) h k same = absurd k
  asked_same at q live (answered v body) (refused w f) h k same = absurd k
  asked_same at q live (answered v body) (answered w text) h k same =
      same_answer v w body text (same_version v w body text same) (same_body (with_version v body) (with_version w text) same)
  asked_same at q live (answered v body) (cancelled w later) h k same =
      absurd (no_cancelled h.model q body later h.afresh (same_body (reply_of (answered v body)) (reply_of (cancelled w later)) same))
  asked_same at q live (answered v body) no_memory h k same = absurd (one_has_none v body (codes "MEMORY") same)
  asked_same at q live (cancelled v later) (bad_line f) h k same = absurd k
  asked_same at q live (cancelled v later) (staged count) h k same = absurd k
  asked_same at q live (cancelled v later) (committed w) h k same = absurd k
  asked_same at q live (cancelled v later) (refused w f) h k same = absurd k
  asked_same at q live (cancelled v later) (answered w text) h k same =
      absurd (no_cancelled k.model q text later k.afresh (sym (same_body (reply_of (cancelled v later)) (reply_of (answered w text)) same)))
  asked_same at q live (cancelled v later) (cancelled w other) h k same =
      let text = same_body (reply_of (cancelled v later)) (reply_of (cancelled w other)) same in
      let number : decimal later ≡ decimal other = ap (λ (t : List ℕ). drop 10 t) text in
      let short = h.logged in let short_too = k.logged in
      same_cancelled v w later other
      (same_version v w (codes "CANCELLED " ++ decimal later) (codes "CANCELLED " ++ decimal other) same)
      (decimal_injective later other (omega (arith, few, short)) (omega (arith, few, short_too)) number)
  asked_same at q live (cancelled v later) no_memory h k same = absurd (one_has_none v (codes "CANCELLED " ++ decimal later) (codes "MEMORY") same)
  asked_same at q live no_memory (bad_line f) h k same = absurd k
  asked_same at q live no_memory (staged count) h k same = absurd k
  asked_same at q live no_memory (committed w) h k same = absurd k
  asked_same at q live no_memory (refused w f) h k same = absurd k
  asked_same at q live no_memory (answered w text) h k same = absurd (one_has_none w text (codes "MEMORY") (sym same))
  asked_same at q live no_memory (cancelled w other) h k same = absurd (one_has_none w (codes "CANCELLED " ++ decimal other) (codes "MEMORY") (sym same))
  asked_same at q live no_memory no_memory h k same = refl

-- ---- commits

same_committed : (v w : ℕ) → v ≡ w → committed v ≡ committed w
same_committed v w h = cc

same_refused : (v w : ℕ) (f g : EditFault) → v ≡ w → f ≡ g → refused v f ≡ refused w g
same_refused v w f g p q = cc

module _ (opening : Model) (log : List LogEntry) where
  refused_same : (at : Standing) (v w : ℕ) (f g : EditFault) → v ≡ w → IsRefusedCommit opening log at v f → IsRefusedCommit opening log at w g → refused v f ≡ refused w g
  refused_same at v w f g version h k =
      let there = subst (λ (n : ℕ). IsRefusedCommit opening log at n f) version h in
      let model = version_unique opening log w there.model k.model there.shown.is k.shown.is in
      let fault = subst (λ (m : Model). IsRefused m w at.batch f) model there.fault in
      same_refused v w f g version (fault_unique k.model w at.batch f g fault k.fault)

  edit_same : (session : ℕ) (at : Standing) (a b : Outcome) → IsEdit opening log session at a → IsEdit opening log session at b → reply_of a ≡ reply_of b → a ≡ b
  edit_same session at (bad_line f) b h k same = absurd h
  edit_same session at (staged count) b h k same = absurd h
  edit_same session at (answered v body) b h k same = absurd h
  edit_same session at (cancelled v later) b h k same = absurd h
  edit_same session at (committed v) (bad_line f) h k same = absurd k
  edit_same session at (committed v) (staged count) h k same = absurd k
  edit_same session at (committed v) (answered w text) h k same = absurd k
  edit_same session at (committed v) (cancelled w later) h k same = absurd k
  edit_same session at (committed v) (committed w) h k same = same_committed v w (same_version v w (codes "COMMITTED") (codes "COMMITTED") same)
  edit_same session at (committed v) (refused w g) h k same =
      let byte : 67 ≡ 82 = ap (λ (r : Reply). get_or r.body 0 0) same in absurd (omega (arith, byte))
  edit_same session at (committed v) no_memory h k same = absurd (one_has_none v (codes "COMMITTED") (codes "MEMORY") same)
  edit_same session at (refused v f) (bad_line g) h k same = absurd k
  edit_same session at (refused v f) (staged count) h k same = absurd k
  edit_same session at (refused v f) (answered w text) h k same = absurd k
  edit_same session at (refused v f) (cancelled w later) h k same = absurd k
  edit_same session at (refused v f) (committed w) h k same =
      let byte : 82 ≡ 67 = ap (λ (r : Reply). get_or r.body 0 0) same in absurd (omega (arith, byte))
  edit_same session at (refused v f) (refused w g) h k same = refused_same at v w f g (version_same v w (ap (λ (r : Reply). r.version) same)) h k
  edit_same session at (refused v f) no_memory h k same = absurd (version_none v (ap (λ (r : Reply). r.version) same))
  edit_same session at no_memory (bad_line g) h k same = absurd k
  edit_same session at no_memory (staged count) h k same = absurd k
  edit_same session at no_memory (answered w text) h k same = absurd k
  edit_same session at no_memory (cancelled w later) h k same = absurd k
  edit_same session at no_memory (committed w) h k same = absurd (version_none w (ap (λ (r : Reply). r.version) (sym same)))
  edit_same session at no_memory (refused w g) h k same = absurd (version_none w (ap (λ (r : Reply). r.version) (sym same)))
  edit_same session at no_memory no_memory h k same = refl

-- ---- lines

either_same : (one a b : Outcome) → reply_of one ≢ reply_of no_memory → (a ≡ one) ⊎ (a ≡ no_memory) → (b ≡ one) ⊎ (b ≡ no_memory) → reply_of a ≡ reply_of b → a ≡ b
either_same one a b apart (inl p) (inl q) same = p ∙ sym q
either_same one a b apart (inl p) (inr q) same = absurd (apart (sym (ap reply_of p) ∙ same ∙ ap reply_of q))
either_same one a b apart (inr p) (inl q) same = absurd (apart (sym (ap reply_of q) ∙ sym same ∙ ap reply_of p))
either_same one a b apart (inr p) (inr q) same = p ∙ sym q

staged_apart : (count : ℕ) → reply_of (staged count) ≢ reply_of no_memory
staged_apart count same = (let byte : 83 ≡ 77 = ap (λ (r : Reply). get_or r.body 0 0) same in omega (arith, byte))

bad_apart : (f : LineFault) → reply_of (bad_line f) ≢ reply_of no_memory
bad_apart f same = (let byte : 82 ≡ 77 = ap (λ (r : Reply). get_or r.body 0 0) same in omega (arith, byte))

module _ (opening : Model) (log : List LogEntry) (lawful : IsLawfulLog opening log) where
  few_entries : length log ≤ 10000
  few_entries = few_versions opening log (length log) lawful.last lawful.reached

  pub outcome_same : (session : ℕ) (at : Standing) (c : Command) (a b : Outcome) → IsOutcome opening log session at c a → IsOutcome opening log session at c b → reply_of a ≡ reply_of b → a ≡ b
  outcome_same session at (command.Ask q live) a b h k same = asked_same opening log few_entries at q live a b h k same
  outcome_same session at (command.Replace de r) a b h k same =
      let count = length (stage at.batch de (change.Replace r)) in either_same (staged count) a b (staged_apart count) h k same
  outcome_same session at (command.Add de r) a b h k same =
      let count = length (stage at.batch de (change.Add r)) in either_same (staged count) a b (staged_apart count) h k same
  outcome_same session at (command.Drop de) a b h k same =
      let count = length (stage at.batch de change.Drop) in either_same (staged count) a b (staged_apart count) h k same
  outcome_same session at command.Commit a b h k same = edit_same opening log session at a b h k same
  outcome_same session at (command.Bad f) a b h k same = either_same (bad_line f) a b (bad_apart f) h k same

  head_same : (a b : Reply) (ones others : List Reply) → a ∷ ones ≡ b ∷ others → (a ≡ b) × (ones ≡ others)
  head_same a b ones others h = (cc, cc)

  session_same : (session : ℕ) (at : Standing) (commands : List Command) (ones others : List Outcome) → IsSession opening log session at commands ones → IsSession opening log session at commands others → map reply_of ones ≡ map reply_of others → ones ≡ others
  session_same session at [] [] [] h k same = refl
  session_same session at [] [] (b ∷ others) h k same = absurd k
  session_same session at [] (a ∷ ones) others h k same = absurd h
  session_same session at (c ∷ commands) [] others h k same = absurd h
  session_same session at (c ∷ commands) (a ∷ ones) [] h k same = absurd k
  session_same session at (c ∷ commands) (a ∷ ones) (b ∷ others) h k same =
      let replies = head_same (reply_of a) (reply_of b) (map reply_of ones) (map reply_of others) same in
      let one = outcome_same session at c a b h.0 k.0 replies.0 in
      let on = subst (λ (o : Outcome). IsSession opening log session (standing_after at c o) commands others) (sym one) k.1 in
      let rest = session_same session (standing_after at c a) commands ones others h.1 on replies.1 in
      ap (λ (o : Outcome). o ∷ ones) one ∙ ap (λ (os : List Outcome). b ∷ os) rest

  lists_same : (a b : List Reply) (ones others : List (List Reply)) → a ∷ ones ≡ b ∷ others → (a ≡ b) × (ones ≡ others)
  lists_same a b ones others h = (cc, cc)

  sessions_same : (session : ℕ) (sessions : List (List Command)) (ones others : List (List Outcome)) → AreSessions opening log session sessions ones → AreSessions opening log session sessions others → map (map reply_of) ones ≡ map (map reply_of) others → ones ≡ others
  sessions_same session [] [] [] h k same = refl
  sessions_same session [] [] (b ∷ others) h k same = absurd k
  sessions_same session [] (a ∷ ones) others h k same = absurd h
  sessions_same session (commands ∷ sessions) [] others h k same = absurd h
  sessions_same session (commands ∷ sessions) (a ∷ ones) [] h k same = absurd k
  sessions_same session (commands ∷ sessions) (a ∷ ones) (b ∷ others) h k same =
      let replies = lists_same (map reply_of a) (map reply_of b) (map (map reply_of) ones) (map (map reply_of) others) same in
      let one = session_same session at_start commands a b h.0 k.0 replies.0 in
      let rest = sessions_same (suc session) sessions ones others h.1 k.1 replies.1 in
      ap (λ (o : List Outcome). o ∷ ones) one ∙ ap (λ (os : List (List Outcome)). b ∷ os) rest

pub run_same : (opening : Model) (sessions : List (List Command)) (log : List LogEntry) (transcripts : List (List Reply)) (a b : IsLegal opening sessions log transcripts) → a.outcomes ≡ b.outcomes
run_same opening sessions log transcripts a b = sessions_same opening log a.lawful 0 sessions a.outcomes b.outcomes a.replies b.replies (sym a.printed ∙ b.printed)
