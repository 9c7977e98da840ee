-- What a line of a script comes to, and the reply that says so. solidd's own.
use Rattle.std.specs.Prelude.{ℕ, max, List, ◌++◌, codes, decimal, Option, Some, None}
use Rattle.solid_base.specs.declared.replies.Reply.{Reply}
use Rattle.script_lines.specs.declared.faults.LineFault.{LineFault}
use Rattle.script_lines.specs.Faults.{line_fault_words}
use Rattle.edit_core.specs.declared.faults.EditFault.{EditFault}
pub use Rattle.ask_core.specs.Replies.{with_version}
use Rattle.ask_core.specs.Replies.{committed_reply, refused_reply, cancelled_reply}

-- solidd's own: what a line comes to
pub data Outcome : Type 0 where
  -- the line is no command
  bad_line : (f : LineFault) → Outcome
  -- so many changes are staged
  staged : (count : ℕ) → Outcome
  -- the commit made this version
  committed : (version : ℕ) → Outcome
  -- the commit isn't made, by the model of this version
  refused : (version : ℕ) (f : EditFault) → Outcome
  -- the question is answered with this text, by the model of this version
  answered : (version : ℕ) (body : List ℕ) → Outcome
  -- the question was begun on this version, and given up when a later one was there
  cancelled : (version later : ℕ) → Outcome
  -- there wasn't enough memory for the line
  no_memory : Outcome

-- solidd's own: a reply that looked at no version
abbrev pub without_version : List ℕ → Reply
without_version body = record { version = None; body = body }

-- solidd's own: the reply to a line
abbrev pub reply_of : Outcome → Reply
reply_of (bad_line f) = without_version (codes "REFUSED " ++ line_fault_words f)
reply_of (staged count) = without_version (codes "STAGED " ++ decimal count)
reply_of (committed version) = committed_reply version
reply_of (refused version f) = refused_reply version f
reply_of (answered version body) = with_version version body
reply_of (cancelled version later) = cancelled_reply version later
reply_of no_memory = without_version (codes "MEMORY")

-- solidd's own: the greatest version that a reply names, 0 where it names none. A cancelled one
-- names both the version of the question and the later one
abbrev pub named_version : Outcome → ℕ
named_version (bad_line f) = 0
named_version (staged count) = 0
named_version (committed version) = version
named_version (refused version f) = version
named_version (answered version body) = version
named_version (cancelled version later) = max version later
named_version no_memory = 0

-- ---- the text of a reply

-- the version that a reply speaks of, or `-` where it looked at none
abbrev pub version_text : Option ℕ → List ℕ
version_text None = codes "-"
version_text (Some version) = decimal version

-- solidd's own: a reply in the output: its version, a blank, its body, LF
abbrev pub reply_text : Reply → List ℕ
reply_text reply = version_text reply.version ++ (codes " " ++ (reply.body ++ codes "\n"))
