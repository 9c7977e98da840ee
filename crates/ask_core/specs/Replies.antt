-- The replies to what a session asks of a book. solidd's own.
use Rattle.std.specs.Prelude.{ℕ, List, ◌++◌, codes, decimal, Some}
use Rattle.solid_base.specs.declared.replies.Reply.{Reply}
use Rattle.edit_core.specs.declared.faults.EditFault.{EditFault}
use Rattle.edit_core.specs.EditFaults.{fault_words}

-- solidd's own: a reply that looked at the model of a version
abbrev pub with_version : ℕ → List ℕ → Reply
with_version version body = record { version = Some version; body = body }

-- solidd's own: a commit made this version
abbrev pub committed_reply : ℕ → Reply
committed_reply version = with_version version (codes "COMMITTED")

-- solidd's own: a commit isn't made, by the model of this version
abbrev pub refused_reply : ℕ → EditFault → Reply
refused_reply version f = with_version version (codes "REFUSED " ++ fault_words f)

-- solidd's own: a question was begun on a version, and given up when a later one was there
abbrev pub cancelled_reply : ℕ → ℕ → Reply
cancelled_reply version later = with_version version (codes "CANCELLED " ++ decimal later)
