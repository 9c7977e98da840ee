-- solidd's own: the text that a run prints: the log of the commits, the replies of each session,
-- and END.
use Rattle.std.specs.Prelude.{ℕ, suc, List, [], ◌∷◌, ◌++◌, codes, decimal, length}
use Rattle.std.specs.List.{flat_map}
use Rattle.solid_base.specs.declared.replies.Reply.{Reply}
use Rattle.edit_core.specs.Versions.{LogEntry}
use Rattle.solid_desk.specs.Outcomes.{reply_text}

-- a commit in the log: the version that it made, the session that made it, and the number of its
-- line among that session's lines, counted from 1
abbrev pub entry_text : ℕ → LogEntry → List ℕ
entry_text version entry =
    decimal version
    ++ (codes " @" ++ (decimal entry.session ++ (codes " " ++ (decimal entry.line ++ codes "\n"))))

-- one line for each version from a first one on
abbrev pub log_text : ℕ → List LogEntry → List ℕ
log_text version [] = []
log_text version (entry ∷ log) = entry_text version entry ++ log_text (suc version) log

-- a session's number, the number of its replies, and these; nothing for a session without a line
abbrev pub session_text : ℕ → List Reply → List ℕ
session_text session [] = []
session_text session (reply ∷ replies) =
    codes "@"
    ++ (decimal session
    ++ (codes " "
    ++ (decimal (length (reply ∷ replies))
    ++ (codes "\n" ++ flat_map reply_text (reply ∷ replies)))))

-- the replies of each session from a first number on
abbrev pub sessions_text : ℕ → List (List Reply) → List ℕ
sessions_text session [] = []
sessions_text session (replies ∷ more) =
    session_text session replies ++ sessions_text (suc session) more

-- the whole text; the transcripts are those of the sessions from 0 on
abbrev pub output_text : List LogEntry → List (List Reply) → List ℕ
output_text log transcripts =
    codes "LOG "
    ++ (decimal (length log)
    ++ (codes "\n" ++ (log_text 1 log ++ (sessions_text 0 transcripts ++ codes "END\n"))))
