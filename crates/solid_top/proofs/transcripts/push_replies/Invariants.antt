use Rattle.std.proofs.Common.{◌≡◌, ◌++◌, take}
use Rattle.std.specs.List.{flat_map}
use Rattle.solid_desk.specs.Outcomes.{reply_text}
use Rattle.solid_top.proofs.transcripts.push_replies.Given as goal

-- the replies before this one are written
abbrev pub invariant-loop-reply : goal.invariant-loop-reply
invariant-loop-reply l = l.out ≡ l.fn.out ++ flat_map reply_text (take l.reply-index l.replies)
