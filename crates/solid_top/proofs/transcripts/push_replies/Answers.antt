use Rattle.std.proofs.Common.{append-nil, sym, arith}
use Rattle.solid_top.proofs.TranscriptLaws.{replies_push, replies_end}
use Rattle.solid_top.proofs.transcripts.push_replies.Goals as goal

pub loop-reply-init : goal.loop-reply-init
loop-reply-init c = sym (append-nil c.args.out.now)

pub loop-reply-preserved : goal.loop-reply-preserved
loop-reply-preserved c =
    replies_push c.args.out.now c.args.replies.now c.loop-reply.reply-index c.reply-item.result c.loop-reply.out c.push_reply.new.out c.loop-reply-test.true c.reply-item.is c.loop-reply.invariant c.in_ok-push_reply.ensures

pub returns : goal.returns
returns c = replies_end c.args.out.now c.args.replies.now c.loop-reply.reply-index c.loop-reply.out (omega (arith, c.loop-reply-test.false)) c.loop-reply.invariant
