use Rattle.std.proofs.Common.{string_bytes}
use Rattle.fs_app_error_messages.proofs.Further.{finished, further}
use Rattle.fs_app_error_messages.proofs.all_messages.messages_of.Goals as goal

pub returns-in-None : goal.returns-in-None
returns-in-None c =
    finished c.args.name.now c.args.left.now c.loop-turn.left (string_bytes c.loop-turn.text) (string_bytes c.push_message.new.text) c.args.fault c.loop-turn.last c.loop-turn.invariant c.in_ok-push_message.ensures

pub loop-turn-preserved : goal.loop-turn-preserved
loop-turn-preserved c =
    further c.args.name.now c.args.left.now c.loop-turn.left c.next_fault.new.bytes (string_bytes c.loop-turn.text) (string_bytes c.push_message.new.text) c.args.fault c.loop-turn.last c.in-Some.next c.loop-turn.invariant c.in_ok-push_message.ensures (rw c.in-Some.is at c.in_ok-next.ensures)

pub returns : goal.returns
returns c =
    finished c.args.name.now c.args.left.now c.loop-turn.left (string_bytes c.loop-turn.text) (string_bytes c.push_message-2.new.text) c.args.fault c.loop-turn.last c.loop-turn.invariant c.in_ok-push_message-2.ensures
