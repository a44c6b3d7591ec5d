use Rattle.std.proofs.Common.{string_bytes, rules}
use Rattle.fs_app_error_messages.proofs.all_messages.push_message.Goals as goal

pub returns : goal.returns
returns c = record { added = string_bytes c.in_ok-message.message; is = c.in_ok-message.ensures; new_is = search rules }
