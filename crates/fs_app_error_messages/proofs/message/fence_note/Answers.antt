use Rattle.std.proofs.Common.{refl, string_bytes}
use Rattle.fs_kinds.specs.declared.fault.Fault.TheVariants.{BadFence}
use Rattle.fs_app_error_messages.specs.Messages.{message_of}
use Rattle.fs_app_error_messages.specs.Explained.{IsFenceNote, placeless}
use Rattle.fs_app_error_messages.proofs.Telling.{told}
use Rattle.fs_app_error_messages.proofs.message.fence_note.Goals as goal

pub returns : goal.returns
returns c =
    told string_bytes (message_of c.args.word.now BadFence c.args.hint.now) IsFenceNote c.message_of.result (c.args.word.now, placeless c.args.hint.now refl) c.message_of.ensures
