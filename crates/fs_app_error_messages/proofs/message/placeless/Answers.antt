use Rattle.std.proofs.Common.{refl, string_bytes}
use Rattle.fs_app_error_messages.specs.Messages.{message_of}
use Rattle.fs_app_error_messages.specs.Explained.{IsPlaceless, placeless}
use Rattle.fs_app_error_messages.proofs.Telling.{told}
use Rattle.fs_app_error_messages.proofs.message.placeless.Goals as goal

pub returns : goal.returns
returns c =
    told string_bytes (message_of c.args.name.now c.args.fault c.args.hint.now) (IsPlaceless c.args.name.now c.args.fault) c.message_of.result (placeless c.args.hint.now refl) c.message_of.ensures
