use Rattle.std.proofs.Common.{None, refl, string_bytes}
use Rattle.fs_app_error_messages.specs.Messages.{message}
use Rattle.fs_app_error_messages.specs.Explained.{IsJsonMessage, whole}
use Rattle.fs_app_error_messages.proofs.Telling.{told}
use Rattle.fs_app_error_messages.proofs.json.value_note.Goals as goal

pub returns : goal.returns
returns c =
    told string_bytes (message c.args.name.now c.args.bytes.now c.args.fault None c.as_str.result.now) (IsJsonMessage c.args.name.now c.args.bytes.now c.args.fault) c.message.result (whole c.as_str.result.now c.requires refl) c.message.ensures
