use Rattle.std.proofs.Common.{Some, refl, codes, string_bytes}
use Rattle.fs_app_error_messages.specs.Messages.{message}
use Rattle.fs_app_error_messages.specs.Explained.{IsJsonMessage, broken}
use Rattle.fs_app_error_messages.proofs.Telling.{told}
use Rattle.fs_app_error_messages.proofs.json.text_note.Goals as goal

pub returns : goal.returns
returns c =
    told string_bytes (message c.args.name.now c.args.bytes.now c.args.fault (Some c.offset_at-offset.result) (codes "here it stops being JSON")) (IsJsonMessage c.args.name.now c.args.bytes.now c.args.fault) c.message.result (broken (codes "here it stops being JSON") c.offset_at-offset.result c.requires c.offset_at-offset.ensures refl) c.message.ensures
