use Rattle.std.proofs.Common.{Some, None, refl, ap, string_bytes}
use Rattle.fs_app_error_messages.specs.Messages.{message}
use Rattle.fs_app_error_messages.specs.Explained.{IsMessage, nowhere, somewhere}
use Rattle.fs_app_error_messages.proofs.Telling.{told}
use Rattle.fs_app_error_messages.proofs.file.explain.Goals as goal

pub returns-in-Some : goal.returns-in-Some
returns-in-Some c =
    let point = rw c.in-Some.is at c.in_ok-point.ensures in
    let place = ap (λ n. message c.args.name.now c.args.bytes.now c.args.fault (Some n) c.in_ok-hint.hint.now) c.offset_of.ensures in
    told string_bytes (message c.args.name.now c.args.bytes.now c.args.fault (Some c.offset_of.result) c.in_ok-hint.hint.now) (IsMessage c.args.name.now c.args.bytes.now c.args.fault) c.message.result (somewhere c.in_ok-hint.hint.now point place) c.message.ensures

pub returns-in-None : goal.returns-in-None
returns-in-None c =
    told string_bytes (message c.args.name.now c.args.bytes.now c.args.fault None c.in_ok-hint.hint.now) (IsMessage c.args.name.now c.args.bytes.now c.args.fault) c.message-in-None.result (nowhere c.in_ok-hint.hint.now (rw c.in-None.is at c.in_ok-point.ensures) refl) c.message-in-None.ensures
