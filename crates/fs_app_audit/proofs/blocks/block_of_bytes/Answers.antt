use Rattle.std.proofs.Common.{ap, string_bytes}
use Rattle.fs_app_audit.specs.Blocks.{of_bytes}
use Rattle.fs_app_audit.proofs.Blocked.{said_same}
use Rattle.fs_app_audit.proofs.blocks.block_of_bytes.Goals as goal

pub returns-in_ok-named-in-Ok-clause-ok : goal.returns-in_ok-named-in-Ok-clause-ok
returns-in_ok-named-in-Ok-clause-ok c =
    let named = c.in_ok-named-in-Ok.ensures in
    of_bytes c.args.test.now
    (said_same c.args.is_anew c.args.test.now c.args.prices.now _ _ _ _ _ _ _ _ (ap string_bytes named.text) named.status named.kind named.saved
    c.in-Ok.ensures)
