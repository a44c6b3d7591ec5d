use Rattle.std.proofs.Common.{ap, string_bytes}
use Rattle.std.proofs.lemmas.Result.{IfOk-weaker}
use Rattle.fs_app_audit_json_and_why.specs.Files.{of_bytes}
use Rattle.fs_app_audit_json_and_why.proofs.Blocked.{said_same}
use Rattle.fs_app_audit_json_and_why.proofs.files.block_of.Goals as goal

pub returns-in_ok-named-in-Ok-clause-ok : goal.returns-in_ok-named-in-Ok-clause-ok
returns-in_ok-named-in-Ok-clause-ok c =
    let named = c.in_ok-named-in-Ok.ensures in
    let said = c.in-Ok.ensures in
    of_bytes said.0
    (said_same c.args.is_anew said.0 c.args.prices.now _ _ _ _ _ _ _ _ _ _ named.name (ap string_bytes named.text) named.status named.kind
    named.saved said.1)

pub returns-in-Err-clause-ok : goal.returns-in-Err-clause-ok
returns-in-Err-clause-ok c =
    IfOk-weaker c.block_of_fault.result _ _ (λ block h. h c.args.is_anew c.args.prices.now) c.block_of_fault.ensures.ok
