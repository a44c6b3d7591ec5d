use Rattle.std.proofs.Common.{◌∙◌, ap, string_bytes}
use Rattle.fs_app_audit.specs.Blocks.{of_fault}
use Rattle.fs_app_audit.proofs.blocks.block_of_fault.Goals as goal

pub returns-clause-ok : goal.returns-clause-ok
returns-clause-ok c =
    let said = c.in_ok-said.ensures in
    let named = c.in_ok-named.ensures in
    of_fault c.args.fault said.known (ap string_bytes named.text ∙ said.text) (named.kind ∙ said.kind) (named.status ∙ said.status)
    (named.saved ∙ said.saved)
