use Rattle.std.proofs.Common.{◌∙◌, sym, refl}
use Rattle.fs_app_audit_json_and_why.specs.Files.{of_fault}
use Rattle.fs_app_audit_json_and_why.proofs.files.block_of_fault.Goals as goal

pub returns-clause-ok : goal.returns-clause-ok
returns-clause-ok c = λ is_anew prices.
    of_fault c.args.fault c.in_ok-line.line c.in_ok-line.ensures.names (c.in_ok-line.ensures.name ∙ sym c.in_ok-name.ensures.ok)
    c.in_ok-text.ensures.ok refl refl refl
