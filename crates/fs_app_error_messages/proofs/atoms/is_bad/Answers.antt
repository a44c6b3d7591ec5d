use Rattle.std.proofs.Common.{sym, false, ◌∙◌}
use Rattle.fs_litmus_tokens.specs.Values.{target_of, value_of}
use Rattle.fs_app_error_messages.proofs.Bad.{bad_decides}
use Rattle.fs_app_error_messages.proofs.atoms.is_bad.Goals as goal

pub returns-else-is_absent : goal.returns-else-is_absent
returns-else-is_absent c =
    bad_decides c.args.columns (target_of c.args.target) (value_of c.args.value) false c.is_out_of_range.result (sym c.if-is_absent.false ∙ c.is_absent.ensures) c.is_out_of_range.ensures
