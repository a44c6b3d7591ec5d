use Rattle.std.proofs.Common.{sym, subst}
use Rattle.std.specs.Str.{IsValidUpTo}
use Rattle.fs_app_error_messages.specs.Points.{encoding}
use Rattle.fs_app_error_messages.proofs.point.encoding_point.Goals as goal

pub returns-in-Err : goal.returns-in-Err
returns-in-Err c = encoding c.in-Err.ensures.cases.0 (subst (IsValidUpTo c.args.bytes.now) (sym c.valid_up_to.ensures) c.in-Err.ensures.cases.1)
