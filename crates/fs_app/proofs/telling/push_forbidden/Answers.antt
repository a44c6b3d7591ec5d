use Rattle.std.proofs.Common.{IfNone, subst}
use Rattle.fs_app_why.specs.Why.{IsAllowed}
use Rattle.fs_app.proofs.Spoken.{is_ruled_out}
use Rattle.fs_app.proofs.telling.push_forbidden.Goals as goal

pub unreachable-requires : goal.unreachable-requires
unreachable-requires c =
    let test = c.args.test.now in
    is_ruled_out c.args.line.now c.requires.forbidden test c.requires.judged
    (subst (λ found. IfNone found (IsAllowed test)) c.in-None.is c.in_ok-told.ensures.none)
