use Rattle.std.proofs.Common.{◌∙◌}
use Rattle.fs_litmus.proofs.Kept.{kept_same, kept_within, kept_long}
use Rattle.fs_litmus.proofs.limits.short_codes.Goals as goal

pub returns-in-Some-clause-codes : goal.returns-in-Some-clause-codes
returns-in-Some-clause-codes c =
    let h = rw c.in-Some.is at c.in_ok-codes.ensures.some in
    λ codes kept. h.0 ∙ kept_same codes c.args.kept.now kept h.1

pub returns-in-Some-clause-within : goal.returns-in-Some-clause-within
returns-in-Some-clause-within c =
    let h = rw c.in-Some.is at c.in_ok-codes.ensures.some in
    λ codes kept. kept_within codes c.args.kept.now kept h.1

pub returns-in-None-clause-long : goal.returns-in-None-clause-long
returns-in-None-clause-long c =
    let long = rw c.in-None.is at c.in_ok-codes.ensures.none in
    λ codes kept. kept_long codes c.args.kept.now kept long
