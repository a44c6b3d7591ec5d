use Rattle.std.proofs.Common.{◌∙◌, length, sym}
use Rattle.fs_sites.specs.Answers.{IsShownIn}
use Rattle.fs_sites.specs.Questions.{AllowsIn}
use Rattle.fs_sites.specs.inner.Bars.{ForbidBetween}
use Rattle.fs_sites.proofs.Unbroken.{forbid-all, none-found, none-follows}
use Rattle.fs_sites_search.proofs.rounds.allowing.Goals as goal

pub returns-clause-ok : goal.returns-clause-ok
returns-clause-ok c =
    let parts = c.args.parts.now in
    let p = c.args.placement.now in
    let first = c.args.first in
    let later = none-found (ForbidBetween parts first (length parts) p) _ c.in_ok-found.found c.in_ok-found.ensures.ok
    (sym c.is_some.ensures ∙ c.if-is_some.false) in
    none-follows (ForbidBetween parts 0 first p) (AllowsIn parts p → ⊥) (λ shown. IsShownIn parts p shown.0 shown.1) c.allowing_between-2.result
    (forbid-all parts p first later) c.allowing_between-2.ensures.ok
