use Rattle.std.proofs.Common.{IfNone, IfSome, None, subst}
use Rattle.fs_kinds.specs.Placement.{with_kind}
use Rattle.fs_check.specs.Ordered.{execution_in}
use Rattle.fs_app_why.specs.First.{IsOfFirst, NoneShows}
use Rattle.fs_app_why.proofs.Certified.{first_told, no_witness_shows}
use Rattle.fs_app_dot.proofs.without.without_picture.Goals as goal

pub returns-in_ok-picture-in-Some-clause-shown : goal.returns-in_ok-picture-in-Some-clause-shown
returns-in_ok-picture-in-Some-clause-shown c = λ ws kept.
    let t = c.args.page.test.now in
    let p = with_kind c.args.slot None c.args.placement.now in
    let o = c.in-Some.ordered in
    let first = subst (λ found. IfSome found (IsOfFirst t p c.args.files.now)) c.in-Some.is c.in_ok-ordered.ensures.some in
    record {
      execution = execution_in o;
      is = first_told t p c.args.files.now ws o kept first;
      named = c.in_ok-picture-in-Some.ensures.named;
      drawn = c.in_ok-picture-in-Some.ensures.drawn;
    }

pub returns-in-None-clause-shown : goal.returns-in-None-clause-shown
returns-in-None-clause-shown c = λ ws kept.
    let t = c.args.page.test.now in
    let p = with_kind c.args.slot None c.args.placement.now in
    no_witness_shows t p c.args.files.now ws kept
    (subst (λ found. IfNone found (NoneShows t c.args.files.now p)) c.in-None.is c.in_ok-ordered.ensures.none)
