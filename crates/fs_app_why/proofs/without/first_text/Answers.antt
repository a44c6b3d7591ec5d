use Rattle.std.proofs.Common.{◌++◌, ◌∙◌, ap, IfNone, IfSome, None, Some, inl, inr, subst}
use Rattle.fs_kinds.specs.Placement.{with_kind}
use Rattle.fs_check.specs.Ordered.{execution_in, runs_in}
use Rattle.fs_app_why.specs.First.{IsOfFirst, NoneShows}
use Rattle.fs_app_why.specs.Traces.{trace_text}
use Rattle.fs_app_why.specs.Weaker.{without_or_with}
use Rattle.fs_app_why.specs.Kept.{keeps_kind}
use Rattle.fs_app_why.proofs.Certified.{first_told, no_witness_shows}
use Rattle.fs_app_why.proofs.Kept.{kept_where_shown}
use Rattle.fs_app_why.proofs.without.first_text.Goals as goal

pub returns-in_ok-told-in-Some-clause-told : goal.returns-in_ok-told-in-Some-clause-told
returns-in_ok-told-in-Some-clause-told c = λ ws kept.
    let t = c.args.test.now in
    let q = c.args.placement.now in
    let slot = c.args.fence.0 in
    let p = with_kind slot None q in
    let o = c.in-Some.shown in
    let e = execution_in o in
    let found = c.in_ok-shown.ensures.some in
    let first = subst (λ found. IfSome found (IsOfFirst t p c.args.files.now)) c.in-Some.is found in
    let told = first_told t p c.args.files.now ws o kept first in
    inl (
      told.0,
      e,
      keeps_kind (runs_in t o) q slot o.order.listed,
      told.1,
      told.2,
      (λ kind. kept_where_shown t e p (with_kind slot (Some kind) q) told.2.shows),
      c.in_ok-told-in-Some.ensures
          ∙ ap (λ kinds. without_or_with kinds ++ trace_text t c.args.lines.now e)
          (c.deref.ensures.value ∙ c.in_ok-kinds-in-Some.ensures.ok),
    )

pub returns-in-None-clause-told : goal.returns-in-None-clause-told
returns-in-None-clause-told c = λ ws kept.
    let t = c.args.test.now in
    let p = with_kind c.args.fence.0 None c.args.placement.now in
    let none : NoneShows t c.args.files.now p =
    subst (λ found. IfNone found (NoneShows t c.args.files.now p)) c.in-None.is c.in_ok-shown.ensures.none in
    inr (no_witness_shows t p c.args.files.now ws kept none, c.new.ensures.bytes)
