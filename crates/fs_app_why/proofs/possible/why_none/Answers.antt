use Rattle.std.proofs.Common.{string_bytes, subst, sym}
use Rattle.std.proofs.lemmas.Result.{IfOk-weaker}
use Rattle.fs_model.specs.Allows.{full_fences}
use Rattle.fs_litmus.specs.Lines.{StandIn}
use Rattle.fs_app_why.specs.Why.{none_heading}
use Rattle.fs_app_why.proofs.Faults.{memory_or}
use Rattle.fs_app_why.proofs.Texts.{not_shown_if_none, told_if_some}
use Rattle.fs_app_why.proofs.possible.why_none.Goals as goal

pub lines_of-requires : goal.lines_of-requires
lines_of-requires c = (c.in_ok-read.read, c.in_ok-read.ensures.ok)

pub returns-clause-some : goal.returns-clause-some
returns-clause-some c w keeps =
    IfOk-weaker c.told.result _ _
    (λ found. told_if_some full_fences none_heading c.args.test.now w c.in_ok-read.read c.in_ok-placement.placement c.deref.result.now
    string_bytes found c.in_ok-read.ensures.ok (subst (StandIn c.args.test.now) (sym c.deref.ensures.value) c.in_ok-lines.ensures.ok) c.in_ok-placement.ensures.ok)
    (c.told.ensures.some w keeps)

pub returns-clause-none : goal.returns-clause-none
returns-clause-none c w keeps =
    IfOk-weaker c.told.result _ _
    (λ found. not_shown_if_none full_fences c.args.test.now c.in_ok-read.read c.in_ok-placement.placement w found c.in_ok-read.ensures.ok
    c.in_ok-placement.ensures.ok)
    (c.told.ensures.none w keeps)

pub returns-clause-fault : goal.returns-clause-fault
returns-clause-fault c = memory_or c.told.result _ c.told.ensures.err
