use Rattle.std.proofs.Common.{◌∙◌, ap, inl, string_bytes, subst, sym}
use Rattle.std.specs.Arc.{arc_value}
use Rattle.std.proofs.lemmas.Result.{IfErr-weaker, IfOk-weaker}
use Rattle.fs_model.specs.declared.test.Test.{Test}
use Rattle.fs_model.specs.Allows.{no_fences}
use Rattle.fs_litmus.specs.Lines.{StandIn}
use Rattle.fs_litmus.specs.Reads.{Reads}
use Rattle.fs_app_why.proofs.Texts.{allowed_if_none, forbidden_if_some}
use Rattle.fs_app_why.proofs.ruled_out.why_forbidden.Goals as goal

pub lines_of-requires : goal.lines_of-requires
lines_of-requires c = (c.in_ok-read.read, c.in_ok-read.ensures.ok)

pub returns-clause-some : goal.returns-clause-some
returns-clause-some c =
    let bytes = c.args.test.now in
    let t = arc_value c.in_ok-read-2.read in
    let same = sym c.in_ok-read-2.ensures.ok in
    IfOk-weaker c.asked_text.result _ _
    (λ found. forbidden_if_some bytes t c.in_ok-placement.placement
    (subst (λ (u : Test). Reads bytes u) same c.in_ok-read.ensures.ok) (c.in_ok-placement.ensures.ok ∙ ap no_fences same)
    c.args.telling c.deref.result.now string_bytes found (subst (StandIn bytes) (sym c.deref.ensures.value) c.in_ok-lines.ensures.ok))
    c.asked_text.ensures.some

pub returns-clause-none : goal.returns-clause-none
returns-clause-none c =
    let bytes = c.args.test.now in
    let t = arc_value c.in_ok-read-2.read in
    let same = sym c.in_ok-read-2.ensures.ok in
    IfOk-weaker c.asked_text.result _ _
    (λ found. allowed_if_none bytes t c.in_ok-placement.placement
    (subst (λ (u : Test). Reads bytes u) same c.in_ok-read.ensures.ok) (c.in_ok-placement.ensures.ok ∙ ap no_fences same) found)
    c.asked_text.ensures.none

pub returns-clause-fault : goal.returns-clause-fault
returns-clause-fault c =
    let bytes = c.args.test.now in
    let reads = subst (λ (u : Test). Reads bytes u) (sym c.in_ok-read-2.ensures.ok) c.in_ok-read.ensures.ok in
    IfErr-weaker c.asked_text.result _ _ (λ fault met known. inl (arc_value c.in_ok-read-2.read, reads, met known))
    c.asked_text.ensures.err
