use Rattle.std.proofs.Common.{◌∙◌, List, ap, inl, subst, sym}
use Rattle.std.specs.Arc.{arc_value}
use Rattle.std.proofs.lemmas.Result.{IfErr-weaker, IfOk-weaker}
use Rattle.fs_kinds.specs.declared.placement.Entry.{Entry}
use Rattle.fs_model.specs.declared.test.Test.{Test}
use Rattle.fs_model.specs.Allows.{no_fences}
use Rattle.fs_litmus.specs.Reads.{Reads}
use Rattle.fs_app_dot.specs.Told.{AreOfVerdict}
use Rattle.fs_app_dot.proofs.forbidden.forbidden_pictures.Goals as goal

pub lines_of-requires : goal.lines_of-requires
lines_of-requires c = (c.in_ok-read.read, c.in_ok-read.ensures.ok)

pub returns-clause-told : goal.returns-clause-told
returns-clause-told c =
    let bytes = c.args.test.now in
    let t = arc_value c.in_ok-read-2.read in
    let same = sym c.in_ok-read-2.ensures.ok in
    IfOk-weaker c.judged_pictures.result _ _
    (λ pictures told. record {
      the_test = t;
      reads = subst (λ (u : Test). Reads bytes u) same c.in_ok-read.ensures.ok;
      told = subst (λ (p : List Entry). AreOfVerdict t c.args.title.now c.args.telling p pictures.items)
          (c.in_ok-placement.ensures.ok ∙ ap no_fences same) told;
    })
    c.judged_pictures.ensures.told

pub returns-clause-fault : goal.returns-clause-fault
returns-clause-fault c =
    let bytes = c.args.test.now in
    let reads = subst (λ (u : Test). Reads bytes u) (sym c.in_ok-read-2.ensures.ok) c.in_ok-read.ensures.ok in
    IfErr-weaker c.judged_pictures.result _ _ (λ fault met known. inl (arc_value c.in_ok-read-2.read, reads, met known))
    c.judged_pictures.ensures.err
