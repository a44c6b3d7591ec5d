use Rattle.std.proofs.Common.{◌≡◌, ◌≢◌, ◌∙◌, Bool, IfErr, IfOk, List, subst, sym}
use Rattle.std.specs.Arc.{arc_value}
use Rattle.std.specs.List.{AllZip}
use Rattle.std.proofs.lemmas.Result.{IfOk-weaker}
use Rattle.fs_model.specs.declared.test.Test.{Test}
use Rattle.fs_model.specs.Test.{IsTest}
use Rattle.fs_app_why.specs.Kinds.{ChainKind}
use Rattle.fs_cert_evidence.specs.WitnessFile.{KeepsWitness}
use Rattle.fs_app_why.specs.Forbidden.{AreKinds}
use Rattle.fs_app_why.proofs.Faults.{memory_or}
use Rattle.fs_app_dot.specs.Told.{AreOfKindsAndFences, AreOfPlaced, AreUnless}
use Rattle.fs_app_dot.proofs.certified.placed_pictures.Goals as goal

pub returns-then-lacks_placed-clause-told : goal.returns-then-lacks_placed-clause-told
returns-then-lacks_placed-clause-told c said kept =
    let P = AreOfPlaced (arc_value c.args.test.now) c.args.page.title.now c.args.telling c.args.placement.now said.cycles said.witnesses in
    subst (λ (lacks : Bool). AreUnless lacks P c.new.result.items) (sym c.if-lacks_placed.true ∙ c.lacks_placed.ensures) c.new.ensures.items

pub told_pictures-requires : goal.told_pictures-requires
told_pictures-requires c = subst (λ (t : Test). IsTest t) (sym c.requires.same) c.requires.is_test

pub returns-clause-told : goal.returns-clause-told
returns-clause-told c said kept =
    let t = arc_value c.args.test.now in
    let title = c.args.page.title.now in
    let telling = c.args.telling in
    let p = c.args.placement.now in
    let kinds = c.in_ok-kinds.kinds.items in
    let P = AreOfPlaced t title telling p said.cycles said.witnesses in
    let files = subst (λ those. AllZip KeepsWitness those said.witnesses) (sym c.as_slice-files.ensures) kept.witnesses in
    subst (λ (lacks : Bool). IfOk c.told_pictures.result (λ pictures. AreUnless lacks P pictures.items))
    (sym c.if-lacks_placed.false ∙ c.lacks_placed.ensures)
    (IfOk-weaker c.told_pictures.result _ _
    (λ pictures told. record {
      kinds = kinds;
      are_kinds = c.in_ok-kinds.ensures.ok said.cycles kept.cycles;
      drawn = subst (λ (u : Test). AreOfKindsAndFences u title telling p kinds said.witnesses pictures.items) c.requires.same
          (subst (λ (those : List ChainKind). AreOfKindsAndFences c.args.page.test.now title telling p those said.witnesses pictures.items)
          c.deref.ensures.value told);
    })
    (c.told_pictures.ensures.told said.witnesses files))

pub returns-clause-err : goal.returns-clause-err
returns-clause-err c = memory_or c.told_pictures.result _ c.told_pictures.ensures.err
