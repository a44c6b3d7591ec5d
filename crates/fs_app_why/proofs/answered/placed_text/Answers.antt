use Rattle.std.proofs.Common.{◌≡◌, ◌∙◌, Bool, List, ap, string_bytes, subst, sym, IfOk}
use Rattle.std.specs.Arc.{arc_value}
use Rattle.std.proofs.lemmas.Result.{IfOk-weaker}
use Rattle.fs_model.specs.declared.test.Test.{Test}
use Rattle.fs_app_why.specs.Kinds.{ChainKind}
use Rattle.fs_app_why.specs.Forbidden.{AreKinds}
use Rattle.fs_app_why.specs.Why.{TellsPlaced, TellsUnless, unplaced_text}
use Rattle.fs_app_why.proofs.answered.placed_text.Goals as goal

pub returns-then-lacks_placed-clause-told : goal.returns-then-lacks_placed-clause-told
returns-then-lacks_placed-clause-told c said kept =
    let P = TellsPlaced (arc_value c.args.test.now) c.args.lines.now c.args.telling c.args.placement.now said.cycles said.witnesses in
    subst (λ (lacks : Bool). TellsUnless lacks (unplaced_text c.args.telling) P (string_bytes c.in_ok-text.text))
    (sym c.if-lacks_placed.true ∙ c.lacks_placed.ensures) c.in_ok-text.ensures

pub returns-clause-told : goal.returns-clause-told
returns-clause-told c said kept =
    let t = arc_value c.args.test.now in
    let lines = c.args.lines.now in
    let telling = c.args.telling in
    let p = c.args.placement.now in
    let kinds = c.deref-2.result.now in
    let P = TellsPlaced t lines telling p said.cycles said.witnesses in
    subst (λ (lacks : Bool). IfOk c.told_text.result (λ text. TellsUnless lacks (unplaced_text telling) P (string_bytes text)))
    (sym c.if-lacks_placed.false ∙ c.lacks_placed.ensures)
    (subst (λ (u : Test). IfOk c.told_text.result (λ text. TellsPlaced u lines telling p said.cycles said.witnesses (string_bytes text)))
    c.deref.ensures
    (IfOk-weaker c.told_text.result _ _
    (λ text told. record {
      kinds = kinds;
      fences = told.0;
      are_kinds = subst (λ (u : Test). AreKinds u p said.cycles kinds) (sym c.deref.ensures)
          (subst (λ (those : List ChainKind). AreKinds t p said.cycles those) (sym c.deref-2.ensures.value)
          (c.in_ok-kinds.ensures.ok said.cycles kept.cycles));
      tells = told.1;
      told = told.2;
    })
    (c.told_text.ensures.told said kept)))
