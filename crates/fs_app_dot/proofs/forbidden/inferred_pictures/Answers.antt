use Rattle.std.proofs.Common.{List, subst}
use Rattle.fs_model.specs.declared.test.Test.{Test}
use Rattle.fs_app_why.specs.Kinds.{ChainKind}
use Rattle.fs_app_dot.specs.Kinds.{AreOfKinds}
use Rattle.fs_app_dot.proofs.forbidden.inferred_pictures.Goals as goal

pub returns-clause-told : goal.returns-clause-told
returns-clause-told c =
    let title = c.args.page.title.now in
    let telling = c.args.telling in
    let made = c.in_ok-pictures.pictures.items in (
      c.in_ok-kinds.kinds.items,
      c.in_ok-kinds.ensures.ok,
      subst (λ (t : Test). AreOfKinds t title telling c.in_ok-kinds.kinds.items made) c.requires.same
          (subst (λ (kinds : List ChainKind). AreOfKinds c.args.page.test.now title telling kinds made) c.deref.ensures.value
          c.in_ok-pictures.ensures),
    )
