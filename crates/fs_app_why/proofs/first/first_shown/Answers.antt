use Rattle.std.proofs.Common.{◌≡◌, ◌∙◌, IfNone, IfSome, Some, ap, arith, subst, sym}
use Rattle.std.specs.Prelude.{slice_get}
use Rattle.std.proofs.lemmas.Option.{slice_get-get_or, slice_get_within}
use Rattle.fs_cert_evidence.specs.Shown.{IsShownBy}
use Rattle.fs_check.specs.Ordered.{execution_in}
use Rattle.fs_app_why.specs.Reordered.{IsToldOf}
use Rattle.fs_app_why.proofs.FirstShown.{none_more}
use Rattle.fs_app_why.proofs.first.first_shown.Goals as goal

pub returns-in-Some-clause-some : goal.returns-in-Some-clause-some
returns-in-Some-clause-some c =
    let t = c.args.test.now in
    let p = c.args.placement.now in
    let files = c.args.files.now in
    let file = c.file-item.result in
    record {
      number = c.loop-file.file-index;
      file = file;
      at = slice_get-get_or files c.loop-file.file-index file c.loop-file-test.true ∙ ap (λ x. Some x) (sym c.file-item.is);
      earlier = c.loop-file.invariant;
      is_of = λ w keeps.
          subst (λ found. IfSome found (λ o. IsToldOf t p w (execution_in o))) c.in-Some.is (c.in_ok-found.ensures.some w keeps);
    }

pub loop-file-preserved : goal.loop-file-preserved
loop-file-preserved c =
    let t = c.args.test.now in
    let p = c.args.placement.now in
    let files = c.args.files.now in
    let n = c.loop-file.file-index in
    let file = c.file-item.result in
    let at : slice_get files n ≡ Some file =
    slice_get-get_or files n file c.loop-file-test.true ∙ ap (λ x. Some x) (sym c.file-item.is) in
    none_more t p files n file at c.loop-file.invariant
    (λ w keeps. subst (λ found. IfNone found (IsShownBy t p w → ⊥)) c.in-None.is (c.in_ok-found.ensures.none w keeps))

pub returns-clause-none : goal.returns-clause-none
returns-clause-none c = λ k file at.
    let low = slice_get_within c.args.files.now k file at in
    c.loop-file.invariant k file (omega (arith, low)) at
