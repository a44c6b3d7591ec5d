use Rattle.std.proofs.Common.{◌∙◌, subst}
use Rattle.fs_cert_evidence.specs.Shown.{IsShownBy, ShowsAs}
use Rattle.fs_app_dot.specs.Executions.{IsOneOf, execution_name}
use Rattle.fs_app_dot.proofs.order.given_pictures.Goals as goal

pub returns-clause-shown : goal.returns-clause-shown
returns-clause-shown c w keeps =
    let t = c.args.page.test.now in
    let p = c.args.placement.now in
    let found = c.in_ok-found.found in (
      found,
      subst (λ title. IsOneOf (ShowsAs t p w) (IsShownBy t p w → ⊥) execution_name title found) (c.as_str.ensures.value ∙ c.in_ok-title.ensures)
          (c.in_ok-found.ensures.shown w keeps),
      c.in_ok-pictures.ensures,
    )
