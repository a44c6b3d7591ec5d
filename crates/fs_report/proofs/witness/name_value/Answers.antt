use Rattle.std.proofs.Common.{◌≡◌, sym, ap, ◌∙◌, subst, refl, arith}
use Rattle.serde_json.specs.Data.{string}
use Rattle.serde_json.specs.View.{view}
use Rattle.fs_kinds.specs.ReasonText.{operation_name}
use Rattle.fs_kinds.proofs.PlaceNames.{name-printed}
use Rattle.fs_report.specs.inner.Written.{SaysName, name_value}
use Rattle.fs_report.proofs.witness.name_value.Goals as goal

pub returns : goal.returns
returns c =
    let is : view c.from.result ≡ name_value c.args.name = c.from.ensures ∙ ap string c.in_ok-format.ensures.ok in
    subst (λ d. SaysName d c.args.name) (sym is)
    (refl, (operation_name c.args.name, refl, name-printed c.args.name (omega arith) (omega arith)))
