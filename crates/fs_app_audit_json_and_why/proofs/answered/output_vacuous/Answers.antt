use Rattle.std.proofs.Common.{◌≡◌, ◌∙◌, ap, false, sym, subst}
use Rattle.serde_json.specs.Written.{has_float}
use Rattle.fs_report.specs.Objects.{json_line}
use Rattle.fs_app_audit.specs.InPlace.{offers_in_place, written_cost}
use Rattle.fs_app_audit_json_and_why.specs.Objects.{vacuous_value}
use Rattle.fs_app_audit_json_and_why.proofs.Few.{few}
use Rattle.fs_app_audit_json_and_why.proofs.Whole.{vacuous_whole}
use Rattle.fs_app_audit_json_and_why.proofs.answered.output_vacuous.Goals as goal

pub written_of-written-requires : goal.written_of-written-requires
written_of-written-requires c =
    few c.args.prices.now c.args.own.now _ c.requires
    (c.as_slice-2.ensures.value ∙ c.in_ok-offers.ensures ∙ ap (offers_in_place c.args.prices.now) c.as_slice.ensures)

pub json_line-requires : goal.json_line-requires
json_line-requires c =
    subst (λ d. has_float d ≡ false) (sym c.in_ok-value.ensures)
    (vacuous_whole c.args.name.now c.args.why.now c.written_of-written.result)

pub returns-clause-text : goal.returns-clause-text
returns-clause-text c =
    let offers = c.as_slice-2.ensures.value ∙ c.in_ok-offers.ensures ∙ ap (offers_in_place c.args.prices.now) c.as_slice.ensures in
    let written = c.written_of-written.ensures ∙ ap written_cost offers in
    c.in_ok-text.ensures ∙ ap json_line (c.in_ok-value.ensures ∙ ap (vacuous_value c.args.name.now c.args.why.now) written)
