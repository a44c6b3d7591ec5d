use Rattle.serde_json.specs.View.{view}
use Rattle.std.proofs.Common.{◌≡◌, sym, subst, refl, rules}
use Rattle.fs_cert_evidence.proofs.Handed.{bad-handed}
use Rattle.fs_cert_evidence.specs.WitnessFile.{IsArrayOf, IsChoice, IsName, IsPair}
use Rattle.fs_cert_evidence.proofs.witness.witness_of.Goals as goal

pub returns-in_err-read_choice_lists-clause-bad : goal.returns-in_err-read_choice_lists-clause-bad
returns-in_err-read_choice_lists-clause-bad c =
    bad-handed c.from_residual.result _ c.from_residual.ensures.1 (λ is w h.
    let said = h.pair.choices in
    let found = c.in-Some.ensures in
    let same : h.lists ≡ view c.in-Some.choices.now = cc in
    c.in_err-read_choice_lists.ensures.bad is w.choices (subst (λ d. IsArrayOf (IsArrayOf IsChoice) d w.choices) same h.choices))

pub returns-in_err-read_order-clause-bad : goal.returns-in_err-read_order-clause-bad
returns-in_err-read_order-clause-bad c =
    bad-handed c.from_residual-in_err-read_order.result _ c.from_residual-in_err-read_order.ensures.1 (λ is w h.
    let said = h.pair.order in
    let found = c.in-Some-get.ensures in
    let same : h.names ≡ view c.in-Some-get.order.now = cc in
    c.in_err-read_order.ensures.bad is w.order (subst (λ d. IsArrayOf IsName d w.order) same h.order))

pub returns-clause-ok : goal.returns-clause-ok
returns-clause-ok c =
    let order = c.in_ok-read_order.ensures.ok in
    let pair : IsPair (view c.args.value.now) (view c.in-Some.choices.now) (view c.in-Some-get.order.now) = record { keys = search rules; choices = sym c.in-Some.ensures; order = sym c.in-Some-get.ensures } in (
      record { choices = c.in_ok-read_choice_lists.field-0; order = order.0 },
      record { lists = view c.in-Some.choices.now; names = view c.in-Some-get.order.now; pair = pair; choices = c.in_ok-read_choice_lists.ensures.ok; order = order.1 },
      record { choices = refl; order = order.2 },
    )
