use Rattle.std.proofs.Common.{◌∙◌, [], ap, slice_index_or}
use Rattle.fs_model_laws.specs.InPlace.{kind_there}
use Rattle.fs_app_audit.specs.InPlace.{weight_there}
use Rattle.fs_app_audit.proofs.Offered.{offer_same}
use Rattle.fs_app_audit.proofs.places.offer_in_place.Goals as goal

pub returns : goal.returns
returns c =
    let prices = c.args.prices.now in
    let codes = c.args.codes.now in
    let place = c.args.place in
    let code = c.code_of-code.ensures ∙ ap (λ hart. slice_index_or codes hart []) c.from.ensures in
    let weighs = c.weight_there-weight.ensures.weight ∙ ap (λ instrs. weight_there prices place.hart instrs place.at) code in
    let at = ap (kind_there c.code_of-code.result.now) c.from-2.ensures in
    let is = c.kind_there-own.ensures ∙ at ∙ ap (λ instrs. kind_there instrs place.at) code in
    c.offer_of.ensures ∙ offer_same prices codes place _ _ weighs is
