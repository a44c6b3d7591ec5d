use Rattle.std.proofs.Common.{arith, ap, length, map, string_bytes, ◌∙◌}
use Rattle.std.specs.List.{enumerate_from}
use Rattle.std.proofs.lemmas.List.{length-map}
use Rattle.std.proofs.lemmas.List.FromFn.{length-enumerate_from}
use Rattle.serde_json.specs.View.{view}
use Rattle.fs_sites.specs.Questions.{Question}
use Rattle.fs_app_sites.specs.Sites.{offer_of}
use Rattle.fs_app_sites_check_and_audit.proofs.asked.asked_by.Goals as goal

pub written_cost-written-requires : goal.written_cost-written-requires
written_cost-written-requires c =
    let names = map string_bytes c.deref.result.now in
    let offers = c.as_slice.ensures.value ∙ ap (λ (q : Question). q.offers) (c.question.view_is ∙ c.in_ok-question.ensures) in
    let long = ap length offers
    ∙ length-map (enumerate_from 0 names) (offer_of (view c.args.prices.now))
    ∙ length-enumerate_from 0 names
    ∙ length-map c.deref.result.now string_bytes
    ∙ ap length c.deref.ensures.value in
    let most = c.requires in
    omega (arith, long, most)
