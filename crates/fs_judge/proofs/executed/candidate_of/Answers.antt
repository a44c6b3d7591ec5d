use Rattle.std.proofs.Common.{◌≡◌, ◌∙◌, ℕ, Option, List, ap₂}
use Rattle.fs_model.specs.declared.operation.Operation.{Operation}
use Rattle.fs_model.specs.Operations.{operations}
use Rattle.fs_cand.specs.Candidates.{candidate_of}
use Rattle.fs_check.specs.Ordered.{runs_in}
use Rattle.fs_judge.proofs.ByOrder.{sources_from, orders_from, loaded_from, stored_in}
use Rattle.fs_judge.proofs.executed.candidate_of.Goals as goal

pub returns-clause-is : goal.returns-clause-is
returns-clause-is c =
    let t = c.args.test.now in
    let o = c.args.ordered in
    let x = runs_in t o in
    let among = o.candidate.operations in
    let listed = o.order.listed in
    let same : among ≡ operations x = c.requires.ordered.made.operations in
    let sources : c.in_ok-source.source.items ≡ sources_from among o.candidate.source =
    c.in_ok-source.ensures ∙ ap₂ (λ (os : List Operation) (ss : List (Option ℕ)). sources_from os ss)
    c.as_slice-operations.ensures c.as_slice.ensures in
    let placed = c.as_slice-2.ensures ∙ c.order-2.ensures x (c.requires.ordered.operations ∙ same) in
    let orders : c.in_ok-store_order.store_order ≡ orders_from among c.as_slice-2.result.now _ =
    c.in_ok-store_order.ensures ∙ ap₂ (λ (os : List Operation) (n : ℕ). orders_from os c.as_slice-2.result.now n)
    c.as_slice-operations.ensures c.len-locations.ensures in
    ap₂ (λ (ss : List (Option ℕ)) (os : List (List ℕ)).
    record { traces = (candidate_of o.candidate).traces; source = ss; store_order = os })
    (c.new.ensures ∙ (sources ∙ loaded_from x listed among o.candidate.source same c.requires.ordered.sources))
    (orders ∙ stored_in x listed c.as_slice-2.result.now among _ same placed)
