use Rattle.std.proofs.Common.{◌≡◌, ◌∙◌, ap, sym}
use Rattle.fs_model.specs.Operations.{operations}
use Rattle.fs_model.specs.Execution.{pre_execution}
use Rattle.fs_hart.specs.Steps.{steps_in}
use Rattle.fs_cand_listing.specs.RawCandidates.{candidate}
use Rattle.fs_cand_listing.specs.ShowingTests.{has_outcome}
use Rattle.fs_cand_listing.proofs.prepared.Prepared.has_outcome.Goals as goal

pub returns : goal.returns
returns c = λ sources.
    let t = c.args.test.now in
    let e : c.as_slice.result.now ≡ c.args.self.now.traces = c.as_slice.ensures in
    c.has_outcome.ensures sources
    (c.as_slice-2.ensures ∙ c.requires.operations ∙ ap (λ ts. operations (pre_execution t (steps_in ts))) (sym e))
    ∙ ap (λ ts. has_outcome t (candidate (steps_in ts) sources c.args.orders.now)) e
