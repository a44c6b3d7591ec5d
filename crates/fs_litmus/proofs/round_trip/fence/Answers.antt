use Rattle.std.proofs.Common.{ap, ◌∙◌, Err}
use Rattle.fs_litmus.proofs.Fencing.{handed, not_written, read_back}
use Rattle.fs_litmus.proofs.PrintedFaults.{not_read}
use Rattle.fs_litmus.proofs.round_trip.fence.Goals as goal

pub returns-in_err-text-clause-err : goal.returns-in_err-text-clause-err
returns-in_err-text-clause-err c =
    handed c.from_residual.result _ _ c.from_residual.ensures.1
    (not_written _ _ _ (λ e. c.in_err-text.ensures.bad_fence (ap (λ f. Err f) e)) c.in_err-text.ensures.err)

pub returns-clause-ok : goal.returns-clause-ok
returns-clause-ok c = read_back _ _ _ c.read_test.result c.requires (c.as_bytes.ensures.value ∙ c.in_ok-text.ensures.ok) c.read_test.ensures.ok

pub returns-clause-err : goal.returns-clause-err
returns-clause-err c = not_read _ _ _ c.read_test.result c.requires c.in_ok-text.ensures.slots (c.as_bytes.ensures.value ∙ c.in_ok-text.ensures.ok) c.read_test.ensures.err
