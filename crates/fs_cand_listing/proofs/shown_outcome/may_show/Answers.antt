use Rattle.std.proofs.Common.{◌∙◌, sym}
use Rattle.fs_hart.specs.Steps.{steps_in}
use Rattle.fs_cert_evidence.specs.Candidates.{last_word}
use Rattle.fs_cand_listing.specs.RawCandidates.{candidate}
use Rattle.fs_cand_listing.proofs.Registers.{never_shows}
use Rattle.fs_cand_listing.proofs.shown_outcome.may_show.Goals as goal

pub returns : goal.returns
returns c = λ never sources orders.
    never_shows c.args.test.now c.args.traces.now c.requires c.is_outcome-wanted.result c.is_outcome-wanted.ensures (sym c.may_be.ensures ∙ never)
    (last_word c.args.test.now (candidate (steps_in c.args.traces.now) sources orders))
