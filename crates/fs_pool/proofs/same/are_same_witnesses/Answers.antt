use Rattle.std.proofs.Common.{sym, ◌∙◌, true≢false}
use Rattle.fs_cert_evidence.specs.Evidence.{witness_in}
use Rattle.fs_pool.proofs.Comparing.{map_at}
use Rattle.fs_pool.proofs.same.are_same_witnesses.Goals as goal

pub returns-then-not-is_same_shared-clause-no : goal.returns-then-not-is_same_shared-clause-no
returns-then-not-is_same_shared-clause-no c = λ same.
    absurd (true≢false (sym (c.is_same_shared.ensures.no (map_at witness_in c.args.witnesses.now c.args.others.now c.loop-i.i
    c.index-witnesses-i.result c.index-others-i.result same c.index-witnesses-i.is c.index-others-i.is c.loop-i-test.true)) ∙ c.if-not-is_same_shared.true))
