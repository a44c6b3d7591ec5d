use Rattle.fs_cand.specs.Candidates.{runs_of}
use Rattle.fs_ppo.proofs.Between.{stored_between}
use Rattle.fs_ppo.proofs.operations.is_stored_between.Goals as goal

pub returns : goal.returns
returns c = λ words made.
    stored_between (runs_of c.args.candidate.now words) c.args.a c.args.b c.any_store_between.result c.as_slice.result.now c.operation.result c.operation-2.result
    c.any_store_between.ensures (cc (c.as_slice.ensures, made.operations)) (c.operation.ensures words made) (c.operation-2.ensures words made)
