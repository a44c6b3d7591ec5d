use Rattle.fs_pool.proofs.Agreeing.{apart_rest}
use Rattle.fs_pool.proofs.ending.+are_apart.Goals as goal

pub returns-else-is_new-clause-no : goal.returns-else-is_new-clause-no
returns-else-is_new-clause-no g t c = λ apart.
    c.is_new.ensures.no (apart_rest c.args.passes.now c.pass-item.result c.worker.result c.in-len1-up.len_at_least c.pass-item.is c.worker.ensures apart)
