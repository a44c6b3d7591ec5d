use Rattle.std.proofs.Common.{rules}
use Rattle.fs_app.proofs.Written.{fenced-file}
use Rattle.fs_app.proofs.write.fenced_file.Goals as goal

pub returns-in_ok-text-in-Fenced : goal.returns-in_ok-text-in-Fenced
returns-in_ok-text-in-Fenced c = λ prices limit is.
    fenced-file c.args.test.now prices limit _ _ is c.in-Fenced.forbidden c.in-Fenced.cost _ _ _ (search rules) (search rules)
    (search rules) c.in_ok-text-in-Fenced.ensures.text
