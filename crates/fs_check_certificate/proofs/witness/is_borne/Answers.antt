use Rattle.std.proofs.Common.{not, ap}
use Rattle.fs_model.specs.Execution.{initial_words}
use Rattle.fs_check_certificate.proofs.witness.is_borne.Goals as goal

pub returns : goal.returns
returns c = ap not (c.fence_rule.ensures (initial_words c.args.test.now) c.requires.made)
