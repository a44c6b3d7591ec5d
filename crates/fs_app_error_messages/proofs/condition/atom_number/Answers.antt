use Rattle.fs_litmus_tokens.specs.Tokens.{views}
use Rattle.fs_app_error_messages.proofs.Stopping.{no_bad_atom}
use Rattle.fs_app_error_messages.proofs.condition.atom_number.Goals as goal

pub returns-in-Err-clause-absent : goal.returns-in-Err-clause-absent
returns-in-Err-clause-absent c = no_bad_atom (views c.args.tokens.now) c.in-Err.stop c.nothing.result c.in-Err.ensures.stops c.nothing.ensures.stopped
