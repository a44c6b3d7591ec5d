use Rattle.std.proofs.Common.{subst}
use Rattle.fs_litmus.specs.Faults.{IsText}
use Rattle.fs_litmus.specs.inner.Sections.{IsTextStop}
use Rattle.fs_litmus.proofs.TextStops.{whole_never_stops}
use Rattle.fs_app_error_messages.proofs.condition.nothing.Goals as goal

pub returns-in-At-clause-stopped : goal.returns-in-At-clause-stopped
returns-in-At-clause-stopped c = λ ts stop s text. whole_never_stops IsText ts _ s text (subst (IsTextStop ts) c.in-At.is stop)
