use Rattle.fs_app_plain.proofs.Waiting.{flags, locks, flag_example, lock_example}
use Rattle.fs_app_plain.proofs.WaitingLocks.{locks_example}
use Rattle.fs_app_plain.proofs.WaitingOnce.{execution, goes_back_once}
use Rattle.fs_app_plain.proofs.loop_laws.waiting_is_idle.Goals as goal

pub returns-clause-flags : goal.returns-clause-flags
returns-clause-flags c = flags

pub returns-clause-locks : goal.returns-clause-locks
returns-clause-locks c = locks

pub returns-clause-one_flag : goal.returns-clause-one_flag
returns-clause-one_flag c = flag_example

pub returns-clause-one_lock : goal.returns-clause-one_lock
returns-clause-one_lock c = lock_example

pub returns-clause-only_locks : goal.returns-clause-only_locks
returns-clause-only_locks c = locks_example

pub returns-clause-is_execution : goal.returns-clause-is_execution
returns-clause-is_execution c = execution

pub returns-clause-goes_back : goal.returns-clause-goes_back
returns-clause-goes_back c = goes_back_once
