use Rattle.std.proofs.Common.{refl}
use Rattle.fs_app_sites.proofs.Lines.{slot-line}
use Rattle.fs_app_sites.proofs.laws.slots_stand_as_slots.Goals as goal

pub returns-clause-fences : goal.returns-clause-fences
returns-clause-fences c = slot-line

pub returns-clause-none : goal.returns-clause-none
returns-clause-none c = λ name w. refl
