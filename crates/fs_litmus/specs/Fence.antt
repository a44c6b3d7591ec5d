-- The fenced test as a test of its own, and when there is none.
use Rattle.std.specs.Prelude.{◌≡◌, ◌≢◌, ◌≤◌, List, length, All}
use Rattle.fs_kinds.specs.declared.fault.Fault.{Fault}
use Rattle.fs_kinds.specs.declared.fault.Fault.TheVariants.{BadFence, TooBig}
use Rattle.fs_kinds.specs.declared.fault.Limit.TheVariants.{Instructions}
use Rattle.fs_kinds.specs.Limits.{most_instructions}
use Rattle.fs_kinds.specs.declared.placement.Entry.{Entry}
use Rattle.fs_kinds.specs.Placement.{slots_of}
use Rattle.fs_model.specs.Slots.{slots}
use Rattle.fs_model.specs.Fenced.{fenced}
use Rattle.fs_model.specs.Printed.{printed}
use Rattle.fs_model.specs.Test.{IsTest}
use Rattle.fs_model.specs.declared.test.Test.{Test}
use Rattle.fs_litmus.specs.Reads.{Reads}
use Rattle.fs_litmus.specs.Faults.{IsTestFault}

-- no hart has too many instructions
abbrev pub IsShort : Test → Type 0
IsShort t = All (λ code. length code ≤ most_instructions) t.codes

-- the placement isn't over the slots of the test; or it is, and a hart of the fenced test has too many instructions
pub data IsFenceFault (t : Test) (p : List Entry) : Fault → Type 0 where
  other_slots : slots_of p ≢ slots t → IsFenceFault t p BadFence
  long : slots_of p ≡ slots t → ¬ IsShort (fenced t p) → IsFenceFault t p (TooBig Instructions)

-- The printed form of the fenced test reads as the fenced test, which is a test in all its parts; or, where a hart has
-- more instructions than the limit with its fences, it has that fault.
pub record ReadsBack (t : Test) (p : List Entry) : Type 0 where
  pub test : IsShort (fenced t p) → IsTest (fenced t p)
  pub reads : IsShort (fenced t p) → Reads (printed (fenced t p)) (fenced t p)
  pub long : ¬ IsShort (fenced t p) → IsTestFault (printed (fenced t p)) (TooBig Instructions)
