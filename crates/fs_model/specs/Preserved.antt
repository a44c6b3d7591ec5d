-- Preserved program order with placed fences: rule 4 knows these too (RISC-V Unprivileged ISA 20191213, chapter "RVWMO
-- Memory Consistency Model", section "Preserved Program Order").
use Rattle.std.specs.Prelude.{ℕ, Bool, ◌&&◌, Option, List}
use Rattle.std.specs.List.{list_any}
use Rattle.fs_kinds.specs.declared.placement.Entry.{Entry}
use Rattle.fs_model.specs.Operations.{PreExecution, po}
use Rattle.fs_model.specs.Fences.{fence_between}
pub use Rattle.fs_model.specs.Rules.{Rule, Rule1, Rule2, Rule3, Rule4, Rule5, Rule6, Rule7, Rule8, Rule9, Rule10, Rule11, Rule12, Rule13, all_rules}
use Rattle.fs_model.specs.Rules as rules

-- For operations a and b. rf goes from a load to its source, the operation that wrote what it returns.
module _ (x : PreExecution) (p : List Entry) (rf : ℕ → Option ℕ) (a b : ℕ) where
  -- what each rule asks besides program order
  abbrev pub case_of : Rule → Bool
  case_of Rule4 = fence_between x p a b
  case_of r = rules.case_of x rf a b r

  -- a before b is a case of rule r
  abbrev pub rule : Rule → Bool
  rule r = po x a b && case_of r

  -- a before b is in preserved program order
  abbrev pub ppo : Bool
  ppo = list_any rule all_rules
