-- How large the tree of all placements is, and when a search may end without an answer.
use Rattle.std.specs.Prelude.{◌≡◌, ◌⊎◌, ℕ, zero, suc, ◌+◌, ◌*◌, ◌<◌, length}
use Rattle.fs_kinds.specs.declared.fault.Fault.{Fault}
use Rattle.fs_kinds.specs.declared.fault.Fault.TheVariants.{NodeLimit}
use Rattle.fs_kinds.specs.PriceTable.{PriceTable}
use Rattle.fs_model.specs.declared.test.Test.{Test}
use Rattle.fs_model.specs.Slots.{slots}
use Rattle.fs_model.specs.Allows.{Allows, full_fences, no_fences}
use Rattle.fs_model.specs.TooMany.{IsRunFault}
use Rattle.fs_cert_evidence.specs.CandidateFaults.{IsCandidateFault}
use Rattle.fs_cert_evidence.specs.Parts.{options}

-- the nodes below one with so many undecided slots, where each of them is split
abbrev pub tree_size : PriceTable → ℕ → ℕ
tree_size prices zero = 0
tree_size prices (suc n) = length (options prices) * (1 + tree_size prices n)

-- Fences are needed, and rw,rw in every slot is enough; and the tree of all placements has more nodes besides its root
-- than the limit.
pub record IsNodeLimit (t : Test) (prices : PriceTable) (limit : ℕ) : Type 0 where
  pub needed : Allows t (no_fences t)
  pub enough : Allows t (full_fences t) → ⊥
  pub large : limit < tree_size prices (length (slots t))

-- the test's runs can be listed: of those whose loads take words of the rounds of value sets none goes astray, and no
-- hart's are too many
abbrev pub HasNoRunFault : Test → Type 0
HasNoRunFault t = (f : Fault) → IsRunFault t f → ⊥

-- Why a search has no answer: the candidates can't be listed. Or the runs can, fences are needed, some are enough, and
-- the tree of all placements has more nodes than the limit.
abbrev pub IsUnanswered : Test → PriceTable → (limit : ℕ) → Fault → Type 0
IsUnanswered t prices limit f =
    IsCandidateFault t f ⊎ ((f ≡ NodeLimit) × IsNodeLimit t prices limit × HasNoRunFault t)
