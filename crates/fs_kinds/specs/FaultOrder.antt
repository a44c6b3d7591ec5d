-- Which of several faults is given: that of the least number, and of that number that of the least line; of passed
-- limits, the first of harts, instructions, accesses, locations and depth.
use Rattle.std.specs.Prelude.{◌≡◌, ℕ, ◌<◌, ◌≤◌, ◌⊎◌, Bool, ◌&&◌, ◌||◌, ◌==◌, nat_lt, Option, Some, None, if◌then◌else◌}
use Rattle.fs_kinds.specs.FaultLine.{number}
use Rattle.fs_kinds.specs.declared.fault.Fault.{Fault}
use Rattle.fs_kinds.specs.declared.fault.Fault.TheVariants.{Syntax, UnknownInstr, BadAnnotation, BadLabel, BadInit, TooBig}
use Rattle.fs_kinds.specs.declared.fault.Limit.{Limit}
use Rattle.fs_kinds.specs.declared.fault.Limit.TheVariants.{Harts, Instructions, Accesses, Locations, Depth}

-- the place of a limit among the limits
abbrev pub limit_rank : Limit → ℕ
limit_rank Harts = 0
limit_rank Instructions = 1
limit_rank Accesses = 2
limit_rank Locations = 3
limit_rank Depth = 4

-- where a fault of a test file stands among those of its number: its line, or the place of its limit
abbrev pub rank_of : Fault → ℕ
rank_of (Syntax line) = line
rank_of (UnknownInstr line) = line
rank_of (BadAnnotation line) = line
rank_of (BadLabel line) = line
rank_of (BadInit line) = line
rank_of (TooBig what) = limit_rank what
rank_of _ = 0

-- of a lesser number, or of the same number and no later in its rank
abbrev pub IsNoLater : Fault → Fault → Type 0
IsNoLater f g = (number f < number g) ⊎ ((number f ≡ number g) × (rank_of f ≤ rank_of g))

-- f is the first of the faults of a kind
pub record IsFirst (P : Fault → Type 0) (f : Fault) : Type 0 where
  pub is : P f
  pub first : (g : Fault) → P g → IsNoLater f g

-- the first of the faults of a kind, or that there is none
abbrev pub IsFirstOf : (Fault → Type 0) → Option Fault → Type 0
IsFirstOf P None = (f : Fault) → ¬ P f
IsFirstOf P (Some f) = IsFirst P f

-- ---- the first of two

abbrev pub is_earlier : Fault → Fault → Bool
is_earlier f g = nat_lt (number f) (number g) || (number f == number g && nat_lt (rank_of f) (rank_of g))

abbrev pub earliest : Option Fault → Option Fault → Option Fault
earliest None o = o
earliest (Some e) None = Some e
earliest (Some e) (Some f) = Some (if is_earlier f e then f else e)
