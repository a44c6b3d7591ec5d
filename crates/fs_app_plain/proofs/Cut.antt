-- A list of steps without a part in its middle: which step of the whole list a step of the shorter one is.
use Rattle.std.proofs.Common.{ℕ, ◌+◌, nat_lt, List, ◌++◌, length, if◌then◌else◌}
use Rattle.fs_model.specs.declared.step.Step.{Step}

module _ (before turn after : List Step) where
  abbrev pub whole : List Step
  whole = before ++ (turn ++ after)

  abbrev pub short : List Step
  short = before ++ after

  -- the place in the whole list of step k of the shorter one
  abbrev pub place_there : ℕ → ℕ
  place_there k = if nat_lt k (length before) then k else k + length turn
