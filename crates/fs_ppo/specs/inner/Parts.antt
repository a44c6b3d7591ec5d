-- What the private functions find.
use Rattle.std.specs.Prelude.{ℕ, Option, option_and_then, unwrap_or, List, [], slice_get}
use Rattle.fs_kinds.specs.declared.kind.Kind.{Kind}
use Rattle.fs_kinds.specs.declared.placement.Entry.{Entry}
use Rattle.fs_kinds.specs.Placement.{kind_at}
use Rattle.fs_model.specs.Slots.{slot_at}
use Rattle.fs_model.specs.declared.step.Step.{Step}
use Rattle.fs_deps.specs.declared.deps.Masks.{Masks}
use Rattle.fs_cand.specs.declared.candidate.Candidate.{Candidate}

-- the dependencies in the run of a hart
abbrev pub deps_of : Candidate → Option ℕ → List Masks
deps_of c hart = unwrap_or (option_and_then (slice_get c.deps) hart) []

-- the fence that the placement has right before step k of a run of the hart
abbrev pub placed_at : List Step → Option ℕ → List Entry → ℕ → Option Kind
placed_at steps hart p k = option_and_then (λ h. option_and_then (λ s. kind_at (slot_at h s.at) p) (slice_get steps k)) hart
