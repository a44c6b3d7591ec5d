-- The test in which each FENCE is as `audit` advises in place.
use Rattle.std.specs.Prelude.{Bool, true, false, not, Option, None, Some, List}
use Rattle.fs_kinds.specs.declared.kind.Kind.{Kind}
use Rattle.fs_kinds.specs.declared.placement.Entry.{Entry}
use Rattle.fs_kinds.specs.declared.slot.Slot.{Slot}
use Rattle.fs_kinds.specs.Kind.{no_stronger}
use Rattle.fs_kinds.specs.Placement.{kind_at}
use Rattle.fs_model.specs.declared.test.Test.{Test}
use Rattle.fs_model_laws.specs.InPlace.{followed, written_at}

-- a FENCE of this kind stays as it is where this is advised
abbrev pub stays : (own advised : Option Kind) → Bool
stays None advised = true
stays (Some own) None = false
stays (Some own) (Some kind) = no_stronger own kind

-- the FENCE in this place becomes another one, or goes
abbrev pub is_changed : Test → List Entry → Slot → Bool
is_changed t p place = not (stays (written_at t.codes place) (kind_at place p))

-- in place of each FENCE that changes stands the fence of the placement, or `fence io,io` where it has none
abbrev pub as_advised : Test → List Entry → Test
as_advised t p = followed (is_changed t p) t p
