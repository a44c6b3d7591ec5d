-- Which weaker fences can stand in the place of one in an execution without it.
use Rattle.std.specs.Prelude.{ℕ, Bool, ◌&&◌, not, List, [], ◌∷◌, ◌++◌, Some, filter, codes, Decides}
use Rattle.std.specs.List.{flat_map, list_any}
use Rattle.fs_kinds.specs.declared.kind.Kind.{Kind}
use Rattle.fs_kinds.specs.declared.placement.Entry.{Entry}
use Rattle.fs_kinds.specs.declared.slot.Slot.{Slot}
use Rattle.fs_kinds.specs.Kind.{all_kinds, no_stronger, word}
use Rattle.fs_kinds.specs.Placement.{with_kind}
use Rattle.fs_model.specs.declared.test.Test.{Test}
use Rattle.fs_model.specs.Allows.{Shows}
use Rattle.fs_model.specs.Execution.{Execution}

-- the first kind orders less than the second
abbrev pub orders_less : Kind → Kind → Bool
orders_less kind other = no_stronger kind other && not (no_stronger other kind)

-- those of the kinds than which none of them orders more
abbrev pub strongest : List Kind → List Kind
strongest kinds = filter (λ kind. not (list_any (λ other. orders_less kind other) kinds)) kinds

-- a kind serves where the execution shows the outcome also with a fence of this kind in the slot
abbrev pub Serve : Test → List Entry → Slot → Execution → (serves : Kind → Bool) → Type 0
Serve t p slot e serves = (kind : Kind) → Decides (serves kind) (Shows t (with_kind slot (Some kind) p) e)

-- of those that order less than this one the strongest that serve
abbrev pub weaker_that : (serves : Kind → Bool) → Kind → List Kind
weaker_that serves kind = strongest (filter serves (filter (λ other. orders_less other kind) all_kinds))

-- such as `, or with r,r or w,w there`
abbrev pub kinds_there : List Kind → List ℕ
kinds_there [] = []
kinds_there (kind ∷ kinds) =
    codes ", or with " ++ (word kind ++ (flat_map (λ other. codes " or " ++ word other) kinds ++ codes " there"))

abbrev pub without_or_with : List Kind → List ℕ
without_or_with kinds = codes "Without it" ++ (kinds_there kinds ++ codes ", in the order of memory:\n")
