-- The pairs of classes that an order, given as rows, keeps at the places where fences may stand.
use Rattle.std.specs.Prelude.{ℕ, Bool, ◌&&◌, ◌||◌, not, List}
use Rattle.std.specs.List.{list_all}
use Rattle.fs_kinds.specs.declared.slot.Slot.{Slot}
use Rattle.fs_kinds.specs.Kind.{ReadRead, ReadWrite, WriteRead, WriteWrite}
use Rattle.fs_kinds.specs.Slot.{is_same_slot}
use Rattle.fs_model.specs.Numbers.{numbers_below}
use Rattle.fs_cert_evidence.specs.Widths.{Width}
use Rattle.fs_cand_witness.specs.Edges.{has_bit, has_edge}
use Rattle.fs_cand_witness.specs.declared.points.Sides.{Sides}
use Rattle.fs_cand_witness.specs.declared.widths.Class.{Class}
use Rattle.fs_cand_witness.specs.declared.widths.Class.TheVariants.{Reads, Writes}

-- the operations of a class before the place, and those after it, as bits
abbrev pub before_in : Class → Sides → ℕ
before_in Reads side = side.reads_before
before_in Writes side = side.writes_before

abbrev pub after_in : Class → Sides → ℕ
after_in Reads side = side.reads_after
after_in Writes side = side.writes_after

-- an edge leads from each of the first to each of the second
unfoldable pub are_ordered : List ℕ → ℕ → ℕ → Bool
are_ordered rows first second =
    list_all (λ a. list_all (λ b. not (has_bit first a && has_bit second b) || has_edge rows a b) (numbers_below 64)) (numbers_below 64)

-- and so it is for the operations of these classes, where the place is at the slot
abbrev pub is_kept : List ℕ → Slot → Class → Class → Sides → Bool
is_kept order slot first second side =
    not (is_same_slot slot side.slot) || are_ordered order (before_in first side) (after_in second side)

abbrev pub keeps_all : List ℕ → List Sides → Slot → Class → Class → Bool
keeps_all order sides slot first second = list_all (is_kept order slot first second) sides

abbrev pub width_in : List ℕ → List Sides → Width
width_in order sides slot ReadRead = keeps_all order sides slot Reads Reads
width_in order sides slot ReadWrite = keeps_all order sides slot Reads Writes
width_in order sides slot WriteRead = keeps_all order sides slot Writes Reads
width_in order sides slot WriteWrite = keeps_all order sides slot Writes Writes
