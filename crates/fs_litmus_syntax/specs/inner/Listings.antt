-- What stands in a hart's cells, as the reader keeps it.
use Rattle.std.specs.Prelude.{◌<◌, List, option_map, map, length, get_or}
use Rattle.std.specs.List.{All}
use Rattle.fs_instr.specs.declared.instr.Instr.{Instr}
use Rattle.fs_instr.specs.declared.instr.Instr.TheVariants as instr
use Rattle.fs_litmus_syntax.specs.declared.listing.Mark.{Mark}
use Rattle.fs_litmus_syntax.specs.declared.listing.Mark.TheVariants as mark
use Rattle.fs_litmus_syntax.specs.Cells.{Item, Label, Instruction}

-- what a mark stands for
abbrev pub item_at : List Instr → Mark → Item
item_at code (mark.Label name line) = Label name.now line
item_at code (mark.Instruction number target line) = Instruction (get_or code number instr.FenceTso) (option_map (λ w. w.now) target) line

abbrev pub marked : List Instr → List Mark → List Item
marked code marks = map (λ m. item_at code m) marks

-- the instruction of a mark is there
abbrev pub IsWithin : List Instr → Mark → Type 0
IsWithin code (mark.Label name line) = Unit {0}
IsWithin code (mark.Instruction number target line) = number < length code

abbrev pub AreWithin : List Instr → List Mark → Type 0
AreWithin code marks = All (λ m. IsWithin code m) marks
