-- Why a test's outcome is ruled out with its fences: the ends of a refutation as chains of operations, in print. Chains
-- that are the same but for the harts are a kind, of which one is told.
use Rattle.std.specs.Prelude.{ℕ, ◌+◌, ◌-◌, ◌==◌, nat_le, Bool, true, false, Option, None, Some, List, [], ◌∷◌, ◌++◌}
use Rattle.std.specs.Prelude.{length, map, codes, if◌then◌else◌}
use Rattle.std.specs.Fmt.{decimal}
use Rattle.std.specs.List.{flat_map, list_any}
use Rattle.fs_instr.specs.declared.instr.Instr.{Instr}
use Rattle.fs_kinds.specs.ReasonText.{operation_name}
use Rattle.fs_model.specs.declared.test.Location.{Location}
use Rattle.fs_model.specs.declared.test.Test.{Test}
use Rattle.fs_model.specs.Forms.{is_loading, is_storing}
use Rattle.fs_model.specs.Numbers.{numbers_below}
use Rattle.fs_model.specs.Printed.{value_text}
use Rattle.fs_app_why.specs.declared.chain.Arrow.{Arrow}
use Rattle.fs_app_why.specs.declared.chain.Arrow.TheVariants.{End}
use Rattle.fs_app_why.specs.declared.chain.Chain.{Chain}
use Rattle.fs_app_why.specs.declared.chain.ChainLink.{ChainLink}
use Rattle.fs_app_why.specs.declared.chain.Shape.{Shape}
use Rattle.fs_app_why.specs.declared.chain.Shape.TheVariants as shape
use Rattle.fs_app_why.specs.declared.known.Known.{Known}
use Rattle.fs_app_why.specs.Kinds.{ChainKind, told_links}
use Rattle.fs_app_why.specs.Arrows.{arrow_text}
use Rattle.fs_app_why.specs.Counted.{rest_text}
use Rattle.fs_app_why.specs.declared.telling.Telling.{Telling}
use Rattle.fs_app_why.specs.Told.{is_told, kind_at, told_chain}
use Rattle.fs_app_why.specs.InstructionWords.{instr_named, line_of, text_of_instr}
use Rattle.fs_app_why.specs.declared.signs.Sign.TheVariants as sign
use Rattle.fs_app_why.specs.declared.table.Row.{Row}
use Rattle.fs_app_why.specs.Signs.{some_told}
use Rattle.fs_app_why.specs.Tables.{table_text}
use Rattle.fs_app_why.specs.Words.{word_text}

-- ---- what an operation does, as far as all runs that are left agree

abbrev pub is_text : List Location → Option ℕ → List ℕ
is_text locations None = []
is_text locations (Some word) = codes "=" ++ word_text locations word

-- what an operation stores that loads, too
abbrev pub also_text : List Location → Option ℕ → List ℕ
also_text locations None = codes ", stores to it"
also_text locations (Some word) = codes ", stores " ++ word_text locations word

abbrev pub initial_text : Bool → List ℕ
initial_text is_initial = if is_initial then codes " (initial)" else []

abbrev pub loaded_text : List Location → (at : List ℕ) → Known → List ℕ
loaded_text locations at known =
    codes "reads " ++ (at ++ (is_text locations known.loaded ++ initial_text known.is_initial))

abbrev pub does_there : List Location → (at : List ℕ) → Known → (loads stores : Bool) → List ℕ
does_there locations at known true true = loaded_text locations at known ++ also_text locations known.stored
does_there locations at known true false = loaded_text locations at known
does_there locations at known false stores = codes "stores " ++ (at ++ is_text locations known.stored)

-- nothing where its location isn't known
abbrev pub does_known : List Location → Known → Option ℕ → Instr → List ℕ
does_known locations known None instr = []
does_known locations known (Some address) instr =
    does_there locations (value_text locations address) known (is_loading instr) (is_storing instr)

-- by this instruction
abbrev pub does_by : List Location → Known → Option Instr → List ℕ
does_by locations known None = []
does_by locations known (Some instr) = does_known locations known known.address instr

-- the first of these again
abbrev pub again : List ChainLink → List ℕ
again [] = []
again (link ∷ links) = codes "  " ++ (operation_name link.name ++ codes "  again\n")

abbrev pub end_text : Shape → List ChainLink → List ℕ
end_text shape.Cycle links = again links
end_text shape.Stale links = []
end_text shape.NotAtomic links = []

-- ---- a chain; the file has its instructions in these lines

module _ (t : Test) (lines : List (List ℕ)) where
  abbrev pub below_by : ChainLink → Arrow → List ℕ
  below_by link End = []
  below_by link arrow = codes "    |   " ++ (arrow_text t lines arrow link.fence link.name link.next ++ codes "\n")

  abbrev pub link_row : ChainLink → Row
  link_row link = record {
    name = operation_name link.name;
    line = codes "line " ++ decimal (line_of lines link.name);
    text = text_of_instr (instr_named t link.name);
    does = does_by t.locations link.known (instr_named t link.name);
    below = below_by link link.arrow;
  }

  abbrev pub chain_text : Chain → List ℕ
  chain_text chain = table_text (map link_row (told_links chain)) ++ end_text chain.shape (told_links chain)

-- ---- kinds in print

abbrev pub shape_text : Shape → List ℕ
shape_text shape.Cycle = codes "cycle "
shape_text shape.Stale = codes "stale "
shape_text shape.NotAtomic = codes "not atomic "

-- behind the number of a kind that has so many chains
abbrev pub others_text : ℕ → List ℕ
others_text count =
    if nat_le count 1 then codes "\n"
    else codes " (and " ++ (decimal (count - 1) ++ codes " more like it, with other harts)\n")

module _ (t : Test) (lines : List (List ℕ)) where
  -- the chain, as that of this kind
  abbrev pub headed : (number count : ℕ) → Chain → List ℕ
  headed number count chain =
      codes "\n" ++ (shape_text chain.shape ++ (decimal number ++ (others_text count ++ chain_text t lines chain)))

  abbrev pub kind_by : (number count : ℕ) → Option Chain → List ℕ
  kind_by number count None = []
  kind_by number count (Some chain) = headed number count chain

  abbrev pub kind_text : Telling → (number : ℕ) → ChainKind → List ℕ
  kind_text telling number kind = kind_by number (length kind.instances) (told_chain telling kind)

  -- by its number from 0; they are told by numbers from 1
  abbrev pub numbered_text : Telling → List ChainKind → (number : ℕ) → List ℕ
  numbered_text telling kinds number =
      if is_told telling kinds number then kind_text telling (number + 1) (kind_at kinds number) else []

  abbrev pub told_text : Telling → List ChainKind → List ℕ
  told_text telling kinds = flat_map (numbered_text telling kinds) (numbers_below (length kinds))

-- ---- what stands above them: the heading, and what is meant where one that is told has it

abbrev pub heading_of : ℕ → List ℕ
heading_of count =
    if count == 1 then codes "\nEach way to the outcome that its values leave open has this\ncontradiction."
    else codes "\nEach way to the outcome that its values leave open has one of these\ncontradictions."

abbrev pub cycle_text : Bool → List ℕ
cycle_text is_told =
    if is_told
    then codes " In a cycle each operation comes to memory before the next one,\nand the last before the first.\n"
    else codes "\n"

abbrev pub unsaid_text : Bool → List ℕ
unsaid_text is_told =
    if is_told then codes "Where a value is left out it differs from way to way, or may do so.\n" else []

abbrev pub amo_text : Bool → List ℕ
amo_text is_told =
    if is_told
    then codes "\nAn AMO is one operation that loads and stores at once: what orders either half orders all of it.\n"
    else []

abbrev pub above_text : Test → Telling → List ChainKind → List ℕ
above_text t telling kinds =
    heading_of (length kinds)
    ++ (cycle_text (some_told t telling kinds sign.Cycle)
    ++ (unsaid_text (some_told t telling kinds sign.Unsaid)
    ++ amo_text (some_told t telling kinds sign.Halves)))

-- ---- all of it

-- no values of the loads are left with which the outcome can be
abbrev pub nothing_left : List ℕ
nothing_left = codes "\nNo values that the loads can return lead to the outcome, whatever the order of memory.\n"

abbrev pub any_told : Telling → List ChainKind → Bool
any_told telling kinds = list_any (is_told telling kinds) (numbers_below (length kinds))

-- where none is told, since the fence that is asked for is in none
abbrev pub none_there : List ℕ
none_there = codes "\nThis fence is in none of the contradictions that rule the outcome out.\n"

abbrev pub contradictions_text : Test → (lines : List (List ℕ)) → Telling → List ChainKind → List ℕ
contradictions_text t lines telling kinds =
    if length kinds == 0 then nothing_left
    else if any_told telling kinds
    then above_text t telling kinds ++ (told_text t lines telling kinds ++ rest_text telling kinds)
    else none_there ++ rest_text telling kinds
