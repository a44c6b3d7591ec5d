-- What answers mean, where they are given: of a program t and the outcome o that it asks for, in the words of the
-- model's chapter.
use Rattle.std.specs.Prelude.{◌≡◌, ◌↔◌, ◌<◌, ◌==◌, ℕ, true, false, Some, List, ◌++◌, All, map, length, slice_get, codes}
use Rattle.std.specs.Fmt.{decimal}
use Rattle.std.specs.List.{Contains, flat_map, list_any}
use Rattle.std.specs.List.Sorted.{IsStrictlySortedBy}
use Rattle.std.specs.Ordering.{nat_cmp}
use Rattle.std.specs.Cmp.Lexicographic.{slice_cmp}
use Rattle.serde_json.specs.Data.{Members, object}
use Rattle.serde_json.specs.Read.{read}
use Rattle.fs_kinds.specs.declared.kind.Kind.TheVariants.{RwRw}
use Rattle.fs_kinds.specs.declared.placement.Entry.{Entry}
use Rattle.fs_kinds.specs.declared.reason.OperationName.{OperationName as Name}
use Rattle.fs_kinds.specs.Placement.{all_with}
use Rattle.fs_kinds.specs.Placements.{PriceTable, cost}
use Rattle.fs_kinds.specs.PriceObject.{IsTableOf}
use Rattle.fs_model.specs.declared.test.Location as names
use Rattle.fs_model.specs.Runs.{Program}
use Rattle.fs_model.specs.Executions.{Execution, Outcome, IsExecution, Allows, final_register, final_word, has_outcome, pre_execution}
use Rattle.fs_model.specs.Answers.{slots, fenced, IsPlacement, RulesOut, IsCheapest, NothingRulesOut}
use Rattle.fs_model.specs.Choices.{choices_of}
use Rattle.fs_model.specs.Moved as moved
use Rattle.fs_model.specs.Printed.{name_of}
use Rattle.fs_model.specs.Witness as witness
use Rattle.fs_model.specs.Witness.{Witness}
use Rattle.fs_cert_evidence.specs.Texts.{fenced_lines, none_lines}
use Rattle.fs_judge_outcomes.specs.declared.place.Place.{Place}
use Rattle.fs_judge_outcomes.specs.declared.place.Place.TheVariants.{Register, Location}
use Rattle.fs_judge_outcomes.specs.States.{word_of}
use Rattle.fs_app_states.specs.declared.columns.Column.{Column}
use Rattle.fs_app_states.specs.Names.{state_line}
use Rattle.fs_app_guarantees.specs.Print.{OfPrint}

-- ---- `solve`

-- rw,rw in every slot
abbrev pub full : Program → List Entry
full t = all_with (Some RwRw) (slots t)

-- the name of an instruction of a program, once it stands in the fenced program
abbrev pub moved_name : List Entry → Name → Name
moved_name p name = record { hart = name.hart; at = moved.place p name.hart name.at }

-- The witness gives an execution that shows the outcome with rw,rw in every slot: what each hart loads and which of its
-- sc.w succeed, and in which order its operations come. `order` says yes to it.
pub record ShowsOutcome (t : Program) (o : Outcome) (w : Witness) : Type 0 where
  pub execution : Execution
  pub is_execution : IsExecution (fenced t (full t)) execution
  pub shows : has_outcome (fenced t (full t)) o execution ≡ true
  pub choices : map choices_of execution.traces ≡ w.choices
  pub order : map (witness.name_of (pre_execution (fenced t (full t)) execution.traces)) execution.order
      ≡ map (λ name. Some (moved_name (full t) name)) w.order

-- With status 0 the lines are those of the cheapest placement and its cost; with status 1 they are `none` and a
-- witness, and nothing rules the outcome out. No answer has another status.
pub data Solves (t : Program) (o : Outcome) (prices : PriceTable) (text : List ℕ) (status : ℕ) : Type 0 where
  cheapest : (p : List Entry) → IsCheapest t o prices p → text ≡ fenced_lines (cost prices p) p → status ≡ 0 → Solves t o prices text status
  nothing : (w : Witness) → NothingRulesOut t o → ShowsOutcome t o w → text ≡ none_lines w → status ≡ 1 → Solves t o prices text status

-- ---- `check` says yes: the same of the lines below the first one, but that of version 1 of certificates ties are open

-- it rules the outcome out, and none that costs less does
pub record IsLeast (t : Program) (o : Outcome) (prices : PriceTable) (p : List Entry) : Type 0 where
  pub placement : IsPlacement t prices p
  pub rules_out : RulesOut t o p
  pub cheaper : (q : List Entry) → IsPlacement t prices q → cost prices q < cost prices p → Allows (fenced t q) o

pub data Accepts (version : ℕ) (t : Program) (o : Outcome) (prices : PriceTable) (text : List ℕ) : Type 0 where
  solved : (below : List ℕ) (status : ℕ) → Solves t o prices below status → text ≡ codes "yes\n" ++ below → Accepts version t o prices text
  least : (p : List Entry) → version ≡ 1 → IsLeast t o prices p → text ≡ codes "yes\n" ++ fenced_lines (cost prices p) p
      → Accepts version t o prices text

-- ---- `test`. What is vacuous is forbidden too.

pub data Says (t : Program) (o : Outcome) (word : List ℕ) : Type 0 where
  allowed : Allows t o → word ≡ codes "allowed" → Says t o word
  forbidden : (Allows t o → ⊥) → word ≡ codes "forbidden" → Says t o word
  vacuous : (Allows t o → ⊥) → word ≡ codes "vacuous" → Says t o word

-- ---- `states`

-- what a place is called: a register by its hart, `:` and its name in the file, which is x and its number where it
-- begins with x
abbrev pub Calls : List names.Location → List ℕ → Place → Type 0
Calls locations name (Register hart reg) =
    (r : List ℕ) × (name ≡ decimal hart ++ codes ":" ++ r) × (slice_get r 0 ≡ Some 120 → r ≡ codes "x" ++ decimal reg)
Calls locations name (Location location) = name ≡ name_of locations location

-- The lines are of all states in which executions end, each once: the words at some places. The title above their
-- number is one line.
pub record ListsStates (t : Program) (text : List ℕ) : Type 0 where
  pub columns : List Column
  pub called : All (λ column. Calls t.locations column.name column.place) columns
  pub states : List (List ℕ)
  pub rising : IsStrictlySortedBy (slice_cmp nat_cmp) states
  pub exact : (s : List ℕ)
      → Contains states s ↔ ((e : Execution) × IsExecution t e × (map (λ column. word_of (final_register t e) (final_word t e) column.place) columns ≡ s))
  pub title : List ℕ
  pub one_line : list_any (λ c. c == 10) title ≡ false
  pub rest : List ℕ
  pub shown : text ≡ title ++ codes "\nStates " ++ decimal (length states) ++ codes "\n" ++ flat_map (state_line t.locations columns) states ++ rest

-- ---- the same over the bytes of files: of a test in print, and of prices

-- the bytes are the JSON text of an object that has these prices
abbrev pub HavePrices : List ℕ → PriceTable → Type 0
HavePrices bytes prices = (members : Members) × (read bytes ≡ Some (object members)) × IsTableOf members prices

abbrev pub SolveIsTrue : (test prices text : List ℕ) → (status : ℕ) → Type 0
SolveIsTrue test prices text status = OfPrint test (λ t o. (table : PriceTable) → HavePrices prices table → Solves t o table text status)

abbrev pub YesIsTrue : (version : ℕ) → (test prices text : List ℕ) → Type 0
YesIsTrue version test prices text = OfPrint test (λ t o. (table : PriceTable) → HavePrices prices table → Accepts version t o table text)

abbrev pub TestIsTrue : (test word : List ℕ) → Type 0
TestIsTrue test word = OfPrint test (λ t o. Says t o word)

abbrev pub StatesAreTrue : (test text : List ℕ) → Type 0
StatesAreTrue test text = OfPrint test (λ t o. ListsStates t text)
