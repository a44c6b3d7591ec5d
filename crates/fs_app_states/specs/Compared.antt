-- What is said of a test that is held against a log: which states were seen and are forbidden, and which are allowed
-- and weren't seen.
use Rattle.std.specs.Prelude.{◌≡◌, ℕ, ◌==◌, Bool, true, false, not, is_some, Option, None, Some, List, [], ◌++◌, codes, length, map, if◌then◌else◌}
use Rattle.std.specs.Fmt.{decimal}
use Rattle.std.specs.List.{AllZip, filter, flat_map, list_any}
use Rattle.std.specs.Map.{keys_of, lookup}
use Rattle.std.specs.Str.{bytes_eq}
use Rattle.fs_app_io.specs.declared.status.Status.{Status}
use Rattle.fs_app_io.specs.declared.status.Status.TheVariants.{Success, Denied, Failure}
use Rattle.fs_kinds.specs.declared.placement.Entry.{Entry}
use Rattle.fs_model.specs.declared.test.Location.{Location}
use Rattle.fs_model.specs.declared.test.Test.{Test}
use Rattle.fs_model.specs.Placed.{IsPlaced}
use Rattle.fs_model.specs.Slots.{slots}
use Rattle.fs_litmus.specs.Reads.{Reads}
use Rattle.fs_app_error_messages.specs.Messages.{name_text}
use Rattle.fs_judge_outcomes.specs.States.{AreStates}
use Rattle.fs_app_states.specs.Names.{state_line}
use Rattle.fs_app_states.specs.declared.columns.Column.{Column}
use Rattle.fs_app_states.specs.Rows.{AreFirstColumns, IsRow}
use Rattle.fs_app_states.specs.Tallies.{Counted, counted, is_of, IsTally}
use Rattle.fs_app_states.specs.declared.log.Block.{Block}
use Rattle.fs_app_states.specs.declared.log.Seen.{Seen}
use Rattle.fs_app_states.specs.declared.text.Findings.{Findings}

-- ---- what is found

-- the states that the log has of a test of this name
abbrev pub states_seen : List Block → (name : List ℕ) → List Seen
states_seen log name = flat_map (λ block. block.states) (filter (λ block. bytes_eq block.name.now name) log)

-- a state of these words is among the states
abbrev pub is_among : List (List ℕ) → (state : List ℕ) → Bool
is_among states state = list_any (is_of state) states

-- no state of the tally has these words
abbrev pub is_lacking : List Counted → (state : List ℕ) → Bool
is_lacking tally state = not (is_some (lookup (is_of state) tally))

-- of states that were seen: each state once, and how many they are; how many are allowed; those that are not, in their
-- order, with how often each was seen; and those that are allowed and weren't seen, in their order
pub record AreFindings (t : Test) (p : List Entry) (columns : List Column) (rows : List Counted) (found : Findings) : Type 0 where
  pub tally : List Counted
  pub is_tally : IsTally rows tally
  pub states : List (List ℕ)
  pub are_states : AreStates t p (map (λ column. column.place) columns) states
  pub seen : found.seen ≡ length tally
  pub allowed : found.allowed ≡ length states
  pub forbidden : map counted found.forbidden ≡ filter (λ row. not (is_among states row.0)) tally
  pub not_seen : found.not_seen ≡ filter (λ state. not (is_among (keys_of rows) state)) states

-- ---- what is printed, names as messages show them

abbrev pub times_text : Option ℕ → List ℕ
times_text None = []
times_text (Some times) = codes ", " ++ (decimal times ++ codes " seen")

abbrev pub forbidden_label : Option ℕ → List ℕ
forbidden_label times = codes "  forbidden" ++ (times_text times ++ codes "  ")

-- such as `  forbidden, 12 seen  0:x7=2; 1:x7=0;`
abbrev pub forbidden_line : List Location → List Column → Counted → List ℕ
forbidden_line locations columns row =
    forbidden_label row.1 ++ state_line locations columns row.0

abbrev pub not_seen_line : List Location → List Column → List ℕ → List ℕ
not_seen_line locations columns state = codes "  not seen   " ++ state_line locations columns state

-- such as `SB: 3 seen, 4 allowed`
abbrev pub first_line : (name : List ℕ) → (seen allowed : ℕ) → List ℕ
first_line name seen allowed =
    name_text name ++ (codes ": " ++ (decimal seen ++ (codes " seen, " ++ (decimal allowed ++ codes " allowed\n"))))

abbrev pub compared_text : (name : List ℕ) → List Location → List Column → Findings → List ℕ
compared_text name locations columns found =
    first_line name found.seen found.allowed
    ++ (flat_map (λ row. forbidden_line locations columns (counted row)) found.forbidden
    ++ flat_map (not_seen_line locations columns) found.not_seen)

abbrev pub lacking_text : (name : List ℕ) → List ℕ
lacking_text name = name_text name ++ codes ": not in the log\n"

-- 1 where a state was seen that is forbidden, else 0
abbrev pub status_of : Findings → Status
status_of found = if length found.forbidden == 0 then Success else Denied

-- ---- the whole

-- what is said of a test with fences of which the log has these states
pub record IsHeld (t : Test) (p : List Entry) (states : List Seen) (text : List ℕ) (status : Status) : Type 0 where
  pub columns : List Column
  pub are_columns : AreFirstColumns t states columns
  pub rows : List Counted
  pub are_rows : AllZip (IsRow t columns) states rows
  pub found : Findings
  pub are_findings : AreFindings t p columns rows found
  pub the_text : text ≡ compared_text t.name t.locations columns found
  pub the_status : status ≡ status_of found

-- what is said where the log has the test, or lacks it
abbrev pub IsComparedTo : (in_log : Bool) → Test → List Entry → List Seen → (text : List ℕ) → Status → Type 0
IsComparedTo true t p states text status = IsHeld t p states text status
IsComparedTo false t p states text status = (text ≡ lacking_text t.name) × (status ≡ Failure)

abbrev pub is_in_log : List Block → (name : List ℕ) → Bool
is_in_log log name = list_any (λ block. bytes_eq block.name.now name) log

-- The bytes read as a test, the words as fences at its slots, and this is said of it.
pub record IsCompared (log : List Block) (bytes : List ℕ) (fences : List (List ℕ)) (name text : List ℕ) (status : Status) : Type 0 where
  pub the_test : Test
  pub reads : Reads bytes the_test
  pub placement : List Entry
  pub placed : IsPlaced None (slots the_test) fences (Some placement)
  pub the_name : name ≡ the_test.name
  pub said : IsComparedTo (is_in_log log the_test.name) the_test placement (states_seen log the_test.name) text status
