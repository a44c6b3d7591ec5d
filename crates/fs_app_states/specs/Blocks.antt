-- What is read of a log: its blocks, or why it isn't read.
use denote.Ref.{Bor}
use Rattle.std.specs.Prelude.{◌≡◌, ℕ, zero, suc, ◌<◌, ◌≤◌, ◌+◌, min, Bool, true, false, Option, Some, None, option_map, option_and_then, Result, Ok, Err, List, [], ◌∷◌, length, map, slice_get, if◌then◌else◌}
use Rattle.std.specs.Option.{is_some}
use Rattle.std.specs.Str.{IsUtf8, trim}
use Rattle.std.specs.Str.Lines.{lines}
use Rattle.fs_app_states.specs.declared.error.Expected.{Expected}
use Rattle.fs_app_states.specs.declared.error.Expected.TheVariants as expected
use Rattle.fs_app_states.specs.declared.error.LogError.{LogError}
use Rattle.fs_app_states.specs.declared.error.LogError.TheVariants as error
use Rattle.fs_app_states.specs.declared.log.Block as declared_block
use Rattle.fs_app_states.specs.declared.log.Item as declared_item
use Rattle.fs_app_states.specs.declared.log.Seen as declared_seen
use Rattle.fs_app_states.specs.declared.spelling.Count.{Count}
use Rattle.fs_app_states.specs.Lines.{title_of, behind_test, count_of, times_of, items_of, is_outcome}

-- ---- a log by its texts

-- a state: its line from 1 on, how often it was seen where the log says so, and its items, each a place and a value
pub record ReadState : Type 0 where
  pub line : ℕ
  pub times : Option ℕ
  pub items : List (List ℕ × List ℕ)

pub record ReadBlock : Type 0 where
  pub name : List ℕ
  pub states : List ReadState

-- the texts of what was read
abbrev pub split_now : Option (ℕ × Bor (List ℕ)) → Option (ℕ × List ℕ)
split_now = option_map (λ parts. (parts.0, parts.1.now))

abbrev pub item_now : declared_item.Item → List ℕ × List ℕ
item_now item = (item.place.now, item.value.now)

abbrev pub pairs_now : Option (List declared_item.Item) → Option (List (List ℕ × List ℕ))
pairs_now = option_map (map item_now)

abbrev pub read_state : declared_seen.Seen → ReadState
read_state seen =
    record { line = seen.line; times = seen.times; items = map item_now seen.items }

abbrev pub read_block : declared_block.Block → ReadBlock
read_block block = record { name = block.name.now; states = map read_state block.states }

-- ---- lines

-- the line of this index, from 0 on, without the blanks at its ends
abbrev pub line_at : List (List ℕ) → (k : ℕ) → Option (List ℕ)
line_at texts k = option_map trim (slice_get texts k)

-- the error that something else should stand in the line: where there is no such line, in the last one
abbrev pub missing : (lines k : ℕ) → Expected → LogError
missing lines k what = error.Line (min lines (k + 1)) what

abbrev pub demand : {X : Type 0} → List (List ℕ) → (k : ℕ) → Expected → Option X → Result X LogError
demand texts k what None = Err (missing (length texts) k what)
demand texts k what (Some x) = Ok x

abbrev pub onward : {X Y : Type 0} → (X → Result Y LogError) → Result X LogError → Result Y LogError
onward f (Ok x) = f x
onward f (Err e) = Err e

-- ---- a block that begins in this line: its title, how many states it has, the states, and the outcome

abbrev pub title_at : List (List ℕ) → (k : ℕ) → Result (List ℕ) LogError
title_at texts k = demand texts k expected.Title (option_and_then title_of (line_at texts k))

abbrev pub count_at : List (List ℕ) → (k : ℕ) → Result Count LogError
count_at texts k = demand texts k expected.Count (option_and_then count_of (line_at texts k))

abbrev pub seen_so : (line : ℕ) → (times : Option ℕ) → List (List ℕ × List ℕ) → ReadState
seen_so line times items = record { line = line; times = times; items = items }

-- the state of a line: where each has a count, that stands before the items
abbrev pub state_of : (line : ℕ) → (counted : Bool) → List ℕ → Option ReadState
state_of line true text = option_and_then (λ split. option_map (seen_so line (Some split.0)) (items_of split.1)) (times_of text)
state_of line false text = option_map (seen_so line None) (items_of text)

abbrev pub state_at : List (List ℕ) → (counted : Bool) → (k : ℕ) → Result ReadState LogError
state_at texts counted k = demand texts k expected.State (option_and_then (state_of (k + 1) counted) (line_at texts k))

-- so many states from this line on
abbrev pub states_from : List (List ℕ) → (counted : Bool) → (k count : ℕ) → Result (List ReadState) LogError
states_from texts counted k zero = Ok []
states_from texts counted k (suc count) = onward
    (λ state. onward (λ states. Ok (state ∷ states)) (states_from texts counted (k + 1) count)) (state_at texts counted k)

abbrev pub outcome_of : List ℕ → Option (List ℕ)
outcome_of line = if is_outcome line then Some line else None

abbrev pub outcome_at : List (List ℕ) → (k : ℕ) → Result (List ℕ) LogError
outcome_at texts k =
    demand texts k expected.Outcome (option_and_then outcome_of (line_at texts k))

abbrev pub states_at : List (List ℕ) → (k : ℕ) → Count → Result (List ReadState) LogError
states_at texts k count = states_from texts count.counted k count.states

abbrev pub block_of : List (List ℕ) → (k : ℕ) → (name : List ℕ) → List ReadState → Result ReadBlock LogError
block_of texts k name states = onward (λ line. Ok (record { name = name; states = states })) (outcome_at texts (k + length states))

abbrev pub block_at : List (List ℕ) → (k : ℕ) → Result ReadBlock LogError
block_at texts k = onward (λ name. onward (λ count. onward (block_of texts (k + 2) name) (states_at texts (k + 2) count))
    (count_at texts (k + 1))) (title_at texts k)

-- ---- a log

-- the line begins a block: its first word is `Test`
abbrev pub begins_block : List (List ℕ) → (k : ℕ) → Bool
begins_block texts k = is_some (option_and_then behind_test (line_at texts k))

abbrev pub onto : ReadBlock → Result (List ReadBlock) LogError → Result (List ReadBlock) LogError
onto block = onward (λ log. Ok (block ∷ log))

-- what is read from this line on: blocks, between which lines are skipped, or the error of the first block that has one
pub data IsReadFrom (texts : List (List ℕ)) : (k : ℕ) → Result (List ReadBlock) LogError → Type 0 where
  ends : {k : ℕ} → length texts ≤ k → IsReadFrom texts k (Ok [])
  skips : {k : ℕ} {read : Result (List ReadBlock) LogError} → k < length texts → begins_block texts k ≡ false
      → IsReadFrom texts (k + 1) read → IsReadFrom texts k read
  fails : {k : ℕ} {e : LogError} → k < length texts → begins_block texts k ≡ true → block_at texts k ≡ Err e
      → IsReadFrom texts k (Err e)
  reads : {k : ℕ} {read : Result (List ReadBlock) LogError} (block : ReadBlock) → k < length texts → begins_block texts k ≡ true
      → block_at texts k ≡ Ok block → IsReadFrom texts (k + 3 + length block.states) read → IsReadFrom texts k (onto block read)

-- a log without a block says nothing
abbrev pub IsOfLines : List (List ℕ) → Result (List ReadBlock) LogError → Type 0
IsOfLines texts (Ok []) = ⊥
IsOfLines texts (Ok (block ∷ log)) = IsReadFrom texts 0 (Ok (block ∷ log))
IsOfLines texts (Err error.NoBlock) = IsReadFrom texts 0 (Ok [])
IsOfLines texts (Err e) = IsReadFrom texts 0 (Err e)
