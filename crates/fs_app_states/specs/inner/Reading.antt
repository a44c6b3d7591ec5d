-- How far a log is read.
use Rattle.std.specs.Prelude.{◌≡◌, ℕ, ◌-◌, ◌+◌, Bool, Result, Ok, Err, List, ◌++◌, length}
use Rattle.fs_kinds.specs.declared.fault.Fault.TheVariants.{Memory}
use Rattle.fs_app_states.specs.Blocks.{ReadBlock, ReadState, onward, states_from, IsOfLines, IsReadFrom}
use Rattle.fs_app_states.specs.declared.error.LogError.{LogError}
use Rattle.fs_app_states.specs.declared.error.LogError.TheVariants as error

-- it is this error, or memory ran out
abbrev pub IsErrorOf : {X : Type 0} → Result X LogError → LogError → Type 0
IsErrorOf read (error.Fault fault) = fault ≡ Memory
IsErrorOf read e = read ≡ Err e

-- a block has this error, or memory ran out
abbrev pub IsBlocksError : List (List ℕ) → LogError → Type 0
IsBlocksError texts (error.Line line what) = IsReadFrom texts 0 (Err (error.Line line what))
IsBlocksError texts (error.Fault fault) = fault ≡ Memory
IsBlocksError texts e = ⊥

-- it is why the lines aren't read, or memory ran out
abbrev pub IsLinesError : List (List ℕ) → LogError → Type 0
IsLinesError texts (error.Line line what) = IsOfLines texts (Err (error.Line line what))
IsLinesError texts error.NoBlock = IsOfLines texts (Err error.NoBlock)
IsLinesError texts (error.Fault fault) = fault ≡ Memory
IsLinesError texts e = ⊥

-- these, and behind them what is read further on
abbrev pub prepend : {X : Type 0} → List X → Result (List X) LogError → Result (List X) LogError
prepend before read = onward (λ after. Ok (before ++ after)) read

-- of so many states from this line on these are read, and the others stand behind them
abbrev pub AreFirst : List (List ℕ) → (counted : Bool) → (k count : ℕ) → List ReadState → Type 0
AreFirst texts counted k count states =
    states_from texts counted k count ≡ prepend states (states_from texts counted (k + length states) (count - length states))

-- what is read from this line on stands behind these blocks
abbrev pub IsReadBefore : List (List ℕ) → (k : ℕ) → List ReadBlock → Type 0
IsReadBefore texts k blocks = (read : Result (List ReadBlock) LogError) → IsReadFrom texts k read → IsReadFrom texts 0 (prepend blocks read)
