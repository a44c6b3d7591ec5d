-- How many final states of a test a list may have.
use Rattle.std.specs.Prelude.{ℕ}

-- how many states a list may have
abbrev pub most_states : ℕ
most_states = 200000
