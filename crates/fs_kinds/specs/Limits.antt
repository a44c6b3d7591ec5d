-- The limits of a test. A test that passes one is refused.
use Rattle.std.specs.Prelude.{ℕ}

-- harts
abbrev pub most_harts : ℕ
most_harts = 8

-- instructions of one hart
abbrev pub most_instructions : ℕ
most_instructions = 32

-- instructions of one hart, placed fences among them, and operations: their numbers are bytes
abbrev pub most_numbered : ℕ
most_numbered = 256

-- memory instructions of all harts together
abbrev pub most_accesses : ℕ
most_accesses = 48

-- locations
abbrev pub most_locations : ℕ
most_locations = 8

-- parentheses, denials and connectives of the condition around one another
abbrev pub most_depth : ℕ
most_depth = 64
