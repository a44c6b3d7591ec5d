-- The fenced test: a FENCE before each filled slot, and a label there before the fence.
use Rattle.std.specs.Prelude.{List}
use Rattle.fs_kinds.specs.declared.placement.Entry.{Entry}
use Rattle.fs_model.specs.declared.test.Test.{Test}
pub use Rattle.fs_model.specs.Answers.{read, write, both, fence_of, is_filled, position, moved, fences, with_fence, fenced_code, fenced_codes}

-- the test fenced by a placement over its slots
abbrev pub fenced : Test → List Entry → Test
fenced t p = record t { codes = fenced_codes p t.codes }
