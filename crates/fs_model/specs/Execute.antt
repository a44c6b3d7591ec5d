-- What each instruction does.
pub use Rattle.fs_model.specs.Instructions.{computed, computed_with, shifted, combined, does_branch, read, address_in, stored_in, result_in, written, next_after}
pub use Rattle.fs_model.specs.Runs.{executed}
