-- What an execution shows.
pub use Rattle.fs_model.specs.Executions.{holds, is_outcome, is_store_to}
pub use Rattle.fs_model.specs.OfTests.{final_register, final_word, has_outcome}
