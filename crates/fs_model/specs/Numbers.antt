-- Small words on numbers and lists of numbers.
pub use Rattle.fs_model.specs.Operations.{numbers_below, between, is_same}
pub use Rattle.fs_model.specs.Executions.{has_number, stands_before}
