-- What a problem is made of, for proofs above that it may cross threads.
pub use Rattle.fs_judge.specs.contracts.problem.Problem.{the_row}
