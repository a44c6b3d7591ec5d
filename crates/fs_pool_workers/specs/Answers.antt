-- What fs_board_search says of an answer, handed on with the answer.
pub use Rattle.fs_board_search.specs.declared.answer.Answer.{Answer}
pub use Rattle.fs_board_search.specs.declared.answer.Solved.{Solved}
pub use Rattle.fs_board_search.specs.Answers.{IsAnswer, IsAtLimit, IsBoardOf, IsSolveFault, Rests, placement_of}
