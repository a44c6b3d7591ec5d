-- The two forms of an answer.
pub use Rattle.fs_board_search.specs.declared.answer.Answer.TheVariants.{Fenced, None}
