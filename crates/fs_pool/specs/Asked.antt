-- What a desk's board is asked.
use Rattle.std.specs.Prelude.{◌≡◌, ℕ, []}
use Rattle.fs_model.specs.declared.outcome.Outcome.TheVariants as outcome
use Rattle.fs_model.specs.declared.test.Quantifier.TheVariants as quantifier
use Rattle.fs_board_offers.specs.Questions.{Question}
use Rattle.fs_board.specs.View.{Search}

-- the board is asked this, and no node's number may pass the limit
pub record IsAsked (s : Search) (q : Question) (most : ℕ) : Type 0 where
  pub question : s.question ≡ q
  pub limit : s.board.limit ≡ most

-- a test without harts, for which nothing is offered: what `Brand` has by itself, before a caller says what is asked
abbrev pub no_question : Question
no_question = record {
  test = record {
    name = [];
    codes = [];
    starts = [];
    locations = [];
    quantifier = quantifier.Exists;
    condition = outcome.Always;
  };
  offers = [];
}
