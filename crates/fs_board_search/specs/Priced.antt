-- The question of a test and prices, and its answer in the words of prices.
use Rattle.std.specs.Prelude.{◌≡◌}
use Rattle.std.specs.Arc.{arc_value}
use Rattle.fs_kinds.specs.PriceTable.{PriceTable, cost}
use Rattle.fs_model.specs.declared.test.Test.{Test}
use Rattle.fs_model.specs.Execution.{Execution}
use Rattle.fs_model.specs.Allows.{IsCheapest, RefutesAll}
use Rattle.fs_cert_evidence.specs.Evidence.{IsWitnessFor, ShowsForbidden, placement_in}
use Rattle.fs_board_offers.specs.Offers.{offers_of}
use Rattle.fs_board_offers.specs.Questions.{Question}
use Rattle.fs_board_search.specs.declared.answer.Answer.{Answer}
use Rattle.fs_board_search.specs.declared.answer.Answer.TheVariants as answer

-- the test with the offers that prices make for it
abbrev pub question_of : Test → PriceTable → Question
question_of t table = record { test = t; offers = offers_of t table }

-- the answer to it
abbrev pub IsPricedAnswer : Test → PriceTable → Answer → Type 0
IsPricedAnswer t prices (answer.Fenced f n) =
    IsCheapest t prices (placement_in f) × (n ≡ cost prices (placement_in f)) × ShowsForbidden t (arc_value f)
IsPricedAnswer t prices (answer.None w) = (e : Execution) × IsWitnessFor t w e × RefutesAll t e
