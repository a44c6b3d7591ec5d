-- An answer that was found, and how it is printed.
use Rattle.std.specs.Prelude.{◌≡◌, ℕ, ◌==◌, Bool, false, List}
use Rattle.fs_kinds.specs.PriceTable.{PriceTable, IsPriceTable}
use Rattle.fs_model.specs.declared.test.Test.{Test}
use Rattle.fs_model.specs.Test.{IsBounded, IsTest}
use Rattle.fs_litmus.specs.Reads.{Reads}
use Rattle.fs_cert_evidence.specs.Sizes.{HasNoRunFault}
use Rattle.fs_cert_evidence.specs.Evidence.{placement_in}
use Rattle.fs_cert_evidence.specs.Texts.{fenced_lines, none_lines}
use Rattle.fs_board_offers.specs.Questions.{Question, IsAtSlots}
use Rattle.fs_board_search.specs.Priced.{IsPricedAnswer, question_of}
use Rattle.fs_pool_workers.specs.Answers.{Answer, Solved, IsAnswer, Rests, placement_of}
use Rattle.fs_pool_workers.specs.Forms as answer
use Rattle.serde_json.specs.Data.{Data}
use Rattle.fs_report.specs.Objects.{fenced_value, none_value}
use Rattle.fs_app_io.specs.declared.status.Status.{Status}
use Rattle.fs_app_place_and_order.specs.Place.{ArePricesOf}
use Rattle.fs_app_solve_and_check.specs.Solve.{PrintsPlaced}

-- the bytes read as the question's test, and hold prices that make its offers
pub record IsAskedBy (test prices : List ℕ) (asked : Question) : Type 0 where
  pub table : PriceTable
  pub reads : Reads test asked.test
  pub priced : ArePricesOf prices table
  pub is_test : IsTest asked.test
  pub is_table : IsPriceTable table
  pub asked_is : asked ≡ question_of asked.test table

-- the answer to this question, with what it rests on
pub record IsFoundFor (q : Question) (limit : ℕ) (asked : Question) (s : Solved) : Type 0 where
  pub question : asked ≡ q
  pub at_slots : IsAtSlots asked
  pub bounded : IsBounded asked.test
  pub listed : HasNoRunFault asked.test
  pub answer : IsAnswer asked.test asked.offers s.answer
  pub rests : Rests asked limit s

-- the bytes read as the test of the question, and hold prices that make its offers
pub record IsFound (test prices : List ℕ) (limit : ℕ) (asked : Question) (s : Solved) : Type 0 where
  pub the_test : Test
  pub table : PriceTable
  pub reads : Reads test the_test
  pub priced : ArePricesOf prices table
  pub found : IsFoundFor (question_of the_test table) limit asked s

-- ---- in print

-- what is printed is the answer, of whatever test and prices it is one
abbrev pub Prints : Answer → List ℕ → Status → Type 0
Prints a text status = (t : Test) (prices : PriceTable) → IsPricedAnswer t prices a → PrintsPlaced t prices (placement_of a) text status

abbrev pub lines_of : Answer → List ℕ
lines_of (answer.Fenced f n) = fenced_lines n (placement_in f)
lines_of (answer.None w) = none_lines w.witness

-- as a JSON object
abbrev pub value_of : Answer → Data
value_of (answer.Fenced f n) = fenced_value n (placement_in f)
value_of (answer.None w) = none_value w.witness

-- a placement that costs nothing
abbrev pub is_free : Answer → Bool
is_free (answer.Fenced f n) = n == 0
is_free (answer.None w) = false
