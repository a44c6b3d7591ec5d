-- What a search for the offers that prices make says of the test and the prices.
use Rattle.std.proofs.Common.{◌≡◌, ℕ, ap, sym, subst}
use Rattle.fs_kinds.specs.PriceTable.{PriceTable, IsPriceTable, cost}
use Rattle.fs_model.specs.declared.test.Test.{Test}
use Rattle.fs_model.specs.Allows.{IsCheapest}
use Rattle.fs_cert_evidence.specs.Evidence.{Refuted}
use Rattle.fs_board_offers.specs.Questions.{Question, HasTop, IsAtSlots}
use Rattle.fs_board_offers.proofs.Priced.{has-top, same-slots}
use Rattle.fs_board_search.specs.Answers.{IsAnswer}
use Rattle.fs_board_search.specs.Priced.{IsPricedAnswer, question_of}
use Rattle.fs_board_search.specs.declared.answer.Answer.{Answer}
use Rattle.fs_board_search.specs.declared.answer.Answer.TheVariants as answer
use Rattle.fs_board_search.proofs.PricedAnswers.{priced-answer}

module _ (t : Test) (prices : PriceTable) (asked : Question) (is : asked ≡ question_of t prices) where
  pub asked-test : asked.test ≡ t
  asked-test = ap (λ (q : Question). q.test) is

  pub asked-slots : IsAtSlots asked
  asked-slots = subst IsAtSlots (sym is) (record { slots = same-slots t prices })

  pub asked-top : IsPriceTable prices → HasTop asked.offers
  asked-top table = subst (λ (q : Question). HasTop q.offers) (sym is) (has-top t prices table)

  -- an answer that is a placement, with its cost
  pub asked-best : (a : Answer) (f : _) (n : ℕ) (x : Refuted) → a ≡ answer.Fenced f n → x ≡ f.value → IsAnswer asked.test asked.offers a
      → IsCheapest t prices x.placement × (n ≡ cost prices x.placement)
  asked-best a f n x fenced same holds =
      let there = subst (IsPricedAnswer t prices) fenced (priced-answer t prices asked a is holds) in
      subst (λ (y : Refuted). IsCheapest t prices y.placement × (n ≡ cost prices y.placement)) (sym same) (there.0, there.1)
