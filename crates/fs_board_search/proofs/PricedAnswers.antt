-- What is answered for the offers that prices make, in the words of prices.
use Rattle.std.proofs.Common.{◌≡◌, ◌<◌, ℕ, inl, inr, subst, ◌∙◌}
use Rattle.fs_kinds.specs.declared.fault.Fault.{Fault}
use Rattle.fs_kinds.specs.PriceTable.{PriceTable}
use Rattle.fs_model.specs.declared.test.Test.{Test}
use Rattle.fs_cert_evidence.specs.Evidence.{placement_in}
use Rattle.fs_cert_evidence.specs.Sizes.{IsUnanswered}
use Rattle.fs_board_offers.specs.Questions.{Question}
use Rattle.fs_board_offers.specs.Offers.{offers_of}
use Rattle.fs_board_offers.proofs.Priced.{same-slots, same-cost, same-cheapest, same-size}
use Rattle.fs_board_search.specs.Answers.{IsAnswer, IsSolveFault}
use Rattle.fs_board_search.specs.Priced.{IsPricedAnswer, question_of}
use Rattle.fs_board_search.specs.declared.answer.Answer.{Answer}
use Rattle.fs_board_search.specs.declared.answer.Answer.TheVariants as answer

answer-there : (t : Test) (prices : PriceTable) (a : Answer) → IsAnswer t (offers_of t prices) a → IsPricedAnswer t prices a
answer-there t prices (answer.Fenced f n) is =
    let over = is.0.placement.slots ∙ same-slots t prices in
    ((same-cheapest t prices (placement_in f)).0 is.0, is.1 ∙ same-cost t prices (placement_in f) over, is.2)
answer-there t prices (answer.None w) is = is

pub priced-answer : (t : Test) (prices : PriceTable) (q : Question) (a : Answer) → q ≡ question_of t prices → IsAnswer q.test q.offers a
    → IsPricedAnswer t prices a
priced-answer t prices q a same is = answer-there t prices a (subst (λ (x : Question). IsAnswer x.test x.offers a) same is)

fault-there : (t : Test) (prices : PriceTable) (limit : ℕ) (f : Fault) → IsSolveFault (question_of t prices) limit f → IsUnanswered t prices limit f
fault-there t prices limit f fault = elim fault [
  | inl of ↦ inl of
  | inr ends ↦ inr (
    ends.0,
    record {
      needed = ends.1.needed;
      enough = ends.1.enough;
      large = subst (λ n. limit < n) (same-size t prices) ends.1.large;
    },
    ends.2,
  )
]

pub priced-fault : (t : Test) (prices : PriceTable) (q : Question) (limit : ℕ) (f : Fault) → q ≡ question_of t prices → IsSolveFault q limit f
    → IsUnanswered t prices limit f
priced-fault t prices q limit f same fault = fault-there t prices limit f (subst (λ (x : Question). IsSolveFault x limit f) same fault)
