-- What `solve --write` prints.
use Rattle.std.proofs.Common.{◌≡◌, ◌∙◌, ℕ, List, ap, subst, sym}
use Rattle.fs_kinds.specs.declared.placement.Entry.{Entry}
use Rattle.fs_model.specs.declared.test.Test.{Test}
use Rattle.fs_litmus.specs.Reads.{Reads}
use Rattle.fs_cert_evidence.specs.Evidence.{placement_in}
use Rattle.fs_board_offers.specs.Questions.{Question}
use Rattle.fs_board_search.specs.Priced.{IsPricedAnswer}
use Rattle.fs_board_search.proofs.PricedAnswers.{priced-answer}
use Rattle.fs_pool_workers.specs.Answers.{Solved}
use Rattle.fs_pool_workers.specs.Forms as answer
use Rattle.fs_app_solve_and_check.specs.Found.{IsFound}
use Rattle.fs_app_file_text.specs.Inserted.{IsInserted}
use Rattle.fs_app.specs.Answers.{IsFencedFile}

module _ (test prices : List ℕ) (limit : ℕ) (asked : Question) (s : Solved) (is : IsFound test prices limit asked s) where
  -- the bytes read as the test of the question
  pub reads-asked : Reads test asked.test
  reads-asked = subst (λ (q : Question). Reads test q.test) (sym is.found.question) is.reads

  -- with the fences of the answer
  pub fenced-file : (f : _) (n : ℕ) (own : Test) (p : List Entry) (text : List ℕ) → s.answer ≡ answer.Fenced f n
      → own ≡ asked.test → p ≡ placement_in f → IsInserted test own p text → IsFencedFile test prices text
  fenced-file f n own p text same own-is p-is inserted =
      let priced : IsPricedAnswer is.the_test is.table s.answer =
      priced-answer is.the_test is.table asked s.answer is.found.question is.found.answer in
      let here : IsInserted test is.the_test (placement_in f) text =
      subst (λ (t : Test). IsInserted test t (placement_in f) text)
      (own-is ∙ ap (λ (q : Question). q.test) is.found.question) (subst (λ (q : List Entry). IsInserted test own q text) p-is inserted) in
      record {
        the_test = is.the_test;
        table = is.table;
        placement = placement_in f;
        reads = is.reads;
        priced = is.priced;
        cheapest = (subst (IsPricedAnswer is.the_test is.table) same priced).0;
        inserted = here;
      }
