-- What `solve --sites` answers, and the fault that it answers.
use Rattle.std.specs.Prelude.{◌≡◌, Bool, ℕ, List}
use Rattle.serde_json.specs.Data.{Data}
use Rattle.fs_kinds.specs.declared.fault.Fault.{Fault}
use Rattle.fs_kinds.specs.declared.fault.Fault.TheVariants.{Memory}
use Rattle.fs_app_io.specs.declared.status.Status.{Status}
use Rattle.fs_sites.specs.Answers.{IsAnswer, IsSolveFault}
use Rattle.fs_sites.specs.declared.answer.Answer.{Answer}
use Rattle.fs_app_sites.specs.declared.content.Tests.{Tests}
use Rattle.fs_app_sites.specs.Printed.{answer_text, status_of}
use Rattle.fs_app_sites.specs.SitePrices.{AreSitePrices, IsSitePricesFault}
use Rattle.fs_app_sites.specs.Sites.{Content, AreContents, IsFilesFault, names_of, question_of}

-- the files hold tests with copies of sites, the bytes hold prices, and the answer to their question is printed
pub record IsSolved (is_json : Bool) (tests : Tests) (prices text : List ℕ) (status : Status) : Type 0 where
  pub contents : List Content
  pub table : Data
  pub read : AreContents tests contents
  pub priced : AreSitePrices prices table
  pub found : Answer
  pub answer : IsAnswer (question_of table (names_of contents) contents) found
  pub shown : text ≡ answer_text is_json tests (names_of contents) found
  pub ends : status ≡ status_of found

-- the first fault: of the prices, else of the files, else of the search; want of memory may come in place of any answer
pub data IsFirstSitesFault (tests : Tests) (prices : List ℕ) : Fault → Type 0 where
  of_prices : {fault : Fault} → IsSitePricesFault prices fault → IsFirstSitesFault tests prices fault
  of_files : {fault : Fault} (table : Data) → AreSitePrices prices table → IsFilesFault tests fault
      → IsFirstSitesFault tests prices fault
  of_search : {fault : Fault} (table : Data) (contents : List Content) → AreSitePrices prices table
      → AreContents tests contents → IsSolveFault (question_of table (names_of contents) contents).parts fault
      → IsFirstSitesFault tests prices fault
  of_memory : IsFirstSitesFault tests prices Memory
