-- Which question tests and prices ask, and the fault that they have.
use Rattle.std.specs.Prelude.{◌≡◌, ◌<◌, ℕ, List, length}
use Rattle.serde_json.specs.Data.{Data}
use Rattle.fs_kinds.specs.declared.fault.Fault.{Fault}
use Rattle.fs_kinds.specs.declared.fault.Fault.TheVariants.{Memory, NodeLimit}
use Rattle.fs_sites.specs.Questions.{Question}
use Rattle.fs_app_sites.specs.declared.content.Tests.{Tests}
use Rattle.fs_app_sites.specs.SitePrices.{AreSitePrices, IsSitePricesFault}
use Rattle.fs_app_sites.specs.Sites.{Content, AreContents, IsFilesFault, most_sites, names_of, question_of}

-- the files hold tests with copies of sites that have these names, the bytes hold prices, and they ask this question
pub record IsAsked (tests : Tests) (prices : List ℕ) (q : Question) (names : List (List ℕ)) : Type 0 where
  pub contents : List Content
  pub table : Data
  pub read : AreContents tests contents
  pub priced : AreSitePrices prices table
  pub named : names ≡ names_of contents
  pub asks : q ≡ question_of table names contents

-- the first fault: of the prices, else of the files, else that there are too many sites; want of memory may come in
-- place of any answer
pub data IsFirstAskedFault (tests : Tests) (prices : List ℕ) : Fault → Type 0 where
  of_prices : {fault : Fault} → IsSitePricesFault prices fault → IsFirstAskedFault tests prices fault
  of_files : {fault : Fault} (table : Data) → AreSitePrices prices table → IsFilesFault tests fault
      → IsFirstAskedFault tests prices fault
  of_sites : (table : Data) (contents : List Content) → AreSitePrices prices table → AreContents tests contents
      → most_sites < length (names_of contents) → IsFirstAskedFault tests prices NodeLimit
  of_memory : IsFirstAskedFault tests prices Memory
