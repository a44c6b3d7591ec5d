-- What a site label is, said by what stands in the cells of its hart.
use Rattle.std.specs.Prelude.{◌≡◌, ℕ, List, None}
use Rattle.fs_litmus_tokens.specs.Numbers.{number_of}
use Rattle.fs_litmus_syntax.specs.Cells.{Item}
use Rattle.fs_litmus_syntax.specs.Labels.{StandsAt, IsBranch}
use Rattle.fs_litmus.specs.SiteName.{site_name}
use Rattle.fs_litmus.specs.SiteLabels.{SiteLabel}

-- a label stands at this position in this line and names this site; and where it doesn't read as a number no branch of
-- the hart goes to it
pub record IsSiteLabel (hart : List Item) (s : SiteLabel) : Type 0 where
  pub word : List ℕ
  pub stands : StandsAt word s.at s.line hart
  pub name : s.name ≡ site_name word
  pub free : number_of word ≡ None → (number line : ℕ) → ¬ IsBranch word number line hart
