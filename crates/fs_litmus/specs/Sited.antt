-- Which site labels a test file has, and what may be wrong with them.
use Rattle.std.specs.Prelude.{◌≡◌, ℕ, List, Some, None}
use Rattle.fs_kinds.specs.declared.fault.Fault.{Fault}
use Rattle.fs_kinds.specs.declared.fault.Fault.TheVariants.{BadLabel}
use Rattle.fs_litmus_syntax.specs.Form.{Form}
use Rattle.fs_litmus_syntax.specs.Grammar.{Syntax}
use Rattle.fs_litmus.specs.Reads.{HasForm}
use Rattle.fs_litmus.specs.Faults.{IsBroken}
use Rattle.fs_litmus.specs.SiteLabels.{SiteLabel, site_labels_of, clash}

-- the bytes have a form, and these are its site labels, each at a place of its own
pub record HasSites (bytes : List ℕ) (labels : List SiteLabel) : Type 0 where
  pub form : Form
  pub syntax_of : Syntax
  pub has_form : HasForm bytes form syntax_of
  pub are_labels : labels ≡ site_labels_of form
  pub apart : clash labels ≡ None

-- the bytes have no form, or this is the line of a second site label at a place
pub data IsSiteFault (bytes : List ℕ) : Fault → Type 0 where
  broken : {line : ℕ} {f : Fault} → IsBroken bytes line → IsSiteFault bytes f
  again : {form : Form} {s : Syntax} {line : ℕ} → HasForm bytes form s → clash (site_labels_of form) ≡ Some line → IsSiteFault bytes (BadLabel line)
