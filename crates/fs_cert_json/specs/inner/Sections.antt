-- The values in a certificate.
use Rattle.std.specs.Prelude.{◌≡◌, ◌≤◌, List, length, Some, option_map, codes}
use Rattle.serde_json.specs.Data.{Data}
use Rattle.serde_json.specs.Events.{members_len}
use Rattle.serde_json.specs.Find.{get, as_array, as_object}
use Rattle.serde_json.specs.View.{items_view}
use Rattle.serde_json.specs.declared.value.Value.{Value}
use Rattle.fs_cert_evidence.specs.Cycles.{most_links}

-- an object with these values at the five keys, and no further key
pub record HasSections (d answer cycles tree version witnesses : Data) : Type 0 where
  pub keys : option_map members_len (as_object d) ≡ Some 5
  pub at_answer : get (codes "answer") d ≡ Some answer
  pub at_cycles : get (codes "cycles") d ≡ Some cycles
  pub at_tree : get (codes "tree") d ≡ Some tree
  pub at_version : get (codes "version") d ≡ Some version
  pub at_witnesses : get (codes "witnesses") d ≡ Some witnesses

-- as many values as a cycle has links
abbrev pub AreLinkValues : Data → List Value → Type 0
AreLinkValues d vs = (as_array d ≡ Some (items_view vs)) × (1 ≤ length vs) × (length vs ≤ most_links)
