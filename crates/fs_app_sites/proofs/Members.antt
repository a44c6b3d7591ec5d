-- What holds of each member of a JSON object, one after the other.
use Rattle.std.proofs.Common.{ℕ, List, String, Global}
use Rattle.serde_json.specs.Data.{Data}
use Rattle.serde_json.specs.View.{members_view}
use Rattle.serde_json.specs.declared.value.Value.{Value}
use Rattle.fs_kinds.specs.PriceObject.{EachMember}

abbrev pub Entries : Type 0
Entries = List (String Global × Value)

-- of a reading that has come as far as `rest`: it holds of each member exactly where it does of each that is left
pub record Left (P : List ℕ → Data → Type 0) (all rest : Entries) : Type 0 where
  pub whole : EachMember P (members_view rest) → EachMember P (members_view all)
  pub part : EachMember P (members_view all) → EachMember P (members_view rest)
