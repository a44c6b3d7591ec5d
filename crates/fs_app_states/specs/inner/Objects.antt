-- The object of a test's states, by its parts.
use Rattle.std.specs.Prelude.{ℕ, List, [], ◌∷◌, codes}
use Rattle.serde_json.specs.Data.{Data, object}
use Rattle.fs_cert_evidence.specs.Texts.{members_of}
use Rattle.fs_model.specs.declared.test.Test.{Test}
use Rattle.fs_app_states.specs.Objects.{counted_members}

abbrev pub plain_object : Test → (condition : List ℕ) → (positive negative : ℕ) → (places states : Data) → Data
plain_object t condition positive negative places states =
    object (members_of (counted_members t condition positive negative places states []))

abbrev pub witnessed_object : Test → (condition : List ℕ) → (positive negative : ℕ) → (places states witnesses : Data) → Data
witnessed_object t condition positive negative places states witnesses =
    object (members_of (counted_members t condition positive negative places states ((codes "witnesses", witnesses) ∷ [])))
