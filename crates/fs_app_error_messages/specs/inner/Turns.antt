-- Messages of a file, one after the other.
use Rattle.std.specs.Prelude.{◌≡◌, ℕ, List, ◌++◌}
use Rattle.fs_kinds.specs.declared.fault.Fault.{Fault}
use Rattle.fs_app_error_messages.specs.Faults.{AreMessages}

-- what is added to the text is such a text
pub record Adds (P : List ℕ → Type 0) (old new : List ℕ) : Type 0 where
  pub added : List ℕ
  pub is : P added
  pub new_is : new ≡ old ++ added

-- with messages of what is left behind it, the text is one of messages of the file
abbrev pub LeadsTo : (name bytes : List ℕ) → Fault → (left : List ℕ) → Fault → (text : List ℕ) → Type 0
LeadsTo name bytes f left g text = (rest : List ℕ) → AreMessages name left g rest → AreMessages name bytes f (text ++ rest)
