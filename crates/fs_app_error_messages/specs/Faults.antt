-- What is said of the faults of a test file that can be told apart.
use Rattle.std.specs.Prelude.{◌≡◌, ◌≢◌, ◌<◌, ℕ, List, [], ◌∷◌, ◌++◌, ◌⊎◌}
use Rattle.fs_kinds.specs.declared.fault.Fault.{Fault}
use Rattle.fs_litmus.specs.Faults.{IsTestFault}
use Rattle.fs_app_error_messages.specs.Explained.{IsMessage}

-- the byte stays, or a blank is written over it, where it is a character of ASCII and no end of a line
abbrev pub IsBlank : ℕ → ℕ → Type 0
IsBlank byte new = (new ≡ byte) ⊎ ((new ≡ 32) × ((byte ≢ 10) × (byte < 128)))

-- as many bytes, some of them under blanks: each place has the line and column that it had
pub data IsBlanked : List ℕ → List ℕ → Type 0 where
  end : IsBlanked [] []
  byte : {b c : ℕ} {bs cs : List ℕ} → IsBlank b c → IsBlanked bs cs → IsBlanked (b ∷ bs) (c ∷ cs)

-- these bytes are left, and this is the first fault of a file of them
pub record IsNext (bytes left : List ℕ) (f : Fault) : Type 0 where
  pub blanked : IsBlanked bytes left
  pub is_fault : IsTestFault left f

-- The text is a message of the fault of the file, and then those of the fault of what is left under blanks, and so on:
-- each message is of the file in which its fault is the first.
pub data AreMessages (name : List ℕ) : (bytes : List ℕ) → Fault → (text : List ℕ) → Type 0 where
  last : {bytes text : List ℕ} {f : Fault} → IsMessage name bytes f text → AreMessages name bytes f text
  more : {bytes left first rest : List ℕ} {f g : Fault} → IsMessage name bytes f first → IsNext bytes left g → AreMessages name left g rest → AreMessages name bytes f (first ++ rest)

-- the text begins with the message of the first fault of the file
pub record AreToldOf (name bytes text : List ℕ) : Type 0 where
  pub fault : Fault
  pub is_fault : IsTestFault bytes fault
  pub are_messages : AreMessages name bytes fault text
