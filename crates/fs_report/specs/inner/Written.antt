-- What the parts of a witness's JSON text are, and that they say what they are made of.
use Rattle.std.specs.Prelude.{◌≡◌, List, map}
use Rattle.serde_json.specs.Data.{Data, string}
use Rattle.fs_kinds.specs.declared.reason.OperationName.{OperationName as Name}
use Rattle.fs_kinds.specs.ReasonText.{operation_name}
use Rattle.fs_model.specs.declared.step.Choice.{Choice}
use Rattle.fs_cert_evidence.specs.Texts.{choice_value, array_of}
use Rattle.fs_cert_evidence.specs.WitnessFile.{IsArrayOf, IsChoice, IsName}

-- the value is what is written for x, and says x
abbrev pub SaysAs : {A : Type 0} → (A → Data) → (Data → A → Type 0) → Data → A → Type 0
SaysAs f P d x = (d ≡ f x) × P d x

abbrev pub choices_value : List Choice → Data
choices_value choices = array_of (map choice_value choices)

abbrev pub name_value : Name → Data
name_value name = string (operation_name name)

-- the array of what is written for each item
abbrev pub SaysArray : {A : Type 0} → (A → Data) → (Data → A → Type 0) → Data → List A → Type 0
SaysArray f P = SaysAs (λ xs. array_of (map f xs)) (IsArrayOf P)

abbrev pub SaysChoice : Data → Choice → Type 0
SaysChoice = SaysAs choice_value IsChoice

abbrev pub SaysChoices : Data → List Choice → Type 0
SaysChoices = SaysArray choice_value IsChoice

abbrev pub SaysLists : Data → List (List Choice) → Type 0
SaysLists = SaysArray choices_value (IsArrayOf IsChoice)

abbrev pub SaysName : Data → Name → Type 0
SaysName = SaysAs name_value IsName

abbrev pub SaysNames : Data → List Name → Type 0
SaysNames = SaysArray name_value IsName
