-- Witness files: the JSON text (RFC 8259) of an object with two members. `choices` is an array with an array of choices
-- for each hart, and `order` an array of operations' names.
use Rattle.std.specs.Prelude.{◌≡◌, ◌<◌, ℕ, List, [], ◌∷◌, map, length, codes, Bool, true, false, nat_lt, ◌&&◌, if◌then◌else◌, Option, None, Some, option_map, ◌⊎◌}
use Rattle.std.specs.Str.{IsUtf8}
use Rattle.serde_json.specs.Data.{Data, Items, no_items, item}
use Rattle.serde_json.specs.Events.{members_len}
use Rattle.serde_json.specs.Find.{get, as_bool, as_str, as_array, as_object}
use Rattle.serde_json.specs.Read.{read}
use Rattle.fs_kinds.specs.declared.fault.Fault.{Fault}
use Rattle.fs_kinds.specs.declared.fault.Fault.TheVariants.{BadWitness, Memory}
use Rattle.fs_kinds.specs.declared.reason.OperationName.{OperationName as Name}
use Rattle.fs_kinds.specs.PlaceNames.{IsOperationName}
use Rattle.fs_kinds.specs.PriceObject.{whole}
use Rattle.fs_model.specs.declared.step.Choice.{Choice}
use Rattle.fs_model.specs.declared.step.Choice.TheVariants.{Word, Success, Failure}
use Rattle.fs_model.specs.Witness.{Witness}
use Rattle.fs_cert_evidence.specs.declared.witness.WitnessFile.{WitnessFile}

-- ---- arrays

-- the items stand for these values, one for one
abbrev pub EachItem : {A : Type 0} → (Data → A → Type 0) → Items → List A → Type 0
EachItem P no_items [] = Unit {0}
EachItem P no_items (x ∷ xs) = ⊥
EachItem P (item d ds) [] = ⊥
EachItem P (item d ds) (x ∷ xs) = P d x × EachItem P ds xs

abbrev pub IsArrayOf : {A : Type 0} → (Data → A → Type 0) → Data → List A → Type 0
IsArrayOf P d xs = (ds : Items) × (as_array d ≡ Some ds) × EachItem P ds xs

-- ---- choices: a loaded word is a number written as an integer, so 1.0 and 1e2 are none; an sc.w's success is true,
-- and its failure is false

abbrev pub most_word : ℕ
most_word = 4294967295

abbrev pub choice_from : Option Bool → Option ℕ → Option Choice
choice_from (Some true) word = Some Success
choice_from (Some false) word = Some Failure
choice_from None word = option_map Word word

abbrev pub choice_in : Data → Option Choice
choice_in d = choice_from (as_bool d) (whole 0 most_word d)

abbrev pub IsChoice : Data → Choice → Type 0
IsChoice d choice = choice_in d ≡ Some choice

-- ---- names of operations

abbrev pub IsName : Data → Name → Type 0
IsName d name = (text : List ℕ) × (as_str d ≡ Some text) × IsOperationName text name

-- both numbers are of one byte: no operation has another name
abbrev pub IsInRange : Name → Type 0
IsInRange name = (name.hart < 256) × (name.at < 256)

-- ---- witnesses

-- an object with these values at the two keys, and no further key; of a doubled key the last value counts
pub record IsPair (d lists names : Data) : Type 0 where
  pub keys : option_map members_len (as_object d) ≡ Some 2
  pub choices : get (codes "choices") d ≡ Some lists
  pub order : get (codes "order") d ≡ Some names

-- the value is an object that says this witness
pub record IsWitnessValue (d : Data) (w : Witness) : Type 0 where
  pub lists : Data
  pub names : Data
  pub pair : IsPair d lists names
  pub choices : IsArrayOf (IsArrayOf IsChoice) lists w.choices
  pub order : IsArrayOf IsName names w.order

-- the bytes are the JSON text of such an object, with a list of choices for each hart
pub record IsWitnessFile (harts : ℕ) (bytes : List ℕ) (w : Witness) : Type 0 where
  pub utf8 : IsUtf8 bytes
  pub value : Data
  pub reads : read bytes ≡ Some value
  pub says : IsWitnessValue value w
  pub lists : length w.choices ≡ harts

-- ---- what the reader keeps of it

-- the name where it is in range
abbrev pub in_range : Name → Option Name
in_range name = if nat_lt name.hart 256 && nat_lt name.at 256 then Some name else None

-- the reader's value says this witness, but for names that no operation has
pub record KeepsWitness (file : WitnessFile) (w : Witness) : Type 0 where
  pub choices : file.choices ≡ w.choices
  pub order : file.order ≡ map in_range w.order

abbrev pub IsWitnessFault : Fault → Type 0
IsWitnessFault fault = (fault ≡ BadWitness) ⊎ (fault ≡ Memory)
