-- Certificate files of the fifth version, of questions over sites: the JSON text of an object with the five members of
-- the other versions.
use Rattle.std.specs.Prelude.{◌≡◌, ℕ, Some, option_map, List, codes}
use Rattle.std.specs.Str.{IsUtf8}
use Rattle.serde_json.specs.Data.{Data, no_items}
use Rattle.serde_json.specs.Events.{members_len}
use Rattle.serde_json.specs.Find.{get, as_array, as_object}
use Rattle.serde_json.specs.Read.{read}
use Rattle.fs_model.specs.Witness.{Witness}
use Rattle.fs_cert_evidence.specs.Certificate.{Answer, Inference}
use Rattle.fs_cert_evidence.specs.CertificateFile.{IsAnswerValue, IsInference, IsNumber}
use Rattle.fs_cert_evidence.specs.WitnessFile.{IsArrayOf, IsChoice, IsName}
use Rattle.fs_cert_json.specs.inner.Sections.{HasSections}

-- ---- what a file says

-- what is said of an execution of the test of this number
pub record TestWitness : Type 0 where
  pub test : ℕ
  pub witness : Witness

-- the cost and the words of the sites' fences, or none; for each test the inferences of a refutation; and the
-- executions that fences must break
pub record Said : Type 0 where
  pub answer : Answer
  pub cycles : List (List Inference)
  pub witnesses : List TestWitness

-- ---- witnesses

-- an object with these values at the three keys, and no further key; of a doubled key the last value counts
pub record HasParts (d lists names number : Data) : Type 0 where
  pub keys : option_map members_len (as_object d) ≡ Some 3
  pub at_choices : get (codes "choices") d ≡ Some lists
  pub at_order : get (codes "order") d ≡ Some names
  pub at_test : get (codes "test") d ≡ Some number

-- the values say the choices and the order of this witness, as in a witness file
abbrev pub SayWitness : (lists names : Data) → Witness → Type 0
SayWitness lists names w = IsArrayOf (IsArrayOf IsChoice) lists w.choices × IsArrayOf IsName names w.order

-- the value is an object that says this witness
pub record IsTestWitness (d : Data) (w : TestWitness) : Type 0 where
  pub lists : Data
  pub names : Data
  pub number : Data
  pub parts : HasParts d lists names number
  pub says : SayWitness lists names w.witness
  pub test : IsNumber number w.test

-- ---- the whole

-- the value is an object that says this, with an empty tree
pub record IsSitesValue (d : Data) (c : Said) : Type 0 where
  pub answer : Data
  pub cycles : Data
  pub tree : Data
  pub version : Data
  pub witnesses : Data
  pub sections : HasSections d answer cycles tree version witnesses
  pub says_answer : IsAnswerValue answer c.answer
  pub says_cycles : IsArrayOf (IsArrayOf IsInference) cycles c.cycles
  pub says_tree : as_array tree ≡ Some no_items
  pub says_version : IsNumber version 5
  pub says_witnesses : IsArrayOf IsTestWitness witnesses c.witnesses

-- the bytes are the JSON text of such an object
pub record IsSitesFile (bytes : List ℕ) (c : Said) : Type 0 where
  pub utf8 : IsUtf8 bytes
  pub value : Data
  pub reads : read bytes ≡ Some value
  pub says : IsSitesValue value c
