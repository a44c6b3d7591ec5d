-- Certificate files: the JSON text (RFC 8259) of an object with the members `answer`, `cycles`, `tree`, `version` and
-- `witnesses`.
use Rattle.std.specs.Prelude.{◌≡◌, ℕ, ◌<◌, ◌≤◌, ◌^◌, Bool, true, false, Some, option_map, List, [], ◌∷◌, All, length, codes}
use Rattle.std.specs.List.{list_all}
use Rattle.std.specs.Str.{IsUtf8}
use Rattle.serde_json.specs.Data.{Data, Items, no_items, item}
use Rattle.serde_json.specs.Events.{members_len}
use Rattle.serde_json.specs.Find.{get, as_str, as_array, as_object}
use Rattle.serde_json.specs.Read.{read}
use Rattle.fs_kinds.specs.PriceObject.{whole}
use Rattle.fs_kinds.specs.declared.reason.OperationName.{OperationName as Name}
use Rattle.fs_model.specs.declared.step.Choice.{Choice}
use Rattle.fs_model.specs.declared.step.Choice.TheVariants.{Word}
use Rattle.fs_model.specs.Preserved.{Rule1, Rule2, Rule3, Rule4, Rule5, Rule6, Rule7, Rule8, Rule9, Rule10, Rule11, Rule12, Rule13}
use Rattle.fs_cert_evidence.specs.Judged.{Cause, Preserved, ReadsFrom, Coherence, FromReads}
use Rattle.fs_cert_evidence.specs.Certificate.{Certificate, Version, First, Second, Fourth, Answer, Fenced, NoneForbids, Cycles, Listed, Inferred, Link, Inference, ByChoice, BySource, ByOrder, ByCases, Filter, Cycle, Stale, Reversed, Parted, Item, SplitAt, Costly, Refuted, Bounded}
use Rattle.fs_cert_evidence.specs.Cycles.{most_links}
use Rattle.fs_cert_evidence.specs.WitnessFile.{EachItem, IsArrayOf, IsName, IsInRange, IsWitnessValue}

-- a whole number of 64 bits, written as an integer
abbrev pub most_number : ℕ
most_number = 18446744073709551615

abbrev pub IsNumber : Data → ℕ → Type 0
IsNumber d n = whole 0 most_number d ≡ Some n

abbrev pub IsText : Data → List ℕ → Type 0
IsText d text = as_str d ≡ Some text

-- an array of these two values
abbrev pub AreTwo : Data → (first second : Data) → Type 0
AreTwo d first second = as_array d ≡ Some (item first (item second no_items))

-- ---- answers: "none", or an object with a cost and the words of the fences; whether these are FENCE words is no
-- matter of the form

abbrev pub IsAnswerValue : Data → Answer → Type 0
IsAnswerValue d NoneForbids = IsText d (codes "none")
IsAnswerValue d (Fenced cost fences) =
    (price : Data) × (words : Data) × (option_map members_len (as_object d) ≡ Some 2)
    × (get (codes "cost") d ≡ Some price) × (get (codes "fences") d ≡ Some words)
    × IsNumber price cost × IsArrayOf IsText words fences

-- ---- cycles

abbrev pub cause_word : Cause → List ℕ
cause_word (Preserved Rule1) = codes "p1"
cause_word (Preserved Rule2) = codes "p2"
cause_word (Preserved Rule3) = codes "p3"
cause_word (Preserved Rule4) = codes "p4"
cause_word (Preserved Rule5) = codes "p5"
cause_word (Preserved Rule6) = codes "p6"
cause_word (Preserved Rule7) = codes "p7"
cause_word (Preserved Rule8) = codes "p8"
cause_word (Preserved Rule9) = codes "p9"
cause_word (Preserved Rule10) = codes "p10"
cause_word (Preserved Rule11) = codes "p11"
cause_word (Preserved Rule12) = codes "p12"
cause_word (Preserved Rule13) = codes "p13"
cause_word ReadsFrom = codes "rf"
cause_word Coherence = codes "co"
cause_word FromReads = codes "fr"

-- an operation's name, and why it comes before the next one
abbrev pub IsLink : Data → Link → Type 0
IsLink d link =
    (name : Data) × (why : Data) × AreTwo d name why × IsName name link.operation × IsText why (cause_word link.cause)

abbrev pub IsCycleValue : Data → List Link → Type 0
IsCycleValue d links = IsArrayOf IsLink d links × (1 ≤ length links) × (length links ≤ most_links)

-- ---- inferences of a refutation: an array with a letter and what the inference speaks of; or a cycle. Names and harts
-- are in range.

abbrev pub IsNameInRange : Data → Name → Type 0
IsNameInRange d name = IsName d name × IsInRange name

-- an array with this letter and these names
abbrev pub IsOfNames : (letter : List ℕ) → Data → List Name → Type 0
IsOfNames letter d names =
    (first : Data) × (others : Items) × (as_array d ≡ Some (item first others))
    × IsText first letter × EachItem IsNameInRange others names

-- an array with this letter and this number
abbrev pub IsOfNumber : (letter : List ℕ) → Data → ℕ → Type 0
IsOfNumber letter d n = (first : Data) × (second : Data) × AreTwo d first second × IsText first letter × IsNumber second n

abbrev pub IsInference : Data → Inference → Type 0
IsInference d (ByChoice name) = IsOfNames (codes "c") d (name ∷ [])
IsInference d (BySource load) = IsOfNames (codes "s") d (load ∷ [])
IsInference d (ByOrder first second) = IsOfNames (codes "o") d (first ∷ second ∷ [])
IsInference d (ByCases condition) = IsOfNumber (codes "d") d condition
IsInference d (Filter hart) = IsOfNumber (codes "f") d hart × (hart < 256)
IsInference d (Cycle links) = IsCycleValue d links × All (λ link. IsInRange link.operation) links
IsInference d (Stale load store) = IsOfNames (codes "l") d (load ∷ store ∷ [])
IsInference d (Reversed load store) = IsOfNames (codes "a") d (load ∷ store ∷ [])
IsInference d (Parted load store other) = IsOfNames (codes "a") d (load ∷ store ∷ other ∷ [])

-- in the first two versions cycles, in the fourth inferences
abbrev pub AreCycles : Version → Data → Cycles → Type 0
AreCycles First d (Listed cycles) = IsArrayOf IsCycleValue d cycles
AreCycles Second d (Listed cycles) = IsArrayOf IsCycleValue d cycles
AreCycles Fourth d (Inferred inferences) = IsArrayOf IsInference d inferences
AreCycles version d other = ⊥

-- ---- trees: the number of a slot; "c"; ["w", a witness's number]; and but for the first version ["b", [witnesses'
-- numbers]]

abbrev pub IsItem : Version → Data → Item → Type 0
IsItem version d (SplitAt slot) = IsNumber d slot
IsItem version d Costly = IsText d (codes "c")
IsItem version d (Refuted j) = (letter : Data) × (number : Data) × AreTwo d letter number × IsText letter (codes "w") × IsNumber number j
IsItem First d (Bounded js) = ⊥
IsItem version d (Bounded js) =
    (letter : Data) × (numbers : Data) × AreTwo d letter numbers × IsText letter (codes "b")
    × IsArrayOf IsNumber numbers js × (1 ≤ length js)

-- ---- what a file can say

-- witnesses bound no leaf in the first version, and there is one at least
abbrev pub is_sayable : Version → Item → Bool
is_sayable First (Bounded js) = false
is_sayable version (Bounded []) = false
is_sayable version leaf = true

abbrev pub numbers_in : Item → List ℕ
numbers_in (SplitAt slot) = slot ∷ []
numbers_in Costly = []
numbers_in (Refuted j) = j ∷ []
numbers_in (Bounded js) = js

abbrev pub cost_in : Answer → ℕ
cost_in NoneForbids = 0
cost_in (Fenced cost fences) = cost

abbrev pub IsSayableCycle : List Link → Type 0
IsSayableCycle links = (1 ≤ length links) × (length links ≤ most_links)

-- names and harts are in range
abbrev pub IsSayableInference : Inference → Type 0
IsSayableInference (ByChoice name) = IsInRange name
IsSayableInference (BySource load) = IsInRange load
IsSayableInference (ByOrder first second) = IsInRange first × IsInRange second
IsSayableInference (ByCases condition) = condition ≤ most_number
IsSayableInference (Filter hart) = hart < 256
IsSayableInference (Cycle links) = IsSayableCycle links × All (λ link. IsInRange link.operation) links
IsSayableInference (Stale load store) = IsInRange load × IsInRange store
IsSayableInference (Reversed load store) = IsInRange load × IsInRange store
IsSayableInference (Parted load store other) = IsInRange load × IsInRange store × IsInRange other

abbrev pub AreSayable : Version → Cycles → Type 0
AreSayable First (Listed cycles) = All IsSayableCycle cycles
AreSayable Second (Listed cycles) = All IsSayableCycle cycles
AreSayable Fourth (Inferred inferences) = All IsSayableInference inferences
AreSayable version other = ⊥

-- a loaded word is one of 32 bits
abbrev pub IsChoiceOfWord : Choice → Type 0
IsChoiceOfWord (Word w) = w < 2 ^ 32
IsChoiceOfWord choice = Unit {0}

-- Not each certificate is that of a file: what is written must be one of these.
pub record CanBeSaid (c : Certificate) : Type 0 where
  pub cost : cost_in c.answer ≤ most_number
  pub cycles : AreSayable c.version c.cycles
  pub items : list_all (is_sayable c.version) c.tree ≡ true
  pub numbers : All (λ leaf. All (λ n. n ≤ most_number) (numbers_in leaf)) c.tree
  pub words : All (λ w. All (λ choices. All IsChoiceOfWord choices) w.choices) c.witnesses

-- ---- the whole

abbrev pub version_number : Version → ℕ
version_number First = 1
version_number Second = 2
version_number Fourth = 4

-- the value is an object that says this certificate, and has no further key; of a doubled key the last value counts
pub record IsCertificateValue (d : Data) (c : Certificate) : Type 0 where
  pub answer : Data
  pub cycles : Data
  pub tree : Data
  pub version : Data
  pub witnesses : Data
  pub keys : option_map members_len (as_object d) ≡ Some 5
  pub at_answer : get (codes "answer") d ≡ Some answer
  pub at_cycles : get (codes "cycles") d ≡ Some cycles
  pub at_tree : get (codes "tree") d ≡ Some tree
  pub at_version : get (codes "version") d ≡ Some version
  pub at_witnesses : get (codes "witnesses") d ≡ Some witnesses
  pub says_answer : IsAnswerValue answer c.answer
  pub says_cycles : AreCycles c.version cycles c.cycles
  pub says_tree : IsArrayOf (IsItem c.version) tree c.tree
  pub says_version : IsNumber version (version_number c.version)
  pub says_witnesses : IsArrayOf IsWitnessValue witnesses c.witnesses

-- the bytes are the JSON text of such an object
pub record IsCertificateFile (bytes : List ℕ) (c : Certificate) : Type 0 where
  pub utf8 : IsUtf8 bytes
  pub value : Data
  pub reads : read bytes ≡ Some value
  pub says : IsCertificateValue value c
