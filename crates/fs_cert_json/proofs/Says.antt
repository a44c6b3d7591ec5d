-- What is written for a certificate says it, and nests no deeper than a reader goes.
use Rattle.std.proofs.Common.{◌≡◌, ℕ, ◌<◌, ◌≤◌, ◌^◌, Bool, true, List, [], ◌∷◌, All, Some, option_map, map, refl, ap, arith, codes}
use Rattle.std.specs.List.{list_all}
use Rattle.std.proofs.lemmas.Bool.{and_parts}
use Rattle.std.proofs.lemmas.Bool.Decides.{nat_tests}
use Rattle.std.proofs.lemmas.List.Elements.{All-nil, All-cons, All-head, All-tail}
use Rattle.serde_json.specs.Data.{Data, string, depth, items_depth}
use Rattle.serde_json.specs.Read.{max_depth}
use Rattle.fs_kinds.specs.declared.reason.OperationName.{OperationName as Name}
use Rattle.fs_kinds.specs.PriceObject.{whole}
use Rattle.fs_kinds.specs.ReasonText.{operation_name}
use Rattle.fs_kinds.proofs.PlaceNames.{name-printed}
use Rattle.fs_model.specs.declared.step.Choice.{Choice}
use Rattle.fs_model.specs.declared.step.Choice.TheVariants.{Word, Success, Failure}
use Rattle.fs_model.specs.Witness.{Witness}
use Rattle.fs_cert_evidence.specs.Certificate.{Certificate, Version, First, Second, Fourth, Answer, Fenced, NoneForbids, Cycles, Listed, Inferred, listed_in, Link, Inference, ByChoice, BySource, ByOrder, ByCases, Filter, Cycle, Stale, Reversed, Parted, Item, SplitAt, Costly, Refuted, Bounded}
use Rattle.fs_cert_evidence.specs.CertificateFile.{most_number, IsNumber, IsText, IsAnswerValue, cause_word, IsLink, IsCycleValue, IsNameInRange, IsInference, AreCycles, IsItem, is_sayable, IsSayableCycle, IsSayableInference, AreSayable, numbers_in, cost_in, IsChoiceOfWord, CanBeSaid, version_number, IsCertificateValue}
use Rattle.fs_cert_evidence.specs.Texts.{items_of, array_of, number, choice_value, answer_value, link_value, inference_value, cycles_value, item_value, witness_value, certificate_value}
use Rattle.fs_cert_evidence.specs.WitnessFile.{EachItem, IsArrayOf, IsChoice, IsName, IsWitnessValue, most_word}
use Rattle.fs_cert_evidence.specs.WitnessFile.{IsInRange}
use Rattle.fs_cert_json.specs.Kept.{AreInRange, AreInRangeLinks, AreInRangeNames}
use Rattle.fs_cert_json.specs.inner.Written.{choices_value, cycle_value, name_value}

-- ---- arrays

all_both : {X : Type 0} (P Q : X → Type 0) (xs : List X) → All P xs → All Q xs → All (λ x. P x × Q x) xs
all_both P Q xs p q = λ k d low. (p k d low, q k d low)

all_pass : {X : Type 0} (p : X → Bool) (xs : List X) → list_all p xs ≡ true → All (λ x. p x ≡ true) xs
all_pass p [] e = All-nil (λ x. p x ≡ true)
all_pass p (x ∷ xs) e = let parts = and_parts (p x) (list_all p xs) e in All-cons (λ y. p y ≡ true) x xs parts.0 (all_pass p xs parts.1)

module _ {X : Type 0} (R : X → Type 0) (value : X → Data) (P : Data → X → Type 0) (says : (x : X) → R x → P (value x) x) where
  each_said : (xs : List X) → All R xs → EachItem P (items_of (map value xs)) xs
  each_said [] all = tt
  each_said (x ∷ xs) all = (says x (All-head R x xs all), each_said xs (All-tail R x xs all))

  array_said : (xs : List X) → All R xs → IsArrayOf P (array_of (map value xs)) xs
  array_said xs all = (items_of (map value xs), refl, each_said xs all)

-- ---- parts

number_said : (n : ℕ) → n ≤ most_number → IsNumber (number n) n
number_said n low = grind (arith, nat_tests)

word_said : (n : ℕ) → n < 2 ^ 32 → whole 0 most_word (number n) ≡ Some n
word_said n low = grind (arith, nat_tests)

abbrev text_of : List ℕ → Data
text_of text = string text

answer_said : (answer : Answer) → cost_in answer ≤ most_number → IsAnswerValue (answer_value answer) answer
answer_said NoneForbids low = refl
answer_said (Fenced cost fences) low =
    (number cost, array_of (map text_of fences), refl, refl, refl, number_said cost low, array_said (λ text. Unit {0}) text_of IsText (λ text u. refl) fences (λ k d l. tt))

name_said : (name : Name) → IsInRange name → IsName (name_value name) name
name_said name low = (operation_name name, refl, name-printed name low.0 low.1)

link_said : (link : Link) → IsInRange link.operation → IsLink (link_value link) link
link_said link low = (name_value link.operation, string (cause_word link.cause), refl, name_said link.operation low, refl)

cycle_said : (links : List Link) → AreInRangeLinks links × IsSayableCycle links → IsCycleValue (cycle_value links) links
cycle_said links h = (array_said (λ link. IsInRange link.operation) link_value IsLink link_said links h.0, h.1.0, h.1.1)

whole_name_said : (name : Name) → IsInRange name → IsNameInRange (name_value name) name
whole_name_said name low = (name_said name low, low)

inference_said : (inference : Inference) → IsSayableInference inference
    → IsInference (inference_value inference) inference
inference_said (ByChoice name) h = (string (codes "c"), _, refl, refl, (whole_name_said name h, tt))
inference_said (BySource load) h = (string (codes "s"), _, refl, refl, (whole_name_said load h, tt))
inference_said (ByOrder first second) h = (
  string (codes "o"),
  _,
  refl,
  refl,
  (whole_name_said first h.0, (whole_name_said second h.1, tt)),
)
inference_said (ByCases condition) h = (string (codes "d"), number condition, refl, refl, number_said condition h)
inference_said (Filter hart) h = ((string (codes "f"), number hart, refl, refl, number_said hart (omega arith)), h)
inference_said (Cycle links) h = (cycle_said links (h.1, h.0), h.1)
inference_said (Stale load store) h = (
  string (codes "l"),
  _,
  refl,
  refl,
  (whole_name_said load h.0, (whole_name_said store h.1, tt)),
)
inference_said (Reversed load store) h = (
  string (codes "a"),
  _,
  refl,
  refl,
  (whole_name_said load h.0, (whole_name_said store h.1, tt)),
)
inference_said (Parted load store other) h = (
  string (codes "a"),
  _,
  refl,
  refl,
  (
    whole_name_said load h.0,
    (
      whole_name_said store h.1,
      (whole_name_said other h.2, tt),
    ),
  ),
)

list_said : (cycles : List (List Link)) → All IsSayableCycle cycles → All AreInRangeLinks cycles
    → IsArrayOf IsCycleValue (array_of (map cycle_value cycles)) cycles
list_said cycles can names =
    array_said (λ links. AreInRangeLinks links × IsSayableCycle links) cycle_value IsCycleValue cycle_said cycles
    (all_both AreInRangeLinks IsSayableCycle cycles names can)

cycles_said : (version : Version) (cycles : Cycles) → AreSayable version cycles
    → All AreInRangeLinks (listed_in cycles) → AreCycles version (cycles_value cycles) cycles
cycles_said First (Listed cycles) can names = list_said cycles can names
cycles_said First (Inferred inferences) can names = absurd can
cycles_said Second (Listed cycles) can names = list_said cycles can names
cycles_said Second (Inferred inferences) can names = absurd can
cycles_said Fourth (Listed cycles) can names = absurd can
cycles_said Fourth (Inferred inferences) can names = array_said IsSayableInference inference_value IsInference
    inference_said inferences can

abbrev IsLow : ℕ → Type 0
IsLow n = n ≤ most_number

bounded_said : (j : ℕ) (js : List ℕ) → All IsLow (j ∷ js)
    → IsItem Second (item_value (Bounded (j ∷ js))) (Bounded (j ∷ js))
bounded_said j js low = (
  string (codes "b"),
  array_of (map number (j ∷ js)),
  refl,
  refl,
  array_said IsLow number IsNumber number_said
      (j ∷ js) low,
  omega arith,
)

item_said : (version : Version) (leaf : Item) → (is_sayable version leaf ≡ true) × All IsLow (numbers_in leaf) → IsItem version (item_value leaf) leaf
item_said version (SplitAt slot) h = number_said slot (All-head IsLow slot [] h.1)
item_said version Costly h = refl
item_said version (Refuted j) h = (string (codes "w"), number j, refl, refl, number_said j (All-head IsLow j [] h.1))
item_said First (Bounded js) h = let no' = h.0 in absurd (cc)
item_said Second (Bounded []) h = let no' = h.0 in absurd (cc)
item_said Second (Bounded (j ∷ js)) h = bounded_said j js h.1
item_said Fourth (Bounded []) h = let no' = h.0 in absurd (cc)
item_said Fourth (Bounded (j ∷ js)) h = bounded_said j js h.1

choice_said : (choice : Choice) → IsChoiceOfWord choice → IsChoice (choice_value choice) choice
choice_said (Word w) low = ap (option_map Word) (word_said w low)
choice_said Success low = refl
choice_said Failure low = refl

witness_said : (w : Witness) → AreInRangeNames w × All (λ choices. All IsChoiceOfWord choices) w.choices → IsWitnessValue (witness_value w) w
witness_said w h = record {
  lists = array_of (map choices_value w.choices);
  names = array_of (map name_value w.order);
  pair = record { keys = refl; choices = refl; order = refl };
  choices = array_said (λ choices. All IsChoiceOfWord choices) choices_value (IsArrayOf IsChoice) (array_said IsChoiceOfWord choice_value IsChoice choice_said) w.choices h.1;
  order = array_said IsInRange name_value IsName name_said w.order h.0;
}

version_said : (version : Version) → IsNumber (number (version_number version)) (version_number version)
version_said First = refl
version_said Second = refl
version_said Fourth = refl

pub certificate_said : (c : Certificate) → CanBeSaid c → AreInRange c → IsCertificateValue (certificate_value c) c
certificate_said c can names = record {
  answer = answer_value c.answer;
  cycles = cycles_value c.cycles;
  tree = array_of (map item_value c.tree);
  version = number (version_number c.version);
  witnesses = array_of (map witness_value c.witnesses);
  keys = refl;
  at_answer = refl;
  at_cycles = refl;
  at_tree = refl;
  at_version = refl;
  at_witnesses = refl;
  says_answer = answer_said c.answer can.cost;
  says_cycles = cycles_said c.version c.cycles can.cycles names.cycles;
  says_tree = array_said (λ leaf. (is_sayable c.version leaf ≡ true) × All IsLow (numbers_in leaf)) item_value (IsItem c.version) (item_said c.version) c.tree (all_both (λ leaf. is_sayable c.version leaf ≡ true) (λ leaf. All IsLow (numbers_in leaf)) c.tree (all_pass (is_sayable c.version) c.tree can.items) can.numbers);
  says_version = version_said c.version;
  says_witnesses = array_said (λ w. AreInRangeNames w × All (λ choices. All IsChoiceOfWord choices) w.choices) witness_value IsWitnessValue witness_said c.witnesses (all_both AreInRangeNames (λ w. All (λ choices. All IsChoiceOfWord choices) w.choices) c.witnesses names.witnesses can.words);
}

-- ---- depths

all_low : {X : Type 0} (value : X → Data) (n : ℕ) → ((x : X) → depth (value x) ≤ n) → (xs : List X) → items_depth (items_of (map value xs)) ≤ n
all_low value n low [] = omega arith
all_low value n low (x ∷ xs) = let first = low x in let rest = all_low value n low xs in omega (arith, first, rest)

choice_low : (choice : Choice) → depth (choice_value choice) ≤ 0
choice_low (Word w) = omega arith
choice_low Success = omega arith
choice_low Failure = omega arith

choices_low : (choices : List Choice) → depth (choices_value choices) ≤ 1
choices_low choices = let low = all_low choice_value 0 choice_low choices in omega (arith, low)

witness_low : (w : Witness) → depth (witness_value w) ≤ 3
witness_low w =
    let lists = all_low choices_value 1 choices_low w.choices in
    let names = all_low name_value 0 (λ name. omega arith) w.order in
    omega (arith, lists, names)

cycle_low : (links : List Link) → depth (cycle_value links) ≤ 2
cycle_low links = let low = all_low link_value 1 (λ link. omega arith) links in omega (arith, low)

inference_low : (inference : Inference) → depth (inference_value inference) ≤ 2
inference_low (ByChoice name) = omega arith
inference_low (BySource load) = omega arith
inference_low (ByOrder first second) = omega arith
inference_low (ByCases condition) = omega arith
inference_low (Filter hart) = omega arith
inference_low (Cycle links) = cycle_low links
inference_low (Stale load store) = omega arith
inference_low (Reversed load store) = omega arith
inference_low (Parted load store other) = omega arith

cycles_low : (cycles : Cycles) → depth (cycles_value cycles) ≤ 3
cycles_low (Listed cycles) = let low = all_low cycle_value 2 cycle_low cycles in omega (arith, low)
cycles_low (Inferred inferences) = let low = all_low inference_value 2 inference_low inferences in omega (arith, low)

item_low : (leaf : Item) → depth (item_value leaf) ≤ 2
item_low (SplitAt slot) = omega arith
item_low Costly = omega arith
item_low (Refuted j) = omega arith
item_low (Bounded js) = let low = all_low number 0 (λ n. omega arith) js in omega (arith, low)

answer_low : (answer : Answer) → depth (answer_value answer) ≤ 2
answer_low NoneForbids = omega arith
answer_low (Fenced cost fences) = let low = all_low text_of 0 (λ text. omega arith) fences in omega (arith, low)

pub shallow : (c : Certificate) → depth (certificate_value c) ≤ max_depth
shallow c =
    let answer = answer_low c.answer in
    let cycles = cycles_low c.cycles in
    let tree = all_low item_value 2 item_low c.tree in
    let witnesses = all_low witness_value 3 witness_low c.witnesses in
    omega (arith, answer, cycles, tree, witnesses)
