-- What is written: the JSON text of witnesses and certificates, compact and with the keys in the order of their bytes,
-- and the lines of an answer.
use Rattle.std.specs.Prelude.{ℕ, true, false, Option, None, Some, List, [], ◌∷◌, ◌++◌, map, codes}
use Rattle.std.specs.Fmt.{decimal}
use Rattle.std.specs.List.{flat_map}
use Rattle.serde_json.specs.Data as json
use Rattle.serde_json.specs.Written.{compact_text}
use Rattle.fs_kinds.specs.declared.kind.Kind.{Kind}
use Rattle.fs_kinds.specs.declared.placement.Entry.{Entry}
use Rattle.fs_kinds.specs.declared.slot.Slot.{Slot}
use Rattle.fs_kinds.specs.declared.reason.OperationName.{OperationName as Name}
use Rattle.fs_kinds.specs.Kind.{word}
use Rattle.fs_kinds.specs.ReasonText.{operation_name}
use Rattle.fs_model.specs.declared.step.Choice.{Choice}
use Rattle.fs_model.specs.declared.step.Choice.TheVariants.{Word, Success, Failure}
use Rattle.fs_model.specs.Witness.{Witness}
use Rattle.fs_cert_evidence.specs.Certificate.{Certificate, Answer, Fenced, NoneForbids, Cycles, Listed, Inferred, Link, Inference, ByChoice, BySource, ByOrder, ByCases, Filter, Cycle, Stale, Reversed, Parted, Item, SplitAt, Costly, Refuted, Bounded}
use Rattle.fs_cert_evidence.specs.CertificateFile.{cause_word, version_number}

-- ---- values

abbrev pub items_of : List json.Data → json.Items
items_of [] = json.no_items
items_of (d ∷ ds) = json.item d (items_of ds)

abbrev pub array_of : List json.Data → json.Data
array_of ds = json.array (items_of ds)

abbrev pub members_of : List (List ℕ × json.Data) → json.Members
members_of [] = json.no_members
members_of ((key, d) ∷ rest) = json.member key d (members_of rest)

abbrev pub number : ℕ → json.Data
number n = json.number (json.unsigned n)

-- ---- witnesses

abbrev pub choice_value : Choice → json.Data
choice_value (Word w) = number w
choice_value Success = json.boolean true
choice_value Failure = json.boolean false

abbrev pub witness_value : Witness → json.Data
witness_value w = json.object (members_of (
    (codes "choices", array_of (map (λ choices. array_of (map choice_value choices)) w.choices))
    ∷ (codes "order", array_of (map (λ name. json.string (operation_name name)) w.order))
    ∷ []))

abbrev pub witness_text : Witness → List ℕ
witness_text w = compact_text (witness_value w)

-- ---- certificates

abbrev pub answer_value : Answer → json.Data
answer_value NoneForbids = json.string (codes "none")
answer_value (Fenced cost fences) = json.object (members_of (
    (codes "cost", number cost)
    ∷ (codes "fences", array_of (map (λ text. json.string text) fences))
    ∷ []))

abbrev pub link_value : Link → json.Data
link_value link = array_of (json.string (operation_name link.operation) ∷ json.string (cause_word link.cause) ∷ [])

-- a letter and names
abbrev pub of_names : (letter : List ℕ) → List Name → json.Data
of_names letter names = array_of (json.string letter ∷ map (λ name. json.string (operation_name name)) names)

abbrev pub of_number : (letter : List ℕ) → ℕ → json.Data
of_number letter n = array_of (json.string letter ∷ number n ∷ [])

abbrev pub inference_value : Inference → json.Data
inference_value (ByChoice name) = of_names (codes "c") (name ∷ [])
inference_value (BySource load) = of_names (codes "s") (load ∷ [])
inference_value (ByOrder first second) = of_names (codes "o") (first ∷ second ∷ [])
inference_value (ByCases condition) = of_number (codes "d") condition
inference_value (Filter hart) = of_number (codes "f") hart
inference_value (Cycle links) = array_of (map link_value links)
inference_value (Stale load store) = of_names (codes "l") (load ∷ store ∷ [])
inference_value (Reversed load store) = of_names (codes "a") (load ∷ store ∷ [])
inference_value (Parted load store other) = of_names (codes "a") (load ∷ store ∷ other ∷ [])

abbrev pub cycles_value : Cycles → json.Data
cycles_value (Listed cycles) = array_of (map (λ links. array_of (map link_value links)) cycles)
cycles_value (Inferred inferences) = array_of (map inference_value inferences)

abbrev pub item_value : Item → json.Data
item_value (SplitAt slot) = number slot
item_value Costly = json.string (codes "c")
item_value (Refuted j) = array_of (json.string (codes "w") ∷ number j ∷ [])
item_value (Bounded js) = array_of (json.string (codes "b") ∷ array_of (map number js) ∷ [])

abbrev pub certificate_value : Certificate → json.Data
certificate_value c = json.object (members_of (
    (codes "answer", answer_value c.answer)
    ∷ (codes "cycles", cycles_value c.cycles)
    ∷ (codes "tree", array_of (map item_value c.tree))
    ∷ (codes "version", number (version_number c.version))
    ∷ (codes "witnesses", array_of (map witness_value c.witnesses))
    ∷ []))

abbrev pub certificate_text : Certificate → List ℕ
certificate_text c = compact_text (certificate_value c)

-- ---- the lines of an answer

abbrev pub line : List ℕ → List ℕ
line text = text ++ 10 ∷ []

-- a line for a filled slot, such as `fence P0 2 w,r`
abbrev pub fence_line : Slot → Option Kind → List ℕ
fence_line slot None = []
fence_line slot (Some kind) = line (codes "fence P" ++ decimal slot.hart ++ codes " " ++ decimal slot.at ++ codes " " ++ word kind)

-- `fenced`, the cost, and the filled slots in slot order
abbrev pub fenced_lines : ℕ → List Entry → List ℕ
fenced_lines cost p = line (codes "fenced " ++ decimal cost) ++ flat_map (λ e. fence_line e.slot e.kind) p

-- `none`, and an execution that shows the outcome with rw,rw in every slot
abbrev pub none_lines : Witness → List ℕ
none_lines w = line (codes "none") ++ line (witness_text w)
