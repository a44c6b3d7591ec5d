-- An answer as a JSON object.
use Rattle.std.specs.Prelude.{◌≡◌, ◌⊎◌, ℕ, Option, None, Some, List, [], ◌∷◌, codes}
use Rattle.std.specs.List.{flat_map}
use Rattle.serde_json.specs.Data.{Data, object, string}
use Rattle.serde_json.specs.Written.{compact_text}
use Rattle.fs_kinds.specs.declared.kind.Kind.{Kind}
use Rattle.fs_kinds.specs.declared.placement.Entry.{Entry}
use Rattle.fs_kinds.specs.declared.slot.Slot.{Slot}
use Rattle.fs_kinds.specs.Kind.{word}
use Rattle.fs_model.specs.Witness.{Witness}
use Rattle.fs_cert_evidence.specs.Texts.{array_of, fenced_lines, line, members_of, none_lines, number, witness_value}

-- a fence before this instruction of its hart
abbrev pub fence_value : Slot → Kind → Data
fence_value slot kind = object (members_of (
    (codes "before", number slot.at) ∷ (codes "hart", number slot.hart) ∷ (codes "kind", string (word kind)) ∷ []))

-- that of a slot, where it is filled
abbrev pub fence_values : Slot → Option Kind → List Data
fence_values slot None = []
fence_values slot (Some kind) = fence_value slot kind ∷ []

abbrev pub fenced_value : ℕ → List Entry → Data
fenced_value cost p = object (members_of (
    (codes "answer", string (codes "fenced"))
    ∷ (codes "cost", number cost)
    ∷ (codes "fences", array_of (flat_map (λ e. fence_values e.slot e.kind) p))
    ∷ []))

abbrev pub none_value : Witness → Data
none_value w = object (members_of ((codes "answer", string (codes "none")) ∷ (codes "witness", witness_value w) ∷ []))

-- the lines of an answer, and its object
abbrev pub SayOneAnswer : List ℕ → Data → Type 0
SayOneAnswer lines value =
    ((cost : ℕ) × (p : List Entry) × (lines ≡ fenced_lines cost p) × (value ≡ fenced_value cost p))
    ⊎ ((w : Witness) × (lines ≡ none_lines w) × (value ≡ none_value w))

-- a value in print
abbrev pub json_line : Data → List ℕ
json_line value = line (compact_text value)

-- the lines of an answer, and its object in print
abbrev pub AreOneAnswer : List ℕ → List ℕ → Type 0
AreOneAnswer lines text = (value : Data) × SayOneAnswer lines value × (text ≡ json_line value)
