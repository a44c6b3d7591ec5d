-- Objects of answers, and that none has a float.
use Rattle.std.proofs.Common.{◌≡◌, ℕ, Option, None, Some, List, [], ◌∷◌, ◌++◌, map, flat_map, false, refl, ap, ◌∙◌}
use Rattle.serde_json.specs.Data.{Data, array}
use Rattle.serde_json.specs.View as json
use Rattle.serde_json.specs.Written.{has_float, items_have_float}
use Rattle.serde_json.specs.declared.value.Value.{Value}
use Rattle.fs_kinds.specs.declared.kind.Kind.{Kind}
use Rattle.fs_kinds.specs.declared.placement.Entry.{Entry}
use Rattle.fs_kinds.specs.declared.slot.Slot.{Slot}
use Rattle.fs_model.specs.Witness.{Witness}
use Rattle.fs_cert_evidence.specs.Texts.{array_of, items_of}
use Rattle.fs_report.specs.Objects.{fence_values, fenced_value, none_value}
use Rattle.fs_report.proofs.Depths.{no_float}

same_items : (ds : List Data) → json.items_of ds ≡ items_of ds
same_items [] = refl
same_items (d ∷ ds) = rw (same_items ds) refl

-- values that show these data are written as their array
pub array_shown : (vs : List Value) (ds : List Data) → map json.view vs ≡ ds → array (json.items_view vs) ≡ array_of ds
array_shown vs ds is = ap array (same_items (map json.view vs) ∙ ap items_of is)

one_more : (slot : Slot) (kind : Option Kind) (rest : List Data) → items_have_float (items_of rest) ≡ false
    → items_have_float (items_of (fence_values slot kind ++ rest)) ≡ false
one_more slot None rest whole = whole
one_more slot (Some kind) rest whole = whole

fences_whole : (p : List Entry) → items_have_float (items_of (flat_map (λ e. fence_values e.slot e.kind) p)) ≡ false
fences_whole [] = refl
fences_whole (e ∷ p) = one_more e.slot e.kind (flat_map (λ e. fence_values e.slot e.kind) p) (fences_whole p)

pub fenced_whole : (cost : ℕ) (p : List Entry) → has_float (fenced_value cost p) ≡ false
fenced_whole cost p = rw (fences_whole p) refl

pub none_whole : (w : Witness) → has_float (none_value w) ≡ false
none_whole w = rw (no_float w) refl
