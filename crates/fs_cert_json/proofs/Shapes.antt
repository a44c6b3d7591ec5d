-- Lemmas on what a JSON value is.
use Rattle.std.proofs.Common.{◌≡◌, ◌≢◌, List, [], ◌∷◌, length, get_or, Some, arith}
use Rattle.serde_json.specs.Data.{Data, no_items, item}
use Rattle.serde_json.specs.Find.{as_array}
use Rattle.serde_json.specs.View.{view, items_view}
use Rattle.serde_json.specs.declared.value.Value.{Value}
use Rattle.fs_cert_evidence.specs.CertificateFile.{AreTwo}

-- ---- arrays of two values

two_long : (vs : List Value) (a b : Data) → items_view vs ≡ item a (item b no_items) → length vs ≡ 2
two_long [] a b is = absurd (cc)
two_long (v ∷ []) a b is = absurd (cc)
two_long (v ∷ w ∷ []) a b is = omega arith
two_long (v ∷ w ∷ u ∷ vs) a b is = absurd (cc)

pub no_pair : (d : Data) (vs : List Value) → Some (items_view vs) ≡ as_array d → length vs ≢ 2 → (a b : Data) → ¬ AreTwo d a b
no_pair d vs is other a b two = other (two_long vs a b (cc))

pub pair_of : (d : Data) (vs : List Value) (v w : Value) → Some (items_view vs) ≡ as_array d → length vs ≡ 2 → v ≡ get_or vs 0 v → w ≡ get_or vs 1 w
    → AreTwo d (view v) (view w)
pair_of d [] v w is two first second = absurd (omega arith)
pair_of d (x ∷ []) v w is two first second = absurd (omega arith)
pair_of d (x ∷ y ∷ []) v w is two first second = cc
pair_of d (x ∷ y ∷ z ∷ vs) v w is two first second = absurd (omega arith)
