-- Values that may be null have no float.
use Rattle.std.proofs.Common.{◌≡◌, ℕ, Option, None, Some, false, refl}
use Rattle.serde_json.specs.Written.{has_float}
use Rattle.fs_kinds.specs.declared.kind.Kind.{Kind}
use Rattle.fs_report.specs.Nullable.{number_or_null, kind_or_null}

pub number_whole : (n : Option ℕ) → has_float (number_or_null n) ≡ false
number_whole None = refl
number_whole (Some n) = refl

pub kind_whole : (kind : Option Kind) → has_float (kind_or_null kind) ≡ false
kind_whole None = refl
kind_whole (Some kind) = refl
