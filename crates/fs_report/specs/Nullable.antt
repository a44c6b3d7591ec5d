-- Values of JSON that may be null.
use Rattle.std.specs.Prelude.{ℕ, Option, None, Some}
use Rattle.serde_json.specs.Data.{Data, null, string}
use Rattle.fs_kinds.specs.declared.kind.Kind.{Kind}
use Rattle.fs_kinds.specs.Kind.{word}
use Rattle.fs_cert_evidence.specs.Texts.{number}

abbrev pub number_or_null : Option ℕ → Data
number_or_null None = null
number_or_null (Some n) = number n

abbrev pub kind_or_null : Option Kind → Data
kind_or_null None = null
kind_or_null (Some kind) = string (word kind)
