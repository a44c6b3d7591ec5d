-- What a list expects of tests: in each line a name and a verdict.
use denote.Ref.{Bor}
use Rattle.std.specs.Prelude.{◌≡◌, ℕ, Option, None, Some, option_map, option_and_then, List, [], ◌∷◌, map, fold, codes, if◌then◌else◌}
use Rattle.std.specs.BTreeMap.{BTreeMap, get}
use Rattle.std.specs.Cmp.Lexicographic.{slice_cmp}
use Rattle.std.specs.List.{flat_map}
use Rattle.std.specs.Ordering.{nat_cmp}
use Rattle.std.specs.Str.{bytes_eq, trim}
use Rattle.std.specs.declared.cmp.Ordering.{Ordering}
use Rattle.fs_model.specs.declared.test.Test.{Test}
use Rattle.fs_litmus.specs.Reads.{Reads}
use Rattle.fs_app_test.specs.declared.said.Kind.{Kind}
use Rattle.fs_app_test.specs.declared.said.Kind.TheVariants as kind
use Rattle.fs_app_io.specs.Lines.{cut, says}
use Rattle.fs_app_test.specs.declared.rows.Row.{Row as Rows}

-- the name of a test, and what it is expected to be
abbrev pub Named : Type 0
Named = List ℕ × Kind

abbrev pub kind_named : List ℕ → Option Kind
kind_named word =
    if bytes_eq word (codes "forbidden") then Some kind.Forbidden
    else (if bytes_eq word (codes "allowed") then Some kind.Allowed
    else (if bytes_eq word (codes "vacuous") then Some kind.Vacuous else None))

abbrev pub row_in : List ℕ × List ℕ → Option Named
row_in parts = option_map (λ k. (parts.0, k)) (kind_named (trim parts.1))

-- what a line without blanks at its ends says: what stands before its first space, and the word behind it
abbrev pub row_of : List ℕ → Option Named
row_of line = option_and_then row_in (cut 32 line)

-- what a line says, if it says something
abbrev pub said_by : List ℕ → List (Option Named)
said_by line = if says (trim line) then row_of (trim line) ∷ [] else []

abbrev pub read_row : Rows → Named
read_row row = (row.name.now, row.kind)

-- the lines that say something say these, in their order
abbrev pub AreRows : (lines : List (List ℕ)) → List Rows → Type 0
AreRows lines rows = map (λ row. Some (read_row row)) rows ≡ flat_map said_by lines

-- what the last of the rows with this name expects
abbrev pub listed : List Rows → (name : List ℕ) → Option Kind
listed rows name = fold (λ found row. if bytes_eq row.name.now name then Some row.kind else found) None rows

-- ---- the rows as a map

abbrev pub Key : Type 0
Key = Bor (List ℕ)

abbrev pub order : Key → Key → Ordering
order a b = slice_cmp nat_cmp a.now b.now

-- the map has for each name what the rows expect of it
abbrev pub AreKinds : BTreeMap Key Kind → List Rows → Type 0
AreKinds kinds rows = (name : Key) → get order kinds name ≡ listed rows name.now

-- ---- the name of a test

abbrev pub IsNameOf : (bytes name : List ℕ) → Type 0
IsNameOf bytes name = (t : Test) × Reads bytes t × (name ≡ t.name)
