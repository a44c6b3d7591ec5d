-- What `audit` finds as JSON, with the keys in the order of their bytes.
use Rattle.std.specs.Prelude.{ℕ, Option, None, Some, List, ◌∷◌, [], codes, map, if◌then◌else◌}
use Rattle.serde_json.specs.Data.{Data, object, string}
use Rattle.fs_kinds.specs.declared.placement.Entry.{Entry}
use Rattle.fs_kinds.specs.PriceTable.{PriceTable}
use Rattle.fs_kinds.specs.PriceTable as anew
use Rattle.fs_kinds.specs.Slot.{place_name}
use Rattle.fs_model_laws.specs.InPlace.{memory_kind}
use Rattle.fs_board_offers.specs.Offers as offers
use Rattle.fs_cert_evidence.specs.Texts.{array_of, members_of, number}
use Rattle.fs_app_test.specs.declared.said.Kind.{Kind as Said}
use Rattle.fs_report.specs.Nullable.{kind_or_null, number_or_null}
use Rattle.fs_app_test.specs.Report.{kind_text}
use Rattle.fs_app_audit.specs.Audit.{Findings}
use Rattle.fs_app_audit.specs.InPlace.{offers_in_place, written_cost}
use Rattle.fs_app_audit.specs.Report.{advice_text, fence_letters}
use Rattle.fs_app_audit.specs.Advice.{advised_kind}
use Rattle.fs_app_audit_json_and_why.specs.Rows.{rows_below, rows_in_place}
use Rattle.fs_app_audit_json_and_why.specs.declared.rows.Row.{Row}

-- ---- a line

abbrev pub row_value : Row → Data
row_value row = object (members_of (
    (codes "advised", kind_or_null (advised_kind (memory_kind row.instr) row.advice))
    ∷ (codes "line", number row.line)
    ∷ (codes "place", string (place_name row.place.hart row.place.at))
    ∷ (codes "says", string (advice_text row.instr row.advice))
    ∷ (codes "written", string (fence_letters row.instr)) ∷ []))

abbrev pub rows_value : List Row → Data
rows_value rows = array_of (map row_value rows)

-- ---- in place

abbrev pub in_place_object : (name : List ℕ) → (anew : Option ℕ) → (in_place written : ℕ) → (lines : Data) → Data
in_place_object name anew in_place written lines = object (members_of (
    (codes "anew", number_or_null anew)
    ∷ (codes "file", string name)
    ∷ (codes "in place", number in_place)
    ∷ (codes "lines", lines)
    ∷ (codes "verdict", string (codes "forbidden"))
    ∷ (codes "written", number written) ∷ []))

-- what the fences of a placement cost, if there is one
abbrev pub cost_of : PriceTable → Option (List Entry) → Option ℕ
cost_of prices None = None
cost_of prices (Some p) = Some (anew.cost prices p)

-- of a test that is forbidden as it is written, with what is advised in place
abbrev pub in_place_value : (name : List ℕ) → Findings → List Entry → Data
in_place_value name f p =
    in_place_object name (cost_of f.prices f.best) (offers.cost (offers_in_place f.prices f.test.codes) p)
    (written_cost (offers_in_place f.prices f.test.codes)) (rows_value (rows_in_place f.prices f.lines f.test.codes p))

-- ---- anew

abbrev pub anew_object : (name : List ℕ) → Said → (anew written : Option ℕ) → (lines : Data) → Data
anew_object name kind anew written lines = object (members_of (
    (codes "anew", number_or_null anew)
    ∷ (codes "file", string name)
    ∷ (codes "lines", lines)
    ∷ (codes "verdict", string (kind_text kind))
    ∷ (codes "written", number_or_null written) ∷ []))

-- what was found anew: the costs that its first line has, or null, and its lines
abbrev pub anew_value : (name : List ℕ) → Findings → Data
anew_value name f =
    anew_object name f.kind (cost_of f.prices f.best) (cost_of f.prices (if f.all then Some f.written else None))
    (rows_value (rows_below f.lines f.test.codes f.best))

-- ---- a test that is vacuous

abbrev pub vacuous_value : (name why : List ℕ) → (written : ℕ) → Data
vacuous_value name why written = object (members_of (
    (codes "file", string name)
    ∷ (codes "verdict", string (codes "vacuous"))
    ∷ (codes "why", string why)
    ∷ (codes "written", number written) ∷ []))
