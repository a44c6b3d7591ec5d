-- What is said of the fault of a test file.
use Rattle.std.specs.Prelude.{◌≡◌, ℕ, ◌≤◌, List, Option, None, Some, option_map, length}
use Rattle.std.specs.Str.{IsUtf8}
use Rattle.serde_json.specs.Data.{Data}
use Rattle.serde_json.specs.Read.{read}
use Rattle.fs_kinds.specs.declared.fault.Fault.{Fault}
use Rattle.fs_kinds.specs.declared.fault.Fault.TheVariants.{BadFence}
use Rattle.fs_litmus.specs.Faults.{IsTestFault}
use Rattle.fs_app_error_messages.specs.Messages.{message, message_of, place_of}
use Rattle.fs_app_error_messages.specs.Points.{IsPoint, IsNowhere, IsPlaced}
use Rattle.fs_app_error_messages.specs.declared.places.Place.{Place}
use Rattle.fs_app_error_messages.specs.declared.point.Point.{Point}
use Rattle.fs_app_error_messages.specs.declared.point.Point.TheVariants.{Token, Byte}

abbrev pub offset_of : Point → ℕ
offset_of (Token n offset) = offset
offset_of (Byte offset) = offset

-- The text is a message of the fault, with some hint: at a place that the fault is pointed at, or at none where there
-- is none.
pub data IsMessage (name bytes : List ℕ) (f : Fault) (text : List ℕ) : Type 0 where
  nowhere : (hint : List ℕ) → IsNowhere bytes f → text ≡ message name bytes f None hint → IsMessage name bytes f text
  somewhere : (hint : List ℕ) {p : Point} → IsPoint bytes f p → text ≡ message name bytes f (Some (offset_of p)) hint → IsMessage name bytes f text

-- the text is a message of the fault of the file
pub record IsToldOf (name bytes text : List ℕ) : Type 0 where
  pub fault : Fault
  pub is_fault : IsTestFault bytes fault
  pub is_message : IsMessage name bytes fault text

-- the place of a point, where there is one
abbrev pub place_at : List ℕ → Option Point → Option Place
place_at bytes = option_map (λ point. place_of bytes (offset_of point))

-- the place of a point that the fault is pointed at by; none exactly where there is no such point
abbrev pub IsLocated : List ℕ → Fault → Option Place → Type 0
IsLocated bytes f place = (point : Option Point) × IsPlaced bytes f point × (place ≡ place_at bytes point)

-- the place of the fault of the file
abbrev pub IsFaultAt : List ℕ → Option Place → Type 0
IsFaultAt bytes place = (f : Fault) × IsTestFault bytes f × IsLocated bytes f place

-- the bytes are a JSON text
pub record IsJson (bytes : List ℕ) : Type 0 where
  pub utf8 : IsUtf8 bytes
  pub value : Data
  pub reads : read bytes ≡ Some value

-- The text is a message of the fault of a JSON file, with some hint: at no place where the file is JSON, and else at
-- one of its bytes or at its end.
pub data IsJsonMessage (name bytes : List ℕ) (f : Fault) (text : List ℕ) : Type 0 where
  whole : (hint : List ℕ) → IsJson bytes → text ≡ message name bytes f None hint → IsJsonMessage name bytes f text
  broken : (hint : List ℕ) (offset : ℕ) → ¬ IsJson bytes → offset ≤ length bytes → text ≡ message name bytes f (Some offset) hint → IsJsonMessage name bytes f text

-- the place that such a message is at
abbrev pub IsJsonPlace : List ℕ → Option Place → Type 0
IsJsonPlace bytes None = IsJson bytes
IsJsonPlace bytes (Some place) = ¬ IsJson bytes × ((offset : ℕ) × (offset ≤ length bytes) × (place ≡ place_of bytes offset))

-- the text is a message of the fault at no place, with some hint
pub data IsPlaceless (name : List ℕ) (f : Fault) (text : List ℕ) : Type 0 where
  placeless : (hint : List ℕ) → text ≡ message_of name f hint → IsPlaceless name f text

-- the text is a message of a FENCE word
abbrev pub IsFenceNote : List ℕ → Type 0
IsFenceNote text = (word : List ℕ) × IsPlaceless word BadFence text
