-- What `order` says of the answers that `solve` prints.
use Rattle.std.specs.Prelude.{◌≡◌, ◌⊎◌, ◌++◌, ℕ, true, None, Some, List, codes}
use Rattle.fs_kinds.specs.declared.placement.Entry.{Entry}
use Rattle.fs_kinds.specs.Placement.{slots_of}
use Rattle.fs_kinds.specs.PriceTable.{PriceTable, cost}
use Rattle.fs_model.specs.declared.test.Test.{Test}
use Rattle.fs_model.specs.Placed.{IsPlaced}
use Rattle.fs_model.specs.Slots.{slots}
use Rattle.fs_litmus.specs.Reads.{Reads}
use Rattle.fs_model.specs.Allows.{IsPlacement, is_better}
use Rattle.fs_cert_evidence.specs.Certificate.{fence_words}
use Rattle.fs_cert_evidence.specs.Texts.{line, fenced_lines}
use Rattle.fs_app_io.specs.declared.status.Status.TheVariants.{Success}
use Rattle.fs_app_place_and_order.specs.Place.{ArePricesOf}
use Rattle.fs_app_place_and_order.specs.Order.{IsOrderAnswer}

-- `order` says yes to the witness file, with these words as fences
abbrev pub SaysYes : (test witness : List ℕ) → (words : List (List ℕ)) → Type 0
SaysYes test witness words = IsOrderAnswer test witness words (codes "yes\n") Success

-- the words put these fences at the test's slots, and none elsewhere
abbrev pub Place : Test → (words : List (List ℕ)) → List Entry → Type 0
Place t words p = IsPlaced None (slots t) words (Some p)

-- each placement over the slots of a test is placed by its words, one for each fence in slot order, and words place one
-- placement at most
abbrev pub HaveOnePlacement : Test → Type 0
HaveOnePlacement t =
    ((p : List Entry) → slots_of p ≡ slots t → Place t (fence_words p) p)
    × ((words : List (List ℕ)) (p q : List Entry) → Place t words p → Place t words q → p ≡ q)

-- A placement and its cost are printed. With its fences `order` says yes to no witness file; with those of any better
-- placement over the same slots and kinds, be it cheaper or of equal cost and earlier, it says yes to some file.
pub record SaysNoToAnswer (test : List ℕ) (t : Test) (prices : PriceTable) (text : List ℕ) : Type 0 where
  pub placement : List Entry
  pub shown : text ≡ fenced_lines (cost prices placement) placement
  pub placed : IsPlacement t prices placement
  pub refused : (words : List (List ℕ)) → Place t words placement → (witness : List ℕ) → SaysYes test witness words → ⊥
  pub better : (q : List Entry) → IsPlacement t prices q → is_better prices q placement ≡ true
      → (words : List (List ℕ)) → Place t words q → (witness : List ℕ) × SaysYes test witness words

-- `none` is printed, and a witness file as a line. `order` says yes to this file, with its line end or without,
-- whatever fences are placed, rw,rw in every slot among them.
pub record SaysYesToWitness (test : List ℕ) (t : Test) (text : List ℕ) : Type 0 where
  pub witness : List ℕ
  pub shown : text ≡ line (codes "none") ++ line witness
  pub accepted : (words : List (List ℕ)) (p : List Entry) → Place t words p → SaysYes test witness words × SaysYes test (line witness) words

-- of every test and prices that the bytes read as, one of the two is so
abbrev pub OrderAgrees : (test prices text : List ℕ) → Type 0
OrderAgrees test prices text =
    (t : Test) (table : PriceTable) → Reads test t → ArePricesOf prices table
    → SaysNoToAnswer test t table text ⊎ SaysYesToWitness test t text
