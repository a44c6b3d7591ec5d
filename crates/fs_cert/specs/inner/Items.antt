-- What a certificate's tree says of the nodes of a board.
use Rattle.std.specs.Prelude.{◌≡◌, ◌≢◌, ℕ, zero, suc, ◌+◌, ◌≤◌, ◌<◌, true, Some, unwrap_or, List, [], ◌∷◌, length, take, drop, slice_get, position}
use Rattle.std.specs.List.{AllByRecursion, range_with_len}
use Rattle.fs_kinds.specs.declared.placement.Entry.{Entry}
use Rattle.fs_kinds.specs.declared.slot.Slot.{Slot}
use Rattle.fs_kinds.specs.Slot.{is_same_slot}
use Rattle.fs_board_offers.specs.Parts.{undecided}
use Rattle.fs_cert_evidence.specs.Certificate as said
use Rattle.fs_cert_evidence.specs.Certificate.{Certificate, First, Second, Item}
use Rattle.fs_cert_evidence.specs.CertificateFile.{is_sayable, numbers_in, most_number}
use Rattle.fs_board_offers.specs.Valid.{Covers}
use Rattle.fs_board_offers.specs.Board.{Status, Open, Held, Split, Costly, Witnessed, Bounded, Posted}
use Rattle.fs_board.specs.View.{Search}
use Rattle.fs_cert.specs.inner.Copies.{AreNumbered}
use Rattle.fs_board_offers.specs.Offers.{Offers, options, offer_at}

-- the slot's number; how many slots there are where it is none of them
abbrev pub number_in : List Slot → Slot → ℕ
number_in ss slot = unwrap_or (position (λ s. is_same_slot s slot) ss) (length ss)

-- The item of a node of this status. A node that is bounded by no witness costs too much, and so does one that was
-- posted.
abbrev pub item_at : List Slot → (numbers : List ℕ) → Status → Item
item_at ss numbers Open = said.Costly
item_at ss numbers (Held worker) = said.Costly
item_at ss numbers (Split slot first) = said.SplitAt (number_in ss slot)
item_at ss numbers Costly = said.Costly
item_at ss numbers (Witnessed j) = said.Refuted (unwrap_or (slice_get numbers j) 0)
item_at ss numbers (Bounded first zero) = said.Costly
item_at ss numbers (Bounded first (suc count)) = said.Bounded (take (suc count) (drop first numbers))
item_at ss numbers Posted = said.Costly

-- in how many ways a node of this status was split
abbrev pub ways_of : Offers → Status → ℕ
ways_of offers (Split slot first) = length (options (offer_at offers slot))
ways_of offers _ = 0

-- the children of a node of this status, where a split makes so many
abbrev pub below : (ways : ℕ) → Status → List ℕ
below ways (Split slot first) = range_with_len first ways
below ways _ = []

-- their numbers are below this one
abbrev pub AreBelow : (ways most : ℕ) → Status → Type 0
AreBelow ways most (Split slot first) = first + ways ≤ most
AreBelow ways most _ = Unit {0}

-- where witnesses bound a node, the first of them has one of so many numbers
abbrev pub HasNumbers : (count : ℕ) → Status → Type 0
HasNumbers count (Bounded first zero) = Unit {0}
HasNumbers count (Bounded first (suc n)) = first < count
HasNumbers count _ = Unit {0}

abbrev pub AreSmall : List ℕ → Type 0
AreSmall = AllByRecursion (λ n. n ≤ most_number)

-- an item that a file of the second version can say
abbrev pub IsSayable : Item → Type 0
IsSayable item = (is_sayable Second item ≡ true) × AreSmall (numbers_in item)

abbrev pub AreSayable : List Item → Type 0
AreSayable = AllByRecursion IsSayable

-- the items are a tree for the board's bound, where its witnesses have these numbers in the certificate, in each
-- version but the first
abbrev pub IsTreeOf : Search → (numbers : List ℕ) → List Item → Type 0
IsTreeOf s numbers items = (c : Certificate) (p : List Entry) → c.version ≢ First → s.board.bound ≡ Some p
    → AreNumbered c.witnesses s.board.witnesses numbers
    → Covers s.question.test s.question.offers c p (undecided s.question.offers ∷ []) items
