-- Lemmas on the walk over a tree's items.
use Rattle.std.proofs.Common.{◌≡◌, ℕ, ◌+◌, ◌<◌, true, false, Option, None, Some, List, [], ◌∷◌, ◌++◌, map, length, drop, refl, ap, ◌∙◌, sym, subst, inr}
use Rattle.std.specs.Prelude.{get_or, slice_get, is_some}
use Rattle.std.proofs.lemmas.List.{at_drop_more}
use Rattle.fs_kinds.specs.declared.placement.Entry.{Entry}
use Rattle.fs_kinds.specs.declared.reason.Reason.{Reason}
use Rattle.fs_kinds.specs.declared.slot.Slot.{Slot}
use Rattle.fs_model.specs.declared.test.Test.{Test}
use Rattle.fs_model.specs.Slots as test
use Rattle.fs_board_offers.specs.Offers.{Offers, slots}
use Rattle.fs_board_offers.specs.Parts.{Part, Decision, undecided, is_undecided, child_parts, slots_in_part}
use Rattle.fs_cert_evidence.specs.Certificate.{Certificate, Item, SplitAt}
use Rattle.fs_cert_json.specs.declared.certificate.Item.{Item as CodeItem}
use Rattle.fs_cert_json.specs.Kept.{item_of}
use Rattle.fs_check_certificate.proofs.Children.{children_of_test}
use Rattle.fs_check_certificate.specs.inner.Walks.{AreOfTest, LeadsTo, IsTaken, IsWalked}

-- a split at a slot that is there and undecided leaves the children
pub split_taken : (t : Test) (offers : Offers) (c : Certificate) (p : List Entry) (part : Part) (parts rest : List Part) (number k : ℕ) (slot : Slot)
    → slice_get (slots offers) number ≡ Some slot → is_undecided slot part ≡ true → slots_in_part part ≡ test.slots t → AreOfTest t parts
    → rest ≡ child_parts offers slot part ++ parts
    → IsTaken t offers c p (part ∷ parts) (SplitAt number) k None rest
split_taken t offers c p part parts rest number k slot at free same others is =
    subst (IsTaken t offers c p (part ∷ parts) (SplitAt number) k None) (sym is) (
      children_of_test t offers slot part parts same others,
      λ left. record {
        covers = λ covered. (slot, at, free, covered);
        fails = λ r failing. inr (slot, at, free, failing);
      },
    )

-- ---- the loop over the items

abbrev pub Whole : Test → Offers → Certificate → List Entry → List Part → List Item → ℕ → List Item → Type 0
Whole t offers c p parts left k tree = AreOfTest t parts × LeadsTo t offers c p parts left k (undecided offers ∷ []) tree 0

abbrev pub undecided_at : Slot → Decision
undecided_at slot = record { slot = slot; decided = None }

pub slots_undecided : (ss : List Slot) → slots_in_part (map undecided_at ss) ≡ ss
slots_undecided [] = refl
slots_undecided (s ∷ ss) = ap (λ us. s ∷ us) (slots_undecided ss)

-- the first item that is left
pub first_left : (t : Test) (offers : Offers) (c : Certificate) (p : List Entry) (tree : List Item) (parts : List Part) (items : List CodeItem) (k : ℕ) (item : CodeItem)
    → k < length items → item ≡ get_or items k item → Whole t offers c p parts (map item_of (drop k items)) k tree
    → Whole t offers c p parts (item_of item ∷ map item_of (drop (k + 1) items)) k tree
first_left t offers c p tree parts items k item there is whole =
    subst (λ (left : List Item). Whole t offers c p parts left k tree)
    (at_drop_more (map item_of) items k item there ∙ ap (λ (i : CodeItem). item_of i ∷ map item_of (drop (k + 1) items)) (sym is)) whole

-- at the beginning
pub starts : (t : Test) (offers : Offers) (c : Certificate) (p : List Entry) (tree : List Item) (parts : List Part) → slots offers ≡ test.slots t
    → parts ≡ undecided offers ∷ [] → Whole t offers c p parts tree 0 tree
starts t offers c p tree parts same is = subst (λ (qs : List Part). Whole t offers c p qs tree 0 tree) (sym is) (
  (slots_undecided (slots offers) ∙ same, tt),
  record { covers = λ covered. covered; fails = λ r failing. failing },
)

-- an item that is taken
pub goes_on : (t : Test) (offers : Offers) (c : Certificate) (p : List Entry) (tree left : List Item) (parts rest : List Part) (item : Item) (k : ℕ) (why : Option Reason)
    → Whole t offers c p parts (item ∷ left) k tree → is_some why ≡ false → IsTaken t offers c p parts item k why rest
    → Whole t offers c p rest left (k + 1) tree
goes_on t offers c p tree left parts rest item k None whole none taken =
    let step = taken.1 left in
    (taken.0, record { covers = λ covered. whole.1.covers (step.covers covered); fails = λ r failing. whole.1.fails r (step.fails r failing) })
goes_on t offers c p tree left parts rest item k (Some r) whole none taken = absurd (cc)

-- an item at which the tree fails
pub fails_here : (t : Test) (offers : Offers) (c : Certificate) (p : List Entry) (tree left : List Item) (parts rest : List Part) (item : Item) (k : ℕ) (why : Option Reason)
    → Whole t offers c p parts (item ∷ left) k tree → is_some why ≡ true → IsTaken t offers c p parts item k why rest
    → IsWalked t offers c p (undecided offers ∷ []) tree why
fails_here t offers c p tree left parts rest item k None whole some taken = absurd (cc)
fails_here t offers c p tree left parts rest item k (Some r) whole some taken = whole.1.fails r (taken left)
