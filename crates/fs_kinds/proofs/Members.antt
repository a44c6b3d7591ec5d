-- Lemmas on the members of a JSON object, one after the other.
use Rattle.std.proofs.Common.{◌≡◌, ◌≢◌, ◌≤◌, ◌<◌, ◌==◌, if◌then◌else◌, length, get_or, set, ℕ, List, [], ◌∷◌, Bool, true, false, Option, Some, None, String, Global, string_bytes, get_or-set_same, get_or-set_other, unwrap_or, option_and_then, option_map, refl, ap, sym, subst, ◌∙◌, arith, Less, Equal, Greater, Ordering}
use Rattle.std.specs.Ordering.{nat_cmp, match_ordering, is_eq}
use Rattle.std.specs.Cmp.Lexicographic.{slice_cmp}
use Rattle.std.specs.List.{AllByRecursion}
use Rattle.std.specs.List.Sorted.{IsStrictlySortedBy}
use Rattle.std.specs.Map.{keys_of}
use Rattle.std.specs.Str.{bytes_eq}
use Rattle.std.proofs.lemmas.Map.Text.{is_eq-slice_cmp}
use Rattle.std.proofs.lemmas.Slice.Eq.{bytes_eq-Decides}
use Rattle.std.proofs.lemmas.Bool.{false_from_ne_true}
use Rattle.serde_json.specs.Data.{Data, Members, member}
use Rattle.serde_json.specs.Find.{get_member, as_number, as_u64}
use Rattle.serde_json.specs.View.{view, members_view}
use Rattle.serde_json.specs.declared.value.Value.{Value}
use Rattle.std.proofs.lemmas.Bool.Decides.{nat_tests}
use Rattle.fs_kinds.specs.PriceObject.{EachMember, within, whole}

abbrev pub Entries : Type 0
Entries = List (String Global × Value)

abbrev pub key_cmp : String Global → String Global → Ordering
key_cmp k l = slice_cmp nat_cmp (string_bytes k) (string_bytes l)

equal_order : (o : Ordering) → is_eq o ≡ true → o ≡ Equal
equal_order Less e = absurd (cc)
equal_order Equal e = refl
equal_order Greater e = absurd (cc)

unequal_order : {A : Type 0} (o : Ordering) (a b : A) → is_eq o ≡ false → match_ordering o a b a ≡ a
unequal_order Less a b e = refl
unequal_order Equal a b e = absurd (cc)
unequal_order Greater a b e = refl

pub get_member-same : (key : List ℕ) (d : Data) (ms : Members) → get_member key (member key d ms) ≡ Some d
get_member-same key d ms =
    let same : bytes_eq key key ≡ true = (bytes_eq-Decides key key).1 refl in
    rw (equal_order (slice_cmp nat_cmp key key) (is_eq-slice_cmp key key ∙ same)) refl

differ : (xs ys : List ℕ) → xs ≢ ys → bytes_eq xs ys ≡ false
differ xs ys apart = false_from_ne_true (bytes_eq xs ys) (λ same. apart ((bytes_eq-Decides xs ys).0 same))

pub get_member-other : (key l : List ℕ) (d : Data) (ms : Members) → key ≢ l → get_member key (member l d ms) ≡ get_member key ms
get_member-other key l d ms apart =
    unequal_order (slice_cmp nat_cmp key l) (get_member key ms) (Some d) (is_eq-slice_cmp key l ∙ differ key l apart)

-- the keys after one that is below them all don't hold it
absent-below : (k : String Global) (es : Entries) → AllByRecursion (λ l. key_cmp k l ≡ Less) (keys_of es) → get_member (string_bytes k) (members_view es) ≡ None
absent-below k [] below = refl
absent-below k (e ∷ es) below = rw below.0 (absent-below k es below.1)

pub absent-sorted : (e : String Global × Value) (es : Entries) → IsStrictlySortedBy key_cmp (keys_of (e ∷ es)) → get_member (string_bytes e.0) (members_view es) ≡ None
unfolding IsStrictlySortedBy
absent-sorted e es sorted = absent-below e.0 es sorted.0

-- a reading that has come as far as `rest`, where each member so far had P
pub record Rest (P : List ℕ → Data → Type 0) (all rest : Entries) : Type 0 where
  pub sorted : IsStrictlySortedBy key_cmp (keys_of rest)
  pub whole : EachMember P (members_view rest) → EachMember P (members_view all)
  pub part : EachMember P (members_view all) → EachMember P (members_view rest)

pub rest-start : (P : List ℕ → Data → Type 0) (all : Entries) → IsStrictlySortedBy key_cmp (keys_of all) → Rest P all all
rest-start P all sorted = record { sorted = sorted; whole = λ h. h; part = λ h. h }

pub rest-next : (P : List ℕ → Data → Type 0) (all : Entries) (e : String Global × Value) (es : Entries) → Rest P all (e ∷ es) → P (string_bytes e.0) (view e.1) → Rest P all es
unfolding IsStrictlySortedBy
rest-next P all e es r here = record { sorted = r.sorted.1; whole = λ h. r.whole (here, h); part = λ h. (r.part h).1 }

pub rest-refused : (P : List ℕ → Data → Type 0) (all : Entries) (e : String Global × Value) (es : Entries) → Rest P all (e ∷ es) → ¬ P (string_bytes e.0) (view e.1) → ¬ EachMember P (members_view all)
rest-refused P all e es r refused = λ h. refused (r.part h).0

-- what f says of the member at the key is found in the rest, or else is v
pub record Finds {A : Type 0} (key : List ℕ) (f : Data → Option A) (all rest : Entries) (v : Option A) : Type 0 where
  pub found : option_and_then f (get_member key (members_view all)) ≡ unwrap_or (option_map f (get_member key (members_view rest))) v

none-or : {A : Type 0} (f : Data → Option A) (o : Option Data) → option_and_then f o ≡ unwrap_or (option_map f o) None
none-or f None = refl
none-or f (Some d) = refl

pub finds-start : {A : Type 0} (key : List ℕ) (f : Data → Option A) (all : Entries) → Finds key f all all None
finds-start key f all = record { found = none-or f (get_member key (members_view all)) }

pub finds-same : {A : Type 0} (key : List ℕ) (f : Data → Option A) (all : Entries) (e : String Global × Value) (es : Entries) (v : Option A) → IsStrictlySortedBy key_cmp (keys_of (e ∷ es)) → Finds key f all (e ∷ es) v → key ≡ string_bytes e.0 → Finds key f all es (f (view e.1))
finds-same key f all e es v sorted finds is = record {
  found =
      (let Here : List ℕ → Type 0 = λ k. get_member k (members_view (e ∷ es)) ≡ Some (view e.1) in
      let After : List ℕ → Type 0 = λ k. get_member k (members_view es) ≡ None in
      let here = subst Here (sym is) (get_member-same (string_bytes e.0) (view e.1) (members_view es)) in
      let after = subst After (sym is) (absent-sorted e es sorted) in
      rw after (finds.found ∙ ap (λ o. unwrap_or (option_map f o) v) here));
}

pub finds-other : {A : Type 0} (key : List ℕ) (f : Data → Option A) (all : Entries) (e : String Global × Value) (es : Entries) (v : Option A) → Finds key f all (e ∷ es) v → key ≢ string_bytes e.0 → Finds key f all es v
finds-other key f all e es v finds apart = record {
  found = finds.found ∙ ap (λ o. unwrap_or (option_map f o) v) (get_member-other key (string_bytes e.0) (view e.1) (members_view es) apart);
}

pub finds-end : {A : Type 0} (key : List ℕ) (f : Data → Option A) (all : Entries) (v : Option A) → Finds key f all [] v → option_and_then f (get_member key (members_view all)) ≡ v
finds-end key f all v finds = finds.found

within-some : (least most x n : ℕ) → within least most x ≡ Some n → (least ≤ n) × (n ≤ most)
within-some least most x n is = grind (arith, nat_tests)

whole-some : (least most : ℕ) (o : Option ℕ) (n : ℕ) → option_and_then (within least most) o ≡ Some n → (least ≤ n) × (n ≤ most)
whole-some least most None n is = absurd (cc)
whole-some least most (Some x) n is = within-some least most x n is

pub whole-within : (least most : ℕ) (d : Data) (n : ℕ) → whole least most d ≡ Some n → (least ≤ n) × (n ≤ most)
whole-within least most d n is = whole-some least most (option_and_then as_u64 (as_number d)) n is

pub same_number : (i j : ℕ) → (i == j) ≡ true → i ≡ j
same_number i j same = grind (arith, nat_tests)

pub other_number : (i j : ℕ) → (i == j) ≡ false → i ≢ j
other_number i j apart is = grind (arith, nat_tests)

-- what a write of the table changes
get_or-set_by : {A : Type 0} (xs : List A) (i j : ℕ) (v d : A) → i < length xs → (b : Bool) → (i == j) ≡ b → get_or (set xs i v) j d ≡ (if b then v else get_or xs j d)
get_or-set_by {A} xs i j v d low true same =
    let P : ℕ → Type 0 = λ k. get_or (set xs i v) k d ≡ v in
    subst P (same_number i j same) (get_or-set_same xs i v d low)
get_or-set_by xs i j v d low false apart = get_or-set_other xs i j v d (λ e. other_number i j apart (sym e))

pub get_or-set : {A : Type 0} (xs : List A) (i j : ℕ) (v d : A) → i < length xs → get_or (set xs i v) j d ≡ (if i == j then v else get_or xs j d)
get_or-set xs i j v d low = get_or-set_by xs i j v d low (i == j) refl
