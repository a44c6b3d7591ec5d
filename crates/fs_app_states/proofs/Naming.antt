-- Names in a set, and the tests of a log that aren't among them.
use Rattle.std.proofs.Common.{◌≡◌, ◌∙◌, ap, sym, refl, ℕ, ◌+◌, ◌<◌, List, [], ◌∷◌, ◌++◌, Bool, true, false, not, ◌||◌, cond, Bor, length, take, drop, map}
use Rattle.std.specs.BTreeSet.{BTreeSet, contains, Updates, IsUnchanged}
use Rattle.std.specs.Cmp.Lexicographic.{slice_cmp}
use Rattle.std.specs.List.{list_any, slice_index_or}
use Rattle.std.specs.Ordering.{nat_cmp, is_eq, ordering_reverse}
use Rattle.std.specs.Str.{bytes_eq}
use Rattle.std.specs.declared.cmp.Ordering.{Ordering}
use Rattle.std.specs.declared.cmp.Ordering.TheVariants.{Less, Equal, Greater}
use Rattle.std.proofs.lemmas.Cmp.{nat_list_cmp_total}
use Rattle.std.proofs.lemmas.List.{append_assoc, drop_more, map-append, take_more}
use Rattle.std.proofs.lemmas.List.Folds.{list_any-append}
use Rattle.std.proofs.lemmas.Map.Text.{is_eq-slice_cmp}
use Rattle.fs_app_states.specs.Left.{left_line, left_over}

abbrev pub Key : Type 0
Key = Bor (List ℕ)

abbrev pub order : Key → Key → Ordering
order a b = slice_cmp nat_cmp a.now b.now

-- the set has exactly these names
abbrev pub Holds : BTreeSet Key → (names : List (List ℕ)) → Type 0
Holds set names = (q : Key) → contains order set q ≡ list_any (bytes_eq q.now) names

-- the text has the lines of the blocks so far
abbrev pub IsLeft : (text : List ℕ) → BTreeSet Key → (names rest whole : List (List ℕ)) → Type 0
IsLeft text set names rest whole =
    (known : List (List ℕ)) × Holds set known × (text ++ left_over known rest ≡ left_over names whole)

turned : (o : Ordering) → is_eq (ordering_reverse o) ≡ is_eq o
turned Less = refl
turned Equal = refl
turned Greater = refl

same_turned : (a b : List ℕ) → is_eq (slice_cmp nat_cmp a b) ≡ bytes_eq b a
same_turned a b = ap is_eq (nat_list_cmp_total.antisymm a b) ∙ turned (slice_cmp nat_cmp b a) ∙ is_eq-slice_cmp b a

one_more : (a b : Bool) → cond a true b ≡ (b || (a || false))
one_more true true = refl
one_more true false = refl
one_more false true = refl
one_more false false = refl

-- a name more
pub holds_more : (s n : BTreeSet Key) (k : Key) (names : List (List ℕ)) → Holds s names → Updates order s n k true
    → Holds n (names ++ k.now ∷ [])
holds_more s n k names h updates q =
    updates.0 q
    ∙ ap (λ (b : Bool). cond b true (contains order s q)) (same_turned k.now q.now)
    ∙ ap (cond (bytes_eq q.now k.now) true) (h q)
    ∙ one_more (bytes_eq q.now k.now) (list_any (bytes_eq q.now) names)
    ∙ sym (list_any-append (bytes_eq q.now) names (k.now ∷ []))

left_at : (b : Bool) (name : List ℕ) (known rest : List (List ℕ)) → list_any (bytes_eq name) known ≡ b
    → left_over known (name ∷ rest) ≡ cond b (left_over known rest) (left_line name ++ left_over (known ++ name ∷ []) rest)
left_at b name known rest is = ap (λ (c : Bool). cond c (left_over known rest) (left_line name ++ left_over (known ++ name ∷ []) rest)) is

-- a test whose name is new
pub left_new : (text : List ℕ) (s n : BTreeSet Key) (k : Key) (names rest whole : List (List ℕ)) → IsLeft text s names (k.now ∷ rest) whole
    → contains order s k ≡ false → Updates order s n k true → IsLeft (text ++ left_line k.now) n names rest whole
left_new text s n k names rest whole is new updates = (
  is.0 ++ k.now ∷ [],
  holds_more s n k is.0 is.1 updates,
  append_assoc text (left_line k.now) _
      ∙ ap (λ (more : List ℕ). text ++ more) (sym (left_at false k.now is.0 rest (sym (is.1 k) ∙ new)))
      ∙ is.2,
)

-- a test whose name isn't
pub left_known : (text : List ℕ) (s n : BTreeSet Key) (k : Key) (names rest whole : List (List ℕ)) → IsLeft text s names (k.now ∷ rest) whole
    → contains order s k ≡ true → IsUnchanged s n → IsLeft text n names rest whole
left_known text s n k names rest whole is old unchanged = (
  is.0,
  λ q. ap (λ keys. list_any (λ key. is_eq (order q key)) keys) unchanged ∙ is.1 q,
  ap (λ (more : List ℕ). text ++ more) (sym (left_at true k.now is.0 rest (sym (is.1 k) ∙ old))) ∙ is.2,
)

-- one of a list more
pub names_next : {A : Type 0} (f : A → List ℕ) (xs : List A) (i : ℕ) (x : A) (bytes : List ℕ) → i < length xs → x ≡ slice_index_or xs i x
    → bytes ≡ f x → map f (take i xs) ++ bytes ∷ [] ≡ map f (take (i + 1) xs)
names_next {A} f xs i x bytes low is same =
    ap (λ (b : List ℕ). map f (take i xs) ++ b ∷ []) same
    ∙ sym (ap (map f) (take_more xs i x low ∙ ap (λ (y : A). take i xs ++ y ∷ []) (sym is)) ∙ map-append f (take i xs) (x ∷ []))

pub names_left : {A : Type 0} (f : A → List ℕ) (xs : List A) (i : ℕ) (x : A) → i < length xs → x ≡ slice_index_or xs i x
    → map f (drop i xs) ≡ f x ∷ map f (drop (i + 1) xs)
names_left {A} f xs i x low is = ap (map f) (drop_more xs i x low ∙ ap (λ (y : A). y ∷ drop (i + 1) xs) (sym is))

pub was_new : (added b : Bool) → added ≡ not b → added ≡ true → b ≡ false
was_new added true is yes_added = cc (sym is ∙ yes_added)
was_new added false is yes_added = refl

pub was_known : (added b : Bool) → added ≡ not b → added ≡ false → b ≡ true
was_known added true is none_added = refl
was_known added false is none_added = cc (sym is ∙ none_added)
