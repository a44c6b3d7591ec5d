-- Copied parts, and witnesses that are numbered.
use Rattle.std.proofs.Common.{rules, ◌≡◌, ℕ, zero, suc, ◌+◌, ◌<◌, ◌≤◌, ◌&&◌, Bool, true, false, cond, inl, inr, Some, None, Option, List, [], ◌∷◌, ◌++◌, map, length, get_or, take, refl, ap, ap₂, sym, subst, ◌∙◌, arith}
use Rattle.std.specs.Prelude.{slice_get, All, nat_lt, if◌then◌else◌}
use Rattle.std.specs.List.{AllZip, AllByRecursion}
use Rattle.std.specs.Cmp.Lexicographic.{pointwise}
use Rattle.std.proofs.lemmas.Bool.{and_parts, and_from, false≢true}
use Rattle.std.proofs.lemmas.Bool.Decides.{nat_tests}
use Rattle.std.proofs.lemmas.List.{take_more, map-append}
use Rattle.std.proofs.lemmas.List.Elements.{All-nil, All-cons}
use Rattle.fs_kinds.specs.declared.reason.OperationName.{OperationName as Name}
use Rattle.fs_model.specs.declared.step.Choice.{Choice}
use Rattle.fs_model.specs.declared.step.Choice.TheVariants.{Word, Success, Failure}
use Rattle.fs_model.specs.contracts.step.ChoicePartialEq.TheImpl as choice_test
use Rattle.fs_model.specs.Witness.{Witness}
use Rattle.fs_cert_evidence.specs.declared.witness.WitnessFile.{WitnessFile}
use Rattle.fs_cert_evidence.specs.CertificateFile.{IsChoiceOfWord, most_number}
use Rattle.fs_cert_evidence.specs.WitnessFile.{in_range, KeepsWitness, IsInRange}
use Rattle.fs_cert_json.specs.Kept.{AreInRangeNames}
use Rattle.fs_model_laws.proofs.Ranked.{order}
use Rattle.fs_model_laws.proofs.Places.{at-more}
use Rattle.fs_cert.specs.inner.Copies.{IsCopiedChoice, AreCopiedChoices, IsCopiedName, IsCopiedWitness, AreCopiedWitnesses, StandsAt, AreNumbered, IsNumbering}
use Rattle.fs_cert.proofs.Zips.{zip_push}

-- ---- in pairs

pub zip_weaker : {X Y : Type 0} (R S : Y → X → Type 0) → ((y : Y) (x : X) → R y x → S y x) → (ys : List Y) (xs : List X) → AllZip R ys xs → AllZip S ys xs
zip_weaker R S weaker [] [] each = tt
zip_weaker R S weaker [] (x ∷ xs) each = absurd each
zip_weaker R S weaker (y ∷ ys) [] each = absurd each
zip_weaker R S weaker (y ∷ ys) (x ∷ xs) each = (weaker y x each.0, zip_weaker R S weaker ys xs each.1)

-- what holds of each second one
pub zip_all : {X Y : Type 0} (R : Y → X → Type 0) (P : X → Type 0) → ((y : Y) (x : X) → R y x → P x) → (ys : List Y) (xs : List X) → AllZip R ys xs → All P xs
zip_all R P gives [] [] each = All-nil P
zip_all R P gives [] (x ∷ xs) each = absurd each
zip_all R P gives (y ∷ ys) [] each = absurd each
zip_all R P gives (y ∷ ys) (x ∷ xs) each = All-cons P x xs (gives y x each.0) (zip_all R P gives ys xs each.1)

-- where the first ones are made of the second ones
pub zip_map : {X Y : Type 0} (f : X → Y) (ys : List Y) (xs : List X) → AllZip (λ y x. y ≡ f x) ys xs → ys ≡ map f xs
zip_map f [] [] each = refl
zip_map f [] (x ∷ xs) each = absurd each
zip_map f (y ∷ ys) [] each = absurd each
zip_map f (y ∷ ys) (x ∷ xs) each = ap₂ (λ u us. u ∷ us) each.0 (zip_map f ys xs each.1)

pub zip_same : {X : Type 0} (ys xs : List X) → AllZip (λ y x. y ≡ x) ys xs → ys ≡ xs
zip_same [] [] each = refl
zip_same [] (x ∷ xs) each = absurd each
zip_same (y ∷ ys) [] each = absurd each
zip_same (y ∷ ys) (x ∷ xs) each = ap₂ (λ u us. u ∷ us) each.0 (zip_same ys xs each.1)

-- ---- copies keep what they are copies of

pub same_choices : (copy choices : List Choice) → AreCopiedChoices copy choices → copy ≡ choices
same_choices copy choices each = zip_same copy choices (zip_weaker IsCopiedChoice (λ y x. y ≡ x) (λ y x is. is.0) copy choices each)

pub same_lists : (copy lists : List (List Choice)) → AllZip AreCopiedChoices copy lists → copy ≡ lists
same_lists copy lists each = zip_same copy lists (zip_weaker AreCopiedChoices (λ y x. y ≡ x) same_choices copy lists each)

pub same_names : (copy : List (Option Name)) (names : List Name) → AllZip IsCopiedName copy names → copy ≡ map in_range names
same_names copy names each = zip_map in_range copy names (zip_weaker IsCopiedName (λ y x. y ≡ in_range x) (λ y x is. is.0) copy names each)

pub copy_keeps : (file : WitnessFile) (w : Witness) → IsCopiedWitness file w → KeepsWitness file w
copy_keeps file w is = record { choices = same_lists file.choices w.choices is.choices; order = same_names file.order w.order is.order }

pub copies_keep : (files : List WitnessFile) (ws : List Witness) → AreCopiedWitnesses files ws → AllZip KeepsWitness files ws
copies_keep files ws each = zip_weaker IsCopiedWitness KeepsWitness copy_keeps files ws each

pub copies_named : (files : List WitnessFile) (ws : List Witness) → AreCopiedWitnesses files ws → All AreInRangeNames ws
copies_named files ws each = zip_all IsCopiedWitness AreInRangeNames
    (λ file w is. zip_all IsCopiedName IsInRange (λ copy name at. at.1) file.order w.order is.order) files ws each

pub copies_worded : (files : List WitnessFile) (ws : List Witness) → AreCopiedWitnesses files ws
    → All (λ w. All (λ choices. All IsChoiceOfWord choices) w.choices) ws
copies_worded files ws each = zip_all IsCopiedWitness (λ w. All (λ choices. All IsChoiceOfWord choices) w.choices)
    (λ file w is. zip_all AreCopiedChoices (λ choices. All IsChoiceOfWord choices)
    (λ copy choices at. zip_all IsCopiedChoice IsChoiceOfWord (λ y x word. word.1) copy choices at) file.choices w.choices is.choices) files ws each

-- ---- the same witness

same_choice : (a b : Choice) → choice_test.eq-value.it a b ≡ true → a ≡ b
same_choice (Word v) (Word w) e = search rules
same_choice Success Success e = refl
same_choice Failure Failure e = refl
same_choice a b e = absurd (false≢true e)

pointwise_same : {X : Type 0} (E : X → X → Bool) → ((x y : X) → E x y ≡ true → x ≡ y) → (xs ys : List X) → pointwise E xs ys ≡ true → xs ≡ ys
pointwise_same E same [] [] e = refl
pointwise_same E same [] (y ∷ ys) e = absurd (false≢true e)
pointwise_same E same (x ∷ xs) [] e = absurd (false≢true e)
pointwise_same E same (x ∷ xs) (y ∷ ys) e =
    let parts = and_parts (E x y) (pointwise E xs ys) e in
    ap₂ (λ u us. u ∷ us) (same x y parts.0) (pointwise_same E same xs ys parts.1)

pub lists_same : (xs ys : List (List Choice)) → pointwise (pointwise choice_test.eq-value.it) xs ys ≡ true → xs ≡ ys
lists_same xs ys e = pointwise_same (pointwise choice_test.eq-value.it) (pointwise_same choice_test.eq-value.it same_choice) xs ys e

-- names that are copied and are those of these operations
unnamed : (name operation : Name) (b : Bool) → cond b (Some name) None ≡ Some operation → name ≡ operation
unnamed name operation true e = cc
unnamed name operation false e = absurd (cc)

named_same : (copy : List (Option Name)) (names operations : List Name) → AllZip IsCopiedName copy names
    → copy ≡ map (λ operation. Some operation) operations → names ≡ operations
named_same [] [] [] each same = refl
named_same [] [] (o ∷ os) each same = absurd (cc)
named_same [] (n ∷ ns) os each same = absurd each
named_same (c ∷ cs) [] os each same = absurd each
named_same (c ∷ cs) (n ∷ ns) [] each same = absurd (cc)
named_same (c ∷ cs) (n ∷ ns) (o ∷ os) each same =
    let first : c ≡ Some o = cc in
    let others : cs ≡ map (λ operation. Some operation) os = cc in
    ap₂ (λ u us. u ∷ us) (unnamed n o (nat_lt n.hart 256 && nat_lt n.at 256) (sym each.0.0 ∙ first)) (named_same cs ns os each.1 others)

abbrev witness_with : List (List Choice) → List Name → Witness
witness_with choices order = record { choices = choices; order = order }

pub copy_is : (file : WitnessFile) (w v : Witness) → IsCopiedWitness file w → file.choices ≡ v.choices
    → file.order ≡ map (λ operation. Some operation) v.order → w ≡ v
copy_is file w v is choices order =
    let first : w.choices ≡ v.choices = sym (same_lists file.choices w.choices is.choices) ∙ choices in
    let second : w.order ≡ v.order = named_same file.order w.order v.order is.order order in
    ap₂ witness_with first second

choice_itself : (a : Choice) → choice_test.eq-value.it a a ≡ true
choice_itself (Word w) = search rules
choice_itself Success = refl
choice_itself Failure = refl

pointwise_itself : {X : Type 0} (E : X → X → Bool) → ((x : X) → E x x ≡ true) → (xs : List X) → pointwise E xs xs ≡ true
pointwise_itself E itself [] = refl
pointwise_itself E itself (x ∷ xs) = and_from _ _ (itself x) (pointwise_itself E itself xs)

pub lists_itself : (xs ys : List (List Choice)) → xs ≡ ys → pointwise (pointwise choice_test.eq-value.it) xs ys ≡ true
lists_itself xs ys same =
    subst (λ zs. pointwise (pointwise choice_test.eq-value.it) xs zs ≡ true) same
    (pointwise_itself (pointwise choice_test.eq-value.it) (pointwise_itself choice_test.eq-value.it choice_itself) xs)

in_range_name : (name : Name) → IsInRange name → in_range name ≡ Some name
in_range_name name is =
    let hart : nat_lt name.hart 256 ≡ true = grind (arith, nat_tests) in
    let at : nat_lt name.at 256 ≡ true = grind (arith, nat_tests) in
    ap (λ b. if b && nat_lt name.at 256 then Some name else None) hart ∙ ap (λ b. if b then Some name else None) at

pub names_all : (copy : List (Option Name)) (names : List Name) → AllZip IsCopiedName copy names → copy ≡ map (λ operation. Some operation) names
names_all [] [] each = refl
names_all [] (n ∷ ns) each = absurd each
names_all (c ∷ cs) [] each = absurd each
names_all (c ∷ cs) (n ∷ ns) each = ap₂ (λ u us. u ∷ us) (each.0.0 ∙ in_range_name n each.0.1) (names_all cs ns each.1)

-- ---- numbers

-- the witness of the file of this number
pub one_at : (R : WitnessFile → Witness → Type 0) (files : List WitnessFile) (ws : List Witness) (n : ℕ) (file : WitnessFile)
    → AllZip R files ws → slice_get files n ≡ Some file → (w : Witness) × (slice_get ws n ≡ Some w) × R file w
one_at R [] ws n file each at = absurd (cc)
one_at R (f ∷ files) [] n file each at = absurd each
one_at R (f ∷ files) (w ∷ ws) zero file each at = let same : f ≡ file = cc in (w, refl, subst (λ g. R g w) same each.0)
one_at R (f ∷ files) (w ∷ ws) (suc n) file each at = one_at R files ws n file each.1 at

pub as_long : {X Y : Type 0} (R : Y → X → Type 0) (ys : List Y) (xs : List X) → AllZip R ys xs → length ys ≡ length xs
as_long R [] [] each = refl
as_long R [] (x ∷ xs) each = absurd each
as_long R (y ∷ ys) [] each = absurd each
as_long R (y ∷ ys) (x ∷ xs) each = ap suc (as_long R ys xs each.1)

-- more witnesses leave the numbers as they are
pub numbered_more : (ws more all : List Witness) (ns : List ℕ) → AreNumbered ws all ns → AreNumbered (ws ++ more) all ns
numbered_more ws more all ns each = zip_weaker (StandsAt ws) (StandsAt (ws ++ more)) (λ w n at. (at-more ws more n w at.0, at.1)) all ns each

abbrev pub Adds : List WitnessFile → List WitnessFile → Witness → ℕ → Type 0
Adds old new w n = (ws : List Witness) → AreCopiedWitnesses old ws
    → (more : List Witness) × AreCopiedWitnesses new (ws ++ more) × StandsAt (ws ++ more) w n

pub numbering_next : (old new : List WitnessFile) (ns ms : List ℕ) (all : List Witness) (w : Witness) (n : ℕ) → IsNumbering old ns all → Adds old new w n
    → ms ≡ ns ++ n ∷ [] → IsNumbering new ms (all ++ w ∷ [])
numbering_next old new ns ms all w n is adds pushed =
    let added = adds is.0 is.1 in
    let all_ws = is.0 ++ added.0 in (
      all_ws,
      added.1,
      subst (AreNumbered all_ws (all ++ w ∷ [])) (sym pushed)
          (zip_push (StandsAt all_ws) all ns w n (numbered_more is.0 added.0 all ns is.2) added.2),
    )

pub mapped_next : {A B : Type 0} (f : A → B) (xs : List A) (i : ℕ) (x : A) (y : B) → i < length xs → x ≡ get_or xs i x → f x ≡ y
    → map f (take (i + 1) xs) ≡ map f (take i xs) ++ y ∷ []
mapped_next f xs i x y low here is =
    ap (map f) (take_more xs i x low ∙ ap (λ z. take i xs ++ z ∷ []) (sym here))
    ∙ (map-append f (take i xs) (x ∷ []) ∙ ap (λ z. map f (take i xs) ++ z ∷ []) is)

pub numbers_small : (ws all : List Witness) (ns : List ℕ) → AreNumbered ws all ns → AllByRecursion (λ n. n ≤ most_number) ns
numbers_small ws [] [] each = tt
numbers_small ws [] (n ∷ ns) each = absurd each
numbers_small ws (w ∷ all) [] each = absurd each
numbers_small ws (w ∷ all) (n ∷ ns) each = (each.0.1, numbers_small ws all ns each.1)

-- none of the files so far is a copy, and neither is the next one
pub none_next : (files : List WitnessFile) (w : Witness) (n : ℕ) (item : WitnessFile)
    → ((k : ℕ) (file : WitnessFile) → k < n → slice_get files k ≡ Some file → IsCopiedWitness file w → ⊥)
    → slice_get files n ≡ Some item → (IsCopiedWitness item w → ⊥)
    → (k : ℕ) (file : WitnessFile) → k < n + 1 → slice_get files k ≡ Some file → IsCopiedWitness file w → ⊥
none_next files w n item so_far here unlike k file low at copied = elim (order k n) [
  | inl less ↦ so_far k file less at copied
  | inr rest ↦ elim rest [
    | inl same ↦ (
        let own : file ≡ item = (let e : Some file ≡ Some item = sym at ∙ (ap (slice_get files) same ∙ here) in cc) in
        unlike (subst (λ f. IsCopiedWitness f w) own copied)
        )
    | inr more ↦ absurd (omega (arith, low, more))
  ]
]
