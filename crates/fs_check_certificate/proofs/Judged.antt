-- What the parts of a check say of the whole certificate.
use Rattle.std.proofs.Common.{◌≡◌, ◌≢◌, ℕ, suc, ◌+◌, inl, inr, ◌⊎◌, Bool, true, false, ◌&&◌, Option, None, Some, List, [], ◌∷◌, ◌++◌, map, length, refl, sym, subst, ap, ◌∙◌, arith}
use Rattle.std.specs.Prelude.{slice_get, is_some, ◌==◌}
use Rattle.std.specs.List.{AllZip}
use Rattle.std.proofs.lemmas.Bool.{false≢true, and_parts, eqb-true, eq-eqb}
use Rattle.fs_kinds.specs.declared.kind.Kind.TheVariants.{RwRw}
use Rattle.fs_kinds.specs.declared.placement.Entry.{Entry}
use Rattle.fs_kinds.specs.declared.reason.Reason.{Reason}
use Rattle.fs_kinds.specs.declared.reason.Reason.TheVariants as reason
use Rattle.fs_kinds.specs.declared.slot.Slot.{Slot}
use Rattle.fs_kinds.specs.Placement.{all_with}
use Rattle.fs_board_offers.specs.Offers.{Offers}
use Rattle.fs_model.specs.declared.test.Test.{Test}
use Rattle.fs_model.specs.Slots.{slots}
use Rattle.fs_model.specs.Witness.{Witness}
use Rattle.fs_cert_evidence.specs.Certificate.{Certificate, Answer, Fenced, NoneForbids, Cycles, Listed, Inferred, IsEmpty, Link, Inference, Item, SplitAt, Costly, Refuted, Bounded}
use Rattle.fs_board_offers.specs.Parts.{Part, undecided, filled, child_parts, slots_in_part}
use Rattle.fs_board_offers.specs.Refusals.{IsBad, IsBadAnswer, IsCyclesRefusal, Fails, IsRefusal, IsRefusedAfter, IsPlacedRefusal}
use Rattle.fs_board_offers.specs.Valid.{Forbid, Refutes, IsAnswered, IsValidFor, IsValidForNone}
use Rattle.fs_cert_json.specs.declared.certificate.Certificate.{Certificate as Kept}
use Rattle.fs_cert_json.specs.declared.certificate.CertifiedCycles.{CertifiedCycles}
use Rattle.fs_cert_json.specs.declared.certificate.CertifiedCycles.TheVariants.{Listed as KeptList, Inferred as KeptInferences}
use Rattle.fs_cert_json.specs.Kept.{KeepsCertificate, KeepsCycles, item_of}
use Rattle.fs_cert_evidence.specs.Inferences.{inference_of}
use Rattle.fs_check_certificate.specs.Cycles.{IsCyclesVerdict, count_in}
use Rattle.fs_check_certificate.specs.inner.Filled.{IsPlacementFor}
use Rattle.fs_check_certificate.specs.inner.Judgements.{IsPlacedVerdict}
use Rattle.fs_check_certificate.specs.Leaves.{Decides}
use Rattle.fs_check_certificate.specs.inner.Walks.{IsWalked}
use Rattle.fs_check_certificate.proofs.Against.{is_of_cycles, of_cycles}
use Rattle.fs_check_certificate.proofs.Walking.{undecided_at, slots_undecided}

-- ---- refusals by the tree

abbrev is_of_tree : Reason → Bool
is_of_tree reason.Tree = true
is_of_tree (reason.Node k) = true
is_of_tree (reason.Witness j) = true
is_of_tree other = false

module _ (t : Test) (offers : Offers) (c : Certificate) (p : List Entry) where
  of_tree : (parts : List Part) (items : List Item) (k : ℕ) (r : Reason) → Fails t offers c p parts items k r → is_of_tree r ≡ true
  of_tree [] [] k r failing = absurd failing
  of_tree [] (item ∷ items) k r failing = ap is_of_tree failing
  of_tree (part ∷ parts) [] k r failing = ap is_of_tree failing
  of_tree (part ∷ parts) (SplitAt j ∷ items) k r failing = elim failing [
    | inl here ↦ ap is_of_tree here.1
    | inr later ↦ of_tree (child_parts offers later.0 part ++ parts) items (k + 1) r later.3
  ]
  of_tree (part ∷ parts) (Costly ∷ items) k r failing = elim failing [
    | inl here ↦ ap is_of_tree here.1
    | inr later ↦ of_tree parts items (k + 1) r later.1
  ]
  of_tree (part ∷ parts) (Refuted j ∷ items) k r failing = elim failing [
    | inl here ↦ ap is_of_tree here.1
    | inr later ↦ of_tree parts items (k + 1) r later.1
  ]
  of_tree (part ∷ parts) (Bounded js ∷ items) k r failing = elim failing [
    | inl here ↦ ap is_of_tree here.2
    | inr others ↦ elim others [
      | inl here ↦ ap is_of_tree here.2
      | inr later ↦ of_tree parts items (k + 1) r later.1
    ]
  ]

  -- a failure of the tree, where the cycles are right
  placed : (why : Reason) → is_of_tree why ≡ true → Forbid t p c.cycles
      → Fails t offers c p (undecided offers ∷ []) c.tree 0 why → IsPlacedRefusal t offers c p why
  placed reason.Tree of forbid failing = (forbid, failing)
  placed (reason.Node k) of forbid failing = (forbid, failing)
  placed (reason.Witness j) of forbid failing = (forbid, failing)
  placed other of forbid failing = absurd (false≢true of)

  -- a reason against the cycles
  against : (why : Reason) → is_of_cycles why ≡ true → IsCyclesRefusal t p c.cycles why
      → IsPlacedRefusal t offers c p why
  against reason.Cycles of refused = refused
  against (reason.Cycle k) of refused = refused
  against other of refused = absurd (false≢true of)

  pub cycles_against : (why : Option Reason) → is_some why ≡ true → IsCyclesVerdict t p c.cycles why
      → IsPlacedVerdict t offers c p why
  cycles_against None some verdict = absurd (cc)
  cycles_against (Some why) some refused = against why (of_cycles t p c.cycles why refused) refused

  -- nothing against the cycles, and what is said against the tree
  pub tree_against : (before why : Option Reason) → is_some before ≡ false → IsCyclesVerdict t p c.cycles before
      → IsWalked t offers c p (undecided offers ∷ []) c.tree why → IsPlacedVerdict t offers c p why
  tree_against None None none forbid walked = (forbid, walked)
  tree_against None (Some why) none forbid failing =
      placed why (of_tree (undecided offers ∷ []) c.tree 0 why failing) forbid failing
  tree_against (Some r) why none forbid walked = absurd (cc)

  refused_after : (why : Reason) → IsAnswered offers c.answer p → IsPlacedRefusal t offers c p why
      → IsRefusedAfter t offers c why c.answer
  refused_after why answered refused =
      let is = answered.answered in
      subst (IsRefusedAfter t offers c why) (sym is)
      (p, subst (λ (answer : Answer). IsAnswered offers answer p) is answered, refused)

  -- where the answer is one, a reason against the cycles or the tree
  pub placed_refused : (why : Reason) → IsAnswered offers c.answer p → IsPlacedVerdict t offers c p (Some why)
      → IsRefusal t offers c why
  placed_refused reason.Answer answered refused =
      absurd (false≢true (of_tree (undecided offers ∷ []) c.tree 0 reason.Answer refused.1))
  placed_refused why answered refused = refused_after why answered refused

  -- and where nothing is said against them
  pub placed_valid : IsAnswered offers c.answer p → IsPlacedVerdict t offers c p None → IsValidFor t offers c p
  placed_valid answered whole = record { answered = answered; cycles = whole.0; tree = whole.1 }

-- ---- answers of a placement

-- the answer is none of the offers
pub bad_answer : (t : Test) (offers : Offers) (c : Certificate) (n : ℕ) (fences : List (List ℕ)) (found : Option (List Entry)) → c.answer ≡ Fenced n fences
    → found ≡ None → IsPlacementFor offers (Fenced n fences) found → IsRefusal t offers c reason.Answer
bad_answer t offers c n fences found is none given =
    subst (IsBad offers c) (sym is) (subst (IsPlacementFor offers (Fenced n fences)) none given)

-- it is this placement
pub good_answer : (offers : Offers) (c : Certificate) (answer : Answer) (found : Option (List Entry)) (p : List Entry) → c.answer ≡ answer
    → found ≡ Some p → IsPlacementFor offers answer found → IsAnswered offers c.answer p
good_answer offers c answer found p is some given =
    subst (λ (a : Answer). IsAnswered offers a p) (sym is) (subst (IsPlacementFor offers answer) some given)

-- ---- answers of none

zip_length : {A B : Type 0} (R : A → B → Type 0) (xs : List A) (ys : List B) → AllZip R xs ys → length xs ≡ length ys
zip_length R [] [] all = refl
zip_length R [] (y ∷ ys) all = absurd all
zip_length R (x ∷ xs) [] all = absurd all
zip_length R (x ∷ xs) (y ∷ ys) all = ap suc (zip_length R xs ys all.1)

length_map : {A B : Type 0} (f : A → B) (xs : List A) → length (map f xs) ≡ length xs
length_map f [] = refl
length_map f (x ∷ xs) = ap suc (length_map f xs)

abbrev bare : {A B : Type 0} → (count : ℕ) → List A → List B → Bool
bare count tree witnesses = ((count == 0) && (length tree == 0)) && (length witnesses == 1)

-- how many cycles or inferences there are
count_of : Cycles → ℕ
count_of (Listed cycles) = length cycles
count_of (Inferred inferences) = length inferences

kept_count : (kept : CertifiedCycles) (said : Cycles) → KeepsCycles kept said → count_in kept ≡ count_of said
unfolding count_of
kept_count (KeptList kept) (Listed cycles) keeps = zip_length _ kept cycles keeps
kept_count (KeptList kept) (Inferred inferences) keeps = absurd keeps
kept_count (KeptInferences kept) (Listed cycles) keeps = absurd keeps
kept_count (KeptInferences kept) (Inferred inferences) keeps =
    sym (length_map inference_of kept) ∙ ap length (sym keeps)

-- what is kept is bare where the certificate is
kept_bare : (kept : Kept) (c : Certificate) → KeepsCertificate kept c
    → bare (count_in kept.cycles) kept.tree kept.witnesses ≡ bare (count_of c.cycles) c.tree c.witnesses
kept_bare kept c keeps =
    let cycles = kept_count kept.cycles c.cycles keeps.cycles in
    let tree = sym (length_map item_of kept.tree) ∙ ap length (sym keeps.tree) in
    let witnesses = zip_length _ kept.witnesses c.witnesses keeps.witnesses in
    ap (λ n. ((n == 0) && (length kept.tree == 0)) && (length kept.witnesses == 1)) cycles
    ∙ (ap (λ n. ((count_of c.cycles == 0) && (n == 0)) && (length kept.witnesses == 1)) tree
    ∙ ap (λ n. ((count_of c.cycles == 0) && (length c.tree == 0)) && (n == 1)) witnesses)

empty : {A : Type 0} (xs : List A) → (length xs == 0) ≡ true → xs ≡ []
empty [] none = refl
empty (x ∷ xs) none = absurd (let n = eqb-true (length (x ∷ xs)) 0 none in omega (arith, n))

no_cycles : (cycles : Cycles) → (count_of cycles == 0) ≡ true → IsEmpty cycles
unfolding count_of
no_cycles (Listed cycles) none = empty cycles none
no_cycles (Inferred inferences) none = empty inferences none

none_counted : (cycles : Cycles) → IsEmpty cycles → (count_of cycles == 0) ≡ true
unfolding count_of
none_counted (Listed cycles) none = ap (λ (xs : List (List Link)). length xs == 0) none
none_counted (Inferred inferences) none = ap (λ (xs : List Inference). length xs == 0) none

not_bare : {A B : Type 0} (cycles : Cycles) (none : Bool) (tree : List A) (witnesses : List B)
    → (count_of cycles == 0) ≡ none → ((none && (length tree == 0)) && (length witnesses == 1)) ≡ false
    → (IsEmpty cycles → ⊥) ⊎ ((tree ≢ []) ⊎ (length witnesses ≢ 1))
not_bare cycles false tree witnesses some unlike = inl (λ empty. false≢true (sym some ∙ none_counted cycles empty))
not_bare cycles true (x ∷ tree) witnesses none unlike = inr (inl (λ e. absurd (cc)))
not_bare cycles true [] witnesses none unlike =
    inr (inr (λ one. false≢true (sym unlike ∙ eq-eqb (length witnesses) 1 one)))

-- a certificate of none that has more or less than its witness is refused
pub bad_none : (offers : Offers) (kept : Kept) (c : Certificate) → KeepsCertificate kept c → c.answer ≡ NoneForbids
    → bare (count_in kept.cycles) kept.tree kept.witnesses ≡ false → IsBadAnswer offers c
bad_none offers kept c keeps is unlike =
    subst (IsBad offers c) (sym is)
    (not_bare c.cycles (count_of c.cycles == 0) c.tree c.witnesses refl (sym (kept_bare kept c keeps) ∙ unlike))

only_one : (ws : List Witness) (w : Witness) → length ws ≡ 1 → slice_get ws 0 ≡ Some w → ws ≡ w ∷ []
only_one [] w one at = absurd (cc)
only_one (v ∷ []) w one at = cc
only_one (v ∷ u ∷ ws) w one at = absurd (omega (arith, one))

-- one whose witness shows the outcome with rw,rw in every slot is valid
pub none_valid : (t : Test) (kept : Kept) (c : Certificate) → KeepsCertificate kept c → c.answer ≡ NoneForbids
    → bare (count_in kept.cycles) kept.tree kept.witnesses ≡ true → (b : Bool) → b ≡ true
    → Decides b (Refutes t c.witnesses (all_with (Some RwRw) (slots t)) 0) → IsValidForNone t c
none_valid t kept c keeps is alike b holds decided =
    let shown = subst (λ (d : Bool). Decides d (Refutes t c.witnesses (all_with (Some RwRw) (slots t)) 0)) holds decided in
    let all = and_parts ((count_of c.cycles == 0) && (length c.tree == 0)) (length c.witnesses == 1)
    (sym (kept_bare kept c keeps) ∙ alike) in
    let both = and_parts (count_of c.cycles == 0) (length c.tree == 0) all.0 in
    let witness : Witness = shown.1.0 in
    record {
      answered = is;
      cycles = no_cycles c.cycles both.0;
      tree = empty c.tree both.1;
      witness = witness;
      only = only_one c.witnesses witness (eqb-true (length c.witnesses) 1 all.1) shown.1.1;
      execution = shown.0;
      given = shown.1.2.0;
      refutes = shown.1.2.1;
    }

-- one whose witness doesn't is refused
pub none_refused : (t : Test) (offers : Offers) (kept : Kept) (c : Certificate) → KeepsCertificate kept c → c.answer ≡ NoneForbids
    → bare (count_in kept.cycles) kept.tree kept.witnesses ≡ true → (b : Bool) → b ≡ false
    → Decides b (Refutes t c.witnesses (all_with (Some RwRw) (slots t)) 0) → IsRefusal t offers c (reason.Witness 0)
none_refused t offers kept c keeps is alike b fails decided =
    let unshown = subst (λ (d : Bool). Decides d (Refutes t c.witnesses (all_with (Some RwRw) (slots t)) 0)) fails decided in
    let all = and_parts ((count_of c.cycles == 0) && (length c.tree == 0)) (length c.witnesses == 1)
    (sym (kept_bare kept c keeps) ∙ alike) in
    let both = and_parts (count_of c.cycles == 0) (length c.tree == 0) all.0 in
    let good : IsBadAnswer offers c → ⊥ = λ bad. elim (subst (IsBad offers c) is bad) [
      | inl some ↦ some (no_cycles c.cycles both.0)
      | inr others ↦ elim others [
        | inl some ↦ some (empty c.tree both.1)
        | inr more ↦ more (eqb-true (length c.witnesses) 1 all.1)
      ]
    ] in
    subst (IsRefusedAfter t offers c (reason.Witness 0)) (sym is) (good, unshown, refl)

filled_undecided : (ss : List Slot) → filled (map undecided_at ss) ≡ all_with (Some RwRw) ss
filled_undecided [] = refl
filled_undecided (s ∷ ss) = ap (λ es. record { slot = s; kind = Some RwRw } ∷ es) (filled_undecided ss)

-- the part in which no slot is decided, filled
pub decides_all : (t : Test) (ws : List Witness) (is : Bool) (part : Part) (ss : List Slot) → part ≡ map undecided_at ss → ss ≡ slots t
    → (slots_in_part part ≡ slots t → Decides is (Refutes t ws (filled part) 0)) → Decides is (Refutes t ws (all_with (Some RwRw) (slots t)) 0)
decides_all t ws is part ss open_part all decides =
    let whole : part ≡ map undecided_at (slots t) = open_part ∙ ap (map undecided_at) all in
    subst (λ (es : List Entry). Decides is (Refutes t ws es 0)) (ap filled whole ∙ filled_undecided (slots t)) (decides (ap slots_in_part whole ∙ slots_undecided (slots t)))
