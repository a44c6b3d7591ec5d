-- What is put together is a valid certificate.
use Rattle.std.proofs.Common.{◌≡◌, ◌≢◌, ◌≤◌, true, false, not, Some, None, List, [], ◌∷◌, map, refl, ap, sym, subst, ◌∙◌, arith}
use Rattle.std.specs.Prelude.{All}
use Rattle.std.specs.List.{AllZip, AllByRecursion, list_all}
use Rattle.std.proofs.lemmas.Bool.{and_from}
use Rattle.std.proofs.lemmas.List.Elements.{All-nil, All-cons}
use Rattle.fs_kinds.specs.declared.placement.Entry.{Entry}
use Rattle.fs_kinds.specs.declared.slot.Slot.{Slot}
use Rattle.fs_kinds.specs.Placement.{slots_of, all_with}
use Rattle.fs_board_offers.specs.Offers.{Offers, cost, are_offered, IsPlacement, is_better, slots}
use Rattle.fs_kinds.proofs.Entries.{slots_of-all_with}
use Rattle.fs_model.specs.declared.test.Test.{Test}
use Rattle.fs_model.specs.Allows.{RefutesAll}
use Rattle.fs_model.specs.Execution.{Execution}
use Rattle.fs_model.specs.Witness.{Witness, IsOfWitness}
use Rattle.fs_cert_evidence.specs.declared.witness.WitnessFile.{WitnessFile}
use Rattle.fs_board_offers.specs.Parts.{undecided, floor}
use Rattle.fs_board_offers.specs.Pruning.{is_pruned}
use Rattle.fs_cert_evidence.specs.Certificate as said
use Rattle.fs_cert_evidence.specs.Certificate.{Certificate, First, Second, Fourth, NoneForbids, Cycles, Listed, Inferred, Item, fence_words}
use Rattle.fs_cert_evidence.specs.CertificateFile.{is_sayable, numbers_in, most_number}
use Rattle.fs_board_offers.specs.Valid.{Covers}
use Rattle.fs_cert_json.specs.declared.certificate.Certificate.{Certificate as Kept}
use Rattle.fs_cert_json.specs.declared.certificate.Item.{Item as CodeItem}
use Rattle.fs_cert_json.specs.declared.certificate.CertifiedCycles.TheVariants.{Inferred as KeptInferences}
use Rattle.fs_cert_json.specs.Kept.{KeepsCycles, answer_of, version_of, item_of}
use Rattle.fs_cert_evidence.specs.WitnessFile.{KeepsWitness}
use Rattle.fs_board_offers.proofs.Floors.{cost-alone}
use Rattle.fs_board_offers.proofs.Ranked.{better-irreflexive}
use Rattle.fs_cert_evidence.specs.Evidence.{Refuted, ShowsForbidden}
use Rattle.fs_board_offers.specs.Questions.{Question}
use Rattle.fs_board_offers.specs.Sizes.{HasNoRunFault}
use Rattle.fs_cert.specs.Certified.{Certifies, CertifiesNone}
use Rattle.fs_cert.specs.Cycles.{version_for}
use Rattle.fs_cert.specs.inner.Copies.{AreCopiedWitnesses}
use Rattle.fs_cert.specs.inner.Fenced.{IsFenced}
use Rattle.fs_cert.specs.inner.Items.{AreSayable}
use Rattle.fs_cert.proofs.Copying.{copies_keep, copies_named, copies_worded}
use Rattle.fs_cert.proofs.Refutations.{are_certified}
use Rattle.fs_cert.proofs.Walk.{pruned_in}

all_from : {X : Type 0} (P : X → Type 0) (xs : List X) → AllByRecursion P xs → All P xs
all_from P [] each = All-nil P
all_from P (x ∷ xs) each = All-cons P x xs each.0 (all_from P xs each.1)

-- the fourth version can say the items of the second
item_said : (cycles : Cycles) (item : Item) → is_sayable Second item ≡ true → is_sayable (version_for cycles) item ≡ true
item_said (Listed cycles) item is = is
item_said (Inferred inferences) (said.SplitAt slot) is = is
item_said (Inferred inferences) said.Costly is = is
item_said (Inferred inferences) (said.Refuted j) is = is
item_said (Inferred inferences) (said.Bounded []) is = is
item_said (Inferred inferences) (said.Bounded (j ∷ js)) is = is

items_said : (cycles : Cycles) (items : List Item) → AreSayable items → list_all (is_sayable (version_for cycles)) items ≡ true
items_said cycles [] each = refl
items_said cycles (item ∷ items) each = and_from _ _ (item_said cycles item each.0.0) (items_said cycles items each.1)

numbers_said : (items : List Item) → AreSayable items → All (λ leaf. All (λ n. n ≤ most_number) (numbers_in leaf)) items
numbers_said [] each = All-nil _
numbers_said (item ∷ items) each =
    All-cons (λ leaf. All (λ n. n ≤ most_number) (numbers_in leaf)) item items (all_from (λ n. n ≤ most_number) (numbers_in item) each.0.1) (numbers_said items each.1)

-- ---- certificates of fences

abbrev certificate_of : Question → Refuted → Cycles → List CodeItem → List Witness → Certificate
certificate_of q f cycles tree ws = record {
  version = version_for cycles;
  answer = said.Fenced (cost q.offers f.placement) (fence_words f.placement);
  cycles = cycles;
  tree = map item_of tree;
  witnesses = ws;
}

not_first : (cycles : Cycles) → version_for cycles ≢ First
not_first (Listed cycles) is = cc
not_first (Inferred inferences) is = cc

pub fenced_certifies : (q : Question) (f : Refuted) (tree : List CodeItem) (files : List WitnessFile) (made : Kept) (ws : List Witness)
    → IsFenced q f tree files made → AreCopiedWitnesses files ws → ShowsForbidden q.test f → IsPlacement q.offers f.placement
    → AreSayable (map item_of tree)
    → ((c : Certificate) → c.version ≢ First → c.witnesses ≡ ws → Covers q.test q.offers c f.placement (undecided q.offers ∷ []) (map item_of tree))
    → Certifies q.test q.offers (Some f.placement) made
fenced_certifies q f tree files made ws is copied shows placement sayable covers = let said = are_certified made.cycles f.cycles is.cycles in record {
  certificate = certificate_of q f said.said tree ws;
  keeps = record {
    version = said.version ∙ sym is.version;
    answer = sym is.answer;
    cycles = said.keeps;
    tree = ap (map item_of) (sym is.tree_is);
    witnesses = subst (λ l. AllZip KeepsWitness l ws) (sym is.witnesses_are) (copies_keep files ws copied);
  };
  version = refl;
  valid = record {
    answered = record { placement = placement; answered = refl };
    cycles = said.forbid q.test f.placement shows.forbid;
    tree = covers (certificate_of q f said.said tree ws) (not_first said.said) refl;
  };
  judged = said.judged q.test shows.judged;
  in_range = record {
    cycles = said.named;
    witnesses = copies_named files ws copied;
  };
  sayable = record {
    cost = is.most;
    cycles = said.sayable q.test f.placement shows.forbid;
    items = items_said said.said (map item_of tree) sayable;
    numbers = numbers_said (map item_of tree) sayable;
    words = copies_worded files ws copied;
  };
  least = said.least;
}

-- ---- no fence at all

offered-none : (offers : Offers) (ss : List Slot) → are_offered offers (all_with None ss) ≡ true
offered-none offers [] = refl
offered-none offers (s ∷ ss) = and_from _ _ refl (offered-none offers ss)

floor-undecided : (ss : List Slot) → floor (map (λ slot. record { slot = slot; decided = None }) ss) ≡ all_with None ss
floor-undecided [] = refl
floor-undecided (s ∷ ss) = ap (λ (p : List Entry). record { slot = s; kind = None } ∷ p) (floor-undecided ss)

pub least-offered : (offers : Offers) (p : List Entry) → p ≡ all_with None (slots offers) → IsPlacement offers p
least-offered offers p is = record {
  slots = ap slots_of is ∙ slots_of-all_with None (slots offers);
  offered = ap (are_offered offers) is ∙ offered-none offers (slots offers);
}

-- the root alone is a tree for it
pub least-covers : (t : Test) (offers : Offers) (c : Certificate) (p : List Entry) → p ≡ all_with None (slots offers) → c.version ≢ First
    → Covers t offers c p (undecided offers ∷ []) (said.Costly ∷ [])
least-covers t offers c p is later =
    let same : floor (undecided offers) ≡ p = floor-undecided (slots offers) ∙ sym is in
    let no_better : is_better offers (floor (undecided offers)) p ≡ false = ap (λ q. is_better offers q p) same ∙ better-irreflexive offers p in
    let pruned : is_pruned offers (Some p) (undecided offers) [] ≡ true = cost-alone offers p (undecided offers) ∙ ap not no_better in
    (pruned_in c.version offers p (undecided offers) later ∙ pruned, tt)

-- ---- certificates of none

abbrev certificate_by : Witness → Certificate
certificate_by w = record { version = Fourth; answer = NoneForbids; cycles = Inferred []; tree = []; witnesses = w ∷ [] }

pub none_certifies : (t : Test) (offers : Offers) (made : Kept) (w : Witness) (e : Execution) → version_of made.version ≡ Fourth
    → answer_of made.answer ≡ NoneForbids → made.cycles ≡ KeptInferences [] → made.tree ≡ [] → AreCopiedWitnesses made.witnesses (w ∷ []) → IsOfWitness t w e
    → HasNoRunFault t → RefutesAll t e → CertifiesNone t offers w made
none_certifies t offers made w e version answer cycles tree copied given listed refutes = record {
  certifies = record {
    certificate = certificate_by w;
    keeps = record {
      version = sym version;
      answer = sym answer;
      cycles = subst (λ kept. KeepsCycles kept (Inferred [])) (sym cycles) refl;
      tree = ap (map item_of) (sym tree);
      witnesses = copies_keep made.witnesses (w ∷ []) copied;
    };
    version = refl;
    valid = record {
      answered = refl;
      cycles = refl;
      tree = refl;
      witness = w;
      only = refl;
      execution = e;
      given = given;
      refutes = refutes;
    };
    judged = listed;
    in_range = record {
      cycles = All-nil _;
      witnesses = copies_named made.witnesses (w ∷ []) copied;
    };
    sayable = record {
      cost = zero-least;
      cycles = All-nil _;
      items = refl;
      numbers = All-nil _;
      words = copies_worded made.witnesses (w ∷ []) copied;
    };
    least = All-nil _;
  };
  only = refl;
}
  where
    zero-least : 0 ≤ most_number
    zero-least = omega arith
