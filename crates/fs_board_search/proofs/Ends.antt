-- The least and the greatest placement as answers, what a finished board's bound says, and which fault is handed on.
use Rattle.std.proofs.Common.{◌≡◌, ◌≢◌, ℕ, ◌<◌, true, Some, None, Result, Ok, Err, IfErr, List, [], ◌∷◌, map, refl, sym, ap, subst, ◌∙◌, inl, inr}
use Rattle.std.specs.Result.{IsErrAnd}
use Rattle.std.proofs.lemmas.Bool.{and_from, false≢true}
use Rattle.fs_kinds.specs.declared.fault.Fault.{Fault}
use Rattle.fs_kinds.specs.declared.fault.Fault.TheVariants.{Memory, NodeLimit}
use Rattle.fs_kinds.specs.declared.kind.Kind.TheVariants.{RwRw}
use Rattle.fs_kinds.specs.declared.placement.Entry.{Entry}
use Rattle.fs_kinds.specs.declared.slot.Slot.{Slot}
use Rattle.fs_kinds.specs.Placement.{slots_of, all_with}
use Rattle.fs_board_offers.specs.Offers.{Offers, AreOffers, are_offered, IsCheapest, IsPlacement, is_better, slots}
use Rattle.fs_kinds.proofs.Entries.{slots_of-all_with}
use Rattle.fs_model.specs.declared.test.Test.{Test}
use Rattle.fs_model.specs.Slots as test
use Rattle.fs_model.specs.Execution.{Execution}
use Rattle.fs_model.specs.Allows.{Allows, RefutesAll, full_fences}
use Rattle.fs_cert_evidence.specs.Evidence.{Shown, IsWitnessFor, widths_of}
use Rattle.fs_cert_evidence.specs.Widths.{width}
use Rattle.fs_judge.specs.Verdicts.{IsShownWith}
use Rattle.fs_cert_evidence.specs.CandidateFaults.{IsCandidateFault}
use Rattle.fs_board_offers.specs.Parts.{floor, undecided}
use Rattle.fs_board_offers.specs.Board.{is_finished}
use Rattle.fs_board_offers.specs.Histories.{IsHistory}
use Rattle.fs_board_offers.specs.Sizes.{HasNoRunFault, whole_tree}
use Rattle.fs_board_offers.proofs.PartsOfTests.{under-root}
use Rattle.fs_board_offers.proofs.Floors.{floor-best}
use Rattle.fs_board_offers.specs.Questions.{Question, IsAtSlots, HasTop}
use Rattle.fs_board.specs.View.{Search}
pub use Rattle.fs_board_search.proofs.Handed.{handed}
use Rattle.fs_board_search.specs.Answers.{IsEndFault, IsSearchFault, IsSolveFault}
use Rattle.fs_board_search.specs.Histories.{GoesOn}
use Rattle.fs_board_offers.proofs.Final.{cheapest, none-forbid}

-- ---- no fence at all

offered-none : (offers : Offers) (ss : List Slot) → are_offered offers (all_with None ss) ≡ true
offered-none offers [] = refl
offered-none offers (s ∷ ss) = and_from _ _ refl (offered-none offers ss)

floor-undecided : (ss : List Slot) → floor (map (λ slot. record { slot = slot; decided = None }) ss) ≡ all_with None ss
floor-undecided [] = refl
floor-undecided (s ∷ ss) = ap (λ (p : List Entry). record { slot = s; kind = None } ∷ p) (floor-undecided ss)

-- where it forbids the outcome it is the answer
pub none-cheapest : (t : Test) (offers : Offers) (p : List Entry) → slots offers ≡ test.slots t → p ≡ all_with None (test.slots t)
    → (Allows t p → ⊥) → IsCheapest t offers p
none-cheapest t offers p over is forbids =
    let none : p ≡ all_with None (slots offers) = is ∙ ap (all_with None) (sym over) in
    record {
      placement = record {
        slots = ap slots_of none ∙ slots_of-all_with None (slots offers);
        offered = ap (are_offered offers) none ∙ offered-none offers (slots offers);
      };
      forbids = forbids;
      better = λ q placement better.
          let worse = floor-best offers (undecided offers) q (under-root offers q placement) in
          let same : is_better offers q (floor (undecided offers)) ≡ is_better offers q p =
          ap (is_better offers q) (floor-undecided (slots offers) ∙ sym none) in
          absurd (false≢true (sym worse ∙ (same ∙ better)));
    }

-- ---- a finished board

-- the bound is the answer
pub bound-cheapest : (s : Search) (p : List Entry) → AreOffers s.question.offers
    → IsHistory s.question.test s.question.offers s.board.limit s.log s.board → is_finished s.board ≡ true → Some p ≡ s.board.bound
    → IsCheapest s.question.test s.question.offers p
bound-cheapest s p are history finished is =
    cheapest s.question.test s.question.offers s.board.limit s.log s.board are.rising history finished p (sym is)

-- where some placement forbids the outcome there is one
pub some-bound : (s : Search) → AreOffers s.question.offers
    → IsHistory s.question.test s.question.offers s.board.limit s.log s.board → is_finished s.board ≡ true → None ≡ s.board.bound
    → (p : List Entry) × IsPlacement s.question.offers p × (Allows s.question.test p → ⊥) → ⊥
some-bound s are history finished is some =
    some.2 (none-forbid s.question.test s.question.offers s.board.limit s.log s.board are.rising history finished (sym is) some.0 some.1)

-- with no bound rw,rw in every slot allows the outcome
pub all-allowed : (s : Search) (t : Test) → s.question.test ≡ t → AreOffers s.question.offers → IsAtSlots s.question → HasTop s.question.offers
    → IsHistory s.question.test s.question.offers s.board.limit s.log s.board → is_finished s.board ≡ true → None ≡ s.board.bound
    → Allows t (all_with (Some RwRw) (test.slots t))
all-allowed s t same are at top history finished is =
    let full : Allows s.question.test (all_with (Some RwRw) (slots s.question.offers)) =
    none-forbid s.question.test s.question.offers s.board.limit s.log s.board are.rising history finished (sym is)
    (all_with (Some RwRw) (slots s.question.offers))
    (record { slots = slots_of-all_with (Some RwRw) (slots s.question.offers); offered = top }) in
    let shown : Allows s.question.test (all_with (Some RwRw) (test.slots s.question.test)) =
    subst (λ ss. Allows s.question.test (all_with (Some RwRw) ss)) at.slots full in
    subst (λ (u : Test). Allows u (all_with (Some RwRw) (test.slots u))) same shown

-- a witness of the verdict on rw,rw in every slot is one with its widths at the test's slots
pub all-shown : (t : Test) (w : Shown) → IsShownWith t (full_fences t) w → (e : Execution) × IsWitnessFor t w e × RefutesAll t e
all-shown t w shown = (
  shown.0,
  record {
    shows = shown.1.shows;
    only = shown.1.only;
    widths = shown.1.widths ∙ ap (widths_of (width t shown.0)) (slots_of-all_with (Some RwRw) (test.slots t));
  },
  shown.2,
)

-- ---- faults

-- what the error shows goes on to hold
pub if-err : {T : Type 0} (r : Result T Fault) (P Q : Fault → Type 0) → IfErr r P → ((f : Fault) → P f → Q f) → IfErr r Q
if-err (Ok x) P Q p go = tt
if-err (Err f) P Q p go = go f p

-- a fault of the candidates is one of a search
pub search-handed : {T : Type 0} (r : Result T Fault) (fault : Fault) (s : Search) (q : Question) → s.question ≡ q → IsErrAnd r (λ f. f ≡ fault)
    → (fault ≢ Memory → IsCandidateFault q.test fault) → IfErr r (λ f. f ≢ Memory → IsSearchFault s f)
search-handed r fault s q same is why =
    handed r fault (λ f. f ≢ Memory → IsSearchFault s f) is
    (λ other. inr (subst (λ (x : Question). IsCandidateFault x.test fault) (sym same) (why other)))

-- and one of a search at the ends
pub ends-handed : {T : Type 0} (r : Result T Fault) (fault : Fault) (t : Test) → IsErrAnd r (λ f. f ≡ fault)
    → (fault ≢ Memory → IsCandidateFault t fault) → IfErr r (λ f. f ≢ Memory → IsEndFault t f)
ends-handed r fault t is why = handed r fault (λ f. f ≢ Memory → IsEndFault t f) is (λ other. inr (why other))

-- and of a question that isn't answered
pub solve-handed : {T : Type 0} (r : Result T Fault) (fault : Fault) (t : Test) (q : Question) (limit : ℕ) → t ≡ q.test
    → IsErrAnd r (λ f. f ≡ fault) → (fault ≢ Memory → IsCandidateFault t fault) → IfErr r (λ f. f ≢ Memory → IsSolveFault q limit f)
solve-handed r fault t q limit same is why =
    handed r fault (λ f. f ≢ Memory → IsSolveFault q limit f) is
    (λ other. inl (subst (λ (u : Test). IsCandidateFault u fault) same (why other)))

-- the fault of a search that goes on
pub later-fault : (a b : Search) (f : Fault) → GoesOn a b → IsSearchFault b f → IsSearchFault a f
later-fault a b f goes fault = elim fault [
  | inl large ↦ inl (
    large.0,
    subst (λ (n : ℕ). n < whole_tree a.question.offers) goes.limit
        (subst (λ (x : Question). b.board.limit < whole_tree x.offers) goes.question large.1),
  )
  | inr other ↦ inr (subst (λ (x : Question). IsCandidateFault x.test f) goes.question other)
]

-- where the runs can be listed the limit is none of the candidates' faults
pub limit-met : (s : Search) (f : Fault) → f ≡ NodeLimit → HasNoRunFault s.question.test → IsSearchFault s f
    → s.board.limit < whole_tree s.question.offers
limit-met s f is clean fault = elim fault [
  | inl large ↦ large.1
  | inr other ↦ absurd (clean NodeLimit (subst (λ (g : Fault). IsCandidateFault s.question.test g) is other))
]

-- any other fault is
pub not_limit : (s : Search) (f : Fault) → (f ≡ NodeLimit → ⊥) → (f ≢ Memory → IsSearchFault s f) → f ≢ Memory
    → IsSolveFault s.question s.board.limit f
not_limit s f another why other = elim (why other) [
  | inl large ↦ absurd (another large.0)
  | inr of ↦ inl of
]

-- the limit is due where the runs can be listed, and the least and the greatest placement don't have the answer
pub limit-fault : (q : Question) (t : Test) (limit : ℕ) (f : Fault) → t ≡ q.test → HasNoRunFault q.test
    → limit < whole_tree q.offers → IsEndFault t f → IsSolveFault q limit f
limit-fault q t limit f same clean large fault = elim fault [
  | inl ends ↦
      let needed = subst (λ (u : Test). Allows u (all_with None (test.slots u))) same ends.1 in
      let enough = subst (λ (u : Test). Allows u (all_with (Some RwRw) (test.slots u)) → ⊥) same ends.2 in
      inr (ends.0, record { needed = needed; enough = enough; large = large }, clean)
  | inr other ↦ inl (subst (λ (u : Test). IsCandidateFault u f) same other)
]

-- no fence at all, which forbids the outcome, with its cost
pub none-answer : (t : Test) (p : List Entry) (q : Question) → q.test ≡ t → IsAtSlots q → p ≡ all_with None (test.slots t)
    → (Allows t (all_with None (test.slots t)) → ⊥) → IsCheapest t q.offers p
none-answer t p q same at is forbids =
    let denied : Allows t p → ⊥ = λ shown. forbids (subst (Allows t) is shown) in
    none-cheapest t q.offers p (at.slots ∙ ap (λ (u : Test). test.slots u) same) is denied

pub limit-not-memory : (f : Fault) → f ≡ NodeLimit → f ≢ Memory
limit-not-memory f is other = let e : NodeLimit ≡ Memory = sym is ∙ other in absurd (cc)
