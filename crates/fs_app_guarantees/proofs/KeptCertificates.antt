-- Certificates: when they are valid, and why they are refused.
use Rattle.std.proofs.Common.{◌≡◌, ◌↔◌, inl, inr, ℕ, ◌+◌, Option, None, Some, List, [], ◌∷◌, ◌++◌, true, ap, ◌∙◌, filter}
use Rattle.std.specs.Prelude.{All, take}
use Rattle.std.specs.List.{AllZip}
use Rattle.fs_kinds.specs.declared.kind.Kind.TheVariants.{RwRw}
use Rattle.fs_kinds.specs.declared.placement.Entry.{Entry}
use Rattle.fs_kinds.specs.declared.reason.Reason.{Reason}
use Rattle.fs_kinds.specs.declared.reason.Reason.TheVariants as reason
use Rattle.fs_kinds.specs.Placement.{all_with}
use Rattle.fs_kinds.specs.PriceTable.{PriceTable}
use Rattle.fs_model.specs.Slots.{slots}
use Rattle.fs_model.specs.declared.test.Test.{Test}
use Rattle.fs_model.specs.declared.step.Step.{Step}
use Rattle.fs_model.specs.Condition.{condition_of}
use Rattle.fs_model.specs.Shows.{is_outcome}
use Rattle.fs_model.specs.Test.{IsSame}
use Rattle.fs_model.specs.Execution.{Execution}
use Rattle.fs_model.specs.Witness.{Witness}
use Rattle.fs_cert_evidence.specs.Candidates.{Candidate}
use Rattle.fs_cert_evidence.specs.Certificate.{Certificate, Version, Answer, Fenced, NoneForbids, Cycles, Listed, Inferred, Inference, Item, SplitAt, Costly, Refuted, Bounded, Link}
use Rattle.fs_cert_evidence.specs.Refusals.{IsFirstBad, IsFirstUnshown, first_wrong, IsListRefusal, IsCyclesRefusal}
use Rattle.fs_board_offers.specs.Offers.{Offers, offers_of}
use Rattle.fs_board_offers.specs.Parts.{Part, undecided, floor, filled, child_parts}
use Rattle.fs_board_offers.specs.Priced as priced
use Rattle.fs_board_offers.specs.Refusals.{Fails, IsPlacedRefusal, IsRefusal}
use Rattle.fs_cert_evidence.specs.Cycles.{IsCycle, HasCycles}
use Rattle.fs_cert_evidence.specs.Trees as trees
use Rattle.fs_cert_evidence.specs.Trees.{is_open, roots, root, AreItsRuns, IsRefuted}
use Rattle.fs_board_offers.specs.Valid.{Forbid, RefutesBy, Refutes, Bounds, Covers, IsValid}
use Rattle.fs_app_guarantees.proofs.Kept.{with_condition_of, Keeps, back, carried, each, pairwise}
use Rattle.fs_app_guarantees.proofs.KeptCandidates.{listing}
use Rattle.fs_app_guarantees.proofs.KeptPlacements.{refutes_all, of_witness, shows_as}

-- ---- cycles

cycle : (p : List Entry) (c : Candidate) (links : List Link) → Keeps (λ t. IsCycle t p c links)
cycle p c links u v e h =
    record { some = h.some; most = h.most; operations = h.operations; names = h.names; edges = h.edges }

all_cycles : (p : List Entry) (cs : List Candidate) (cycles : List (List Link)) → Keeps (λ t. AllZip (IsCycle t p) cs cycles)
all_cycles p cs cycles u v e =
    pairwise (IsCycle u p) (IsCycle (with_condition_of v u) p) (λ c links. cycle p c links u v e) cs cycles

has_cycles : (p : List Entry) (cycles : List (List Link)) → Keeps (λ t. HasCycles t p cycles)
has_cycles p cycles u v e h = (h.0, listing h.0 u v e h.1, all_cycles p h.0 cycles u v e h.2)

-- ---- refutations

its_runs : (runs : ℕ → List (List Step)) → Keeps (λ t. AreItsRuns t runs)
its_runs runs u v e h =
    record {
      all = λ hart low. record { rising = (h.all hart low).rising; exact = (h.all hart low).exact };
      others = h.others;
    }

-- the first region alone looks at the condition
its_roots :
    (runs : ℕ → List (List Step)) (u v : Test) → condition_of v.condition ≡ condition_of u.condition
    → roots (with_condition_of v u) runs ≡ roots u runs
its_roots runs u v e =
    ap (λ condition. filter (is_open u)
    (record (root u runs) { wanted = (condition, is_outcome u.quantifier true) ∷ [] } ∷ [])) e

refuted : (p : List Entry) (inferences : List Inference) → Keeps (λ t. IsRefuted t p inferences)
refuted p inferences u v e h =
    record {
      runs = h.runs;
      all = its_runs h.runs u v e h.all;
      refuted = ap (λ regions. trees.refutes u p regions inferences) (its_roots h.runs u v e) ∙ h.refuted;
    }

forbid : (p : List Entry) (cycles : Cycles) → Keeps (λ t. Forbid t p cycles)
forbid p (Listed cycles) = has_cycles p cycles
forbid p (Inferred inferences) = refuted p inferences

-- ---- the tree

module _ (ws : List Witness) (p : List Entry) where
  refutes_by : (j : ℕ) (x : Execution) → Keeps (λ t. RefutesBy t ws p j x)
  refutes_by j x u v e h = (h.0, h.1, shows_as p h.0 x u v e h.2)

  refutes : (j : ℕ) → Keeps (λ t. Refutes t ws p j)
  refutes j u v e h = (h.0, refutes_by j h.0 u v e h.1)

  all_refute : (js : List ℕ) → Keeps (λ t. All (Refutes t ws p) js)
  all_refute js u v e = each (Refutes u ws p) (Refutes (with_condition_of v u) ws p) (λ j. refutes j u v e) js

  first_unshown : (js : List ℕ) (j : ℕ) → Keeps (λ t. IsFirstUnshown t ws p js j)
  first_unshown js j u v e h =
      (h.0, h.1, h.2, all_refute h.0 u v e h.3, λ x. h.4 (back (λ t. Refutes t ws p j) (refutes j) u v e x))

bounds : (offers : Offers) (ws : List Witness) (p : List Entry) (part : Part) (js : List ℕ) → Keeps (λ t. Bounds t offers ws p part js)
bounds offers ws p part js u v e h = (
  h.0,
  pairwise (RefutesBy u ws (floor part)) (RefutesBy (with_condition_of v u) ws (floor part))
      (λ j x. refutes_by ws (floor part) j x u v e) js h.0 h.1,
  h.2,
)

module _ (offers : Offers) (c : Certificate) (p : List Entry) where
  covers : (items : List Item) (parts : List Part) → Keeps (λ t. Covers t offers c p parts items)
  covers [] [] u v e h = h
  covers (item ∷ items) [] u v e h = h
  covers [] (part ∷ parts) u v e h = h
  covers (SplitAt k ∷ items) (part ∷ parts) u v e h =
      (h.0, h.1, h.2, covers items (child_parts offers h.0 part ++ parts) u v e h.3)
  covers (Costly ∷ items) (part ∷ parts) u v e h = (h.0, covers items parts u v e h.1)
  covers (Refuted j ∷ items) (part ∷ parts) u v e h =
      (refutes c.witnesses (filled part) j u v e h.0, covers items parts u v e h.1)
  covers (Bounded js ∷ items) (part ∷ parts) u v e h =
      (bounds offers c.witnesses p part js u v e h.0, covers items parts u v e h.1)

  fails : (items : List Item) (parts : List Part) (k : ℕ) (r : Reason) → Keeps (λ t. Fails t offers c p parts items k r)
  fails [] [] k r u v e h = h
  fails (item ∷ items) [] k r u v e h = h
  fails [] (part ∷ parts) k r u v e h = h
  fails (SplitAt j ∷ items) (part ∷ parts) k r u v e (inl h) = inl h
  fails (SplitAt j ∷ items) (part ∷ parts) k r u v e (inr h) =
      inr (h.0, h.1, h.2, fails items (child_parts offers h.0 part ++ parts) (k + 1) r u v e h.3)
  fails (Costly ∷ items) (part ∷ parts) k r u v e (inl h) = inl h
  fails (Costly ∷ items) (part ∷ parts) k r u v e (inr h) = inr (h.0, fails items parts (k + 1) r u v e h.1)
  fails (Refuted j ∷ items) (part ∷ parts) k r u v e (inl h) =
      inl (
        λ x. h.0 (back (λ t. Refutes t c.witnesses (filled part) j) (refutes c.witnesses (filled part) j) u v e x),
        h.1,
      )
  fails (Refuted j ∷ items) (part ∷ parts) k r u v e (inr h) =
      inr (refutes c.witnesses (filled part) j u v e h.0, fails items parts (k + 1) r u v e h.1)
  fails (Bounded js ∷ items) (part ∷ parts) k r u v e (inl h) =
      inl (h.0, first_unshown c.witnesses (floor part) js h.0 u v e h.1, h.2)
  fails (Bounded js ∷ items) (part ∷ parts) k r u v e (inr (inl h)) =
      inr (inl (
        all_refute c.witnesses (floor part) js u v e h.0,
        λ x. h.1 (back (λ t. Bounds t offers c.witnesses p part js) (bounds offers c.witnesses p part js) u v e x),
        h.2,
      ))
  fails (Bounded js ∷ items) (part ∷ parts) k r u v e (inr (inr h)) =
      inr (inr (bounds offers c.witnesses p part js u v e h.0, fails items parts (k + 1) r u v e h.1))

-- ---- the whole

valid : (offers : Offers) (c : Certificate) (answer : Option (List Entry)) → Keeps (λ t. IsValid t offers c answer)
valid offers c (Some p) u v e h =
    record {
      answered = h.answered;
      cycles = forbid p c.cycles u v e h.cycles;
      tree = covers offers c p c.tree (undecided offers ∷ []) u v e h.tree;
    }
valid offers c None u v e h =
    record {
      answered = h.answered;
      cycles = h.cycles;
      tree = h.tree;
      witness = h.witness;
      only = h.only;
      execution = h.execution;
      given = of_witness h.witness h.execution u v e h.given;
      refutes = refutes_all h.execution u v e h.refutes;
    }

first_bad :
    (p : List Entry) (cs : List Candidate) (cycles : List (List Link)) (index : ℕ) → Keeps (λ t. IsFirstBad t p cs cycles index)
first_bad p cs cycles index u v e h =
    record {
      candidate = h.candidate;
      links = h.links;
      the_candidate = h.the_candidate;
      the_links = h.the_links;
      bad = λ x. h.bad (back (λ t. IsCycle t p h.candidate h.links) (cycle p h.candidate h.links) u v e x);
      earlier = all_cycles p (take index cs) (take index cycles) u v e h.earlier;
    }

list_refusal :
    (p : List Entry) (cs : List Candidate) (cycles : List (List Link)) (why : Reason)
    → Keeps (λ t. IsListRefusal t p cs cycles why)
list_refusal p cs cycles reason.Cycles u v e h = h
list_refusal p cs cycles (reason.Cycle index) u v e h = (h.0, first_bad p cs cycles index u v e h.1)
list_refusal p cs cycles other u v e h = h

cycles_refusal : (p : List Entry) (cycles : Cycles) (why : Reason) → Keeps (λ t. IsCyclesRefusal t p cycles why)
cycles_refusal p (Listed cycles) why u v e h =
    (h.0, listing h.0 u v e h.1, list_refusal p h.0 cycles why u v e h.2)
cycles_refusal p (Inferred inferences) why u v e h =
    (h.0, its_runs h.0 u v e h.1, ap (λ regions. first_wrong u p regions inferences 0) (its_roots h.0 u v e) ∙ h.2)

placed :
    (offers : Offers) (c : Certificate) (p : List Entry) (why : Reason)
    → Keeps (λ t. IsPlacedRefusal t offers c p why)
placed offers c p reason.Cycles u v e h = cycles_refusal p c.cycles reason.Cycles u v e h
placed offers c p (reason.Cycle index) u v e h = cycles_refusal p c.cycles (reason.Cycle index) u v e h
placed offers c p other u v e h =
    (forbid p c.cycles u v e h.0, fails offers c p c.tree (undecided offers ∷ []) 0 other u v e h.1)

module _ (offers : Offers) (version : Version) (cycles : Cycles) (tree : List Item) (ws : List Witness) where
  abbrev certificate : Answer → Certificate
  certificate answer = record { version = version; answer = answer; cycles = cycles; tree = tree; witnesses = ws }

  refusal_of : (why : Reason) (answer : Answer) → Keeps (λ t. IsRefusal t offers (certificate answer) why)
  refusal_of reason.Answer answer u v e h = h
  refusal_of other (Fenced cost fences) u v e h = (
    h.0,
    h.1,
    placed offers (certificate (Fenced cost fences)) h.0 other u v e h.2,
  )
  refusal_of other NoneForbids u v e h = (
    h.0,
    λ x. h.1 (back (λ t. Refutes t ws (all_with (Some RwRw) (slots u)) 0) (refutes ws (all_with (Some RwRw) (slots u)) 0) u v e x),
    h.2,
  )

refusal : (offers : Offers) (c : Certificate) (why : Reason) → Keeps (λ t. IsRefusal t offers c why)
refusal offers c why = refusal_of offers c.version c.cycles c.tree c.witnesses why c.answer

-- ---- of prices

valid_priced : (prices : PriceTable) (c : Certificate) (answer : Option (List Entry)) → Keeps (λ t. priced.IsValid t prices c answer)
valid_priced prices c answer u v e h = valid (offers_of u prices) c answer u v e h

refusal_priced : (prices : PriceTable) (c : Certificate) (why : Reason) → Keeps (λ t. priced.IsRefusal t prices c why)
refusal_priced prices c why u v e h = refusal (offers_of u prices) c why u v e h

pub valid_same :
    (t u : Test) → IsSame t u → (prices : PriceTable) (c : Certificate) (answer : Option (List Entry))
    → priced.IsValid t prices c answer ↔ priced.IsValid u prices c answer
valid_same t u s prices c answer = carried (λ x. priced.IsValid x prices c answer) (valid_priced prices c answer) t u s

pub refusal_same :
    (t u : Test) → IsSame t u → (prices : PriceTable) (c : Certificate) (why : Reason)
    → priced.IsRefusal t prices c why ↔ priced.IsRefusal u prices c why
refusal_same t u s prices c why = carried (λ x. priced.IsRefusal x prices c why) (refusal_priced prices c why) t u s
