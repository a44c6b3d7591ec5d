-- `order` agrees with what `solve` prints.
use Rattle.std.proofs.Common.{◌≡◌, ℕ, List, None, Some, length, inl, inr, refl, subst, ap}
use Rattle.std.specs.List.{enumerate_from, flat_map}
use Rattle.fs_instr.specs.declared.instr.Instr.{Instr}
use Rattle.fs_kinds.specs.declared.placement.Entry.{Entry}
use Rattle.fs_kinds.specs.Placement.{slots_of}
use Rattle.fs_kinds.specs.PriceTable.{PriceTable}
use Rattle.fs_model.specs.declared.test.Test.{Test}
use Rattle.fs_model.specs.Fenced.{fenced}
use Rattle.fs_model.specs.Placed.{IsPlaced}
use Rattle.fs_model.specs.Slots.{slots, slots_in}
use Rattle.fs_model.specs.Test.{IsSame, IsTest}
use Rattle.fs_litmus.specs.Reads.{Reads}
use Rattle.fs_litmus.proofs.ReadsTest.{is_test}
use Rattle.fs_litmus.proofs.ReadsOnce.{reads_once}
use Rattle.fs_model.specs.Allows.{Allows, RefutesAll}
use Rattle.fs_model.specs.Reasons.{IsYes}
use Rattle.fs_model.specs.Witness.{Witness}
use Rattle.fs_cert_evidence.specs.Texts.{line, witness_text}
use Rattle.fs_cert_evidence.specs.WitnessFile.{IsWitnessFile}
use Rattle.fs_check.specs.declared.order.OrderVerdict.{OrderVerdict}
use Rattle.fs_check.specs.declared.order.OrderVerdict.TheVariants.{Yes, No}
use Rattle.fs_check.specs.Verdicts.{IsVerdict}
use Rattle.fs_app_io.specs.declared.status.Status.{Status}
use Rattle.fs_app_io.specs.declared.status.Status.TheVariants.{Success, Denied}
use Rattle.fs_model_laws.proofs.FencedSame.{allows_as_read}
use Rattle.fs_model_laws.proofs.Filled.{filled-shows}
use Rattle.fs_app_place_and_order.proofs.Placements.{slots_of-IsPlaced}
use Rattle.fs_app_guarantees.proofs.KeptPlacements.{allows_same}
use Rattle.fs_app_guarantees.specs.Headline.{IsPossible, CheapestRulesOut, NothingRulesOut}
use Rattle.fs_app_solve_and_check.specs.Solve.{IsSolved}
use Rattle.fs_app_guarantees.proofs.Meaning.{holds, same_itself}
use Rattle.fs_app_guarantees.specs.Agreement.{SaysYes, Place, SaysNoToAnswer, SaysYesToWitness, HaveOnePlacement, OrderAgrees}
use Rattle.fs_app_place_and_order.specs.Order.{verdict_status}
use Rattle.fs_app_guarantees.proofs.Placing.{one_placement, words_place}
use Rattle.fs_app_guarantees.proofs.Witnesses.{witness_file}
use Rattle.fs_app_guarantees.proofs.WitnessTexts.{line_says}

-- status 0 goes with a yes
yes_of : (t : Test) (p : List Entry) (w : Witness) (v : OrderVerdict) → Success ≡ verdict_status v → IsVerdict t p w v → IsYes t p w
yes_of t p w Yes ends is = is
yes_of t p w (No why) ends is = absurd (let other : Success ≡ Denied = ends in cc)

pub slots_alike : (t u : Test) → IsSame t u → slots t ≡ slots u
slots_alike t u s = ap (λ (codes : List (List Instr)). flat_map (λ numbered. slots_in numbered.0 numbered.1) (enumerate_from 0 codes)) s.codes

-- the fenced test allows what the test does with these fences
possible : (t : Test) (p : List Entry) → Allows t p → IsPossible (fenced t p)
possible t p = (allows_as_read t p (fenced t p) (same_itself (fenced t p))).1

allowed : (t : Test) (p : List Entry) → IsPossible (fenced t p) → Allows t p
allowed t p = (allows_as_read t p (fenced t p) (same_itself (fenced t p))).0

module _ (test : List ℕ) (t : Test) (reads : Reads test t) where
  is : IsTest t
  is = is_test test t reads

  yes : (words : List (List ℕ)) (p : List Entry) (w : Witness) (file : List ℕ) → Place t words p → IsWitnessFile (length t.codes) file w → IsYes t p w
      → SaysYes test file words
  yes words p w file placed says shown = record {
    the_test = t;
    placement = p;
    given = w;
    verdict = Yes;
    reads = reads;
    placed = placed;
    says = says;
    judged = shown;
    shown = refl;
    ends = refl;
  }

  -- an execution to which `order` says yes is one that the fences allow
  allows : (words : List (List ℕ)) (p : List Entry) (file : List ℕ) → Place t words p → SaysYes test file words → Allows t p
  allows words p file placed said =
      let u = said.the_test in
      let q = said.placement in
      let same : IsSame u t = reads_once test u t said.reads reads in
      let shown = yes_of u q said.given said.verdict said.ends said.judged in
      let there : Allows u q = (shown.0, record { execution = shown.2; outcome = shown.3 }) in
      let here : Place t words q = subst (λ ss. IsPlaced None ss words (Some q)) (slots_alike u t same) said.placed in
      subst (Allows t) (one_placement t is.bounded words q p here placed) ((allows_same u t same q).0 there)

  -- each execution is in a file to which `order` says yes
  some_file : (words : List (List ℕ)) (p : List Entry) → Place t words p → Allows t p → (file : List ℕ) × SaysYes test file words
  some_file words p placed shown =
      let of = witness_file t p shown.0 is.bounded shown.1.execution in
      (witness_text of.0, yes words p of.0 (witness_text of.0) placed of.2 (shown.0, of.1, shown.1.execution, shown.1.outcome))

  refuses : (prices : PriceTable) (text : List ℕ) → CheapestRulesOut t prices text → SaysNoToAnswer test t prices text
  refuses prices text a = record {
    placement = a.placement;
    shown = a.shown;
    placed = a.placed;
    refused = λ words placed file said.
        a.ruled_out (fenced t a.placement) (inl refl) (possible t a.placement (allows words a.placement file placed said));
    better = λ q over better words placed.
        some_file words q placed (allowed t q (a.better q over better (fenced t q) (inl refl)));
  }

  accepts : (text : List ℕ) → NothingRulesOut t text → SaysYesToWitness test t text
  accepts text a =
      let refutes : RefutesAll t a.shows.0 = record { execution = a.shows.2; outcome = a.shows.3 } in
      record {
        witness = witness_text a.witness;
        shown = a.shown;
        accepted = λ words p placed.
            let over : slots_of p ≡ slots t = slots_of-IsPlaced None (slots t) words p placed in
            let shows = filled-shows t a.shows.0 refutes p over in
            let is_yes : IsYes t p a.witness = (a.shows.0, a.shows.1, shows.execution, shows.outcome) in (
              yes words p a.witness (witness_text a.witness) placed a.says is_yes,
              yes words p a.witness (line (witness_text a.witness)) placed (line_says (length t.codes) a.witness a.says) is_yes,
            );
      }

pub agrees : (test prices text : List ℕ) (status : Status) → IsSolved test prices text status → OrderAgrees test prices text
agrees test prices text status solved t table reads priced =
    elim ((holds test prices text status solved).1 t table reads priced).1 [
      | inl a ↦ inl (refuses test t reads table text a.1)
      | inr a ↦ inr (accepts test t reads text a.1)
    ]

pub places : (bytes : List ℕ) (t : Test) → Reads bytes t → HaveOnePlacement t
places bytes t reads = (words_place t, one_placement t (is_test bytes t reads).bounded)
