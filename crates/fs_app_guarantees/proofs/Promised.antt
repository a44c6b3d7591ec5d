-- What commands answer is true of each program in print that they may have been asked of.
use Rattle.std.proofs.Common.{◌≡◌, ℕ, Bool, false, None, Some, Option, List, [], ap, subst, ◌∙◌}
use Rattle.fs_kinds.specs.declared.placement.Entry.{Entry}
use Rattle.fs_kinds.specs.Placement.{all_with}
use Rattle.fs_kinds.specs.Placements.{PriceTable}
use Rattle.fs_model.specs.Answers.{fenced}
use Rattle.fs_model.specs.OfTests.{program_of}
use Rattle.fs_model.specs.Placed.{IsPlaced}
use Rattle.fs_model.specs.Runs.{Program}
use Rattle.fs_model.specs.Slots.{slots}
use Rattle.fs_model.specs.Test.{IsSame}
use Rattle.fs_model.specs.Witness.{Witness}
use Rattle.fs_model_laws.proofs.FencedExecutions.{none_at}
use Rattle.fs_litmus.proofs.ReadsOnce.{reads_once}
use Rattle.fs_litmus.proofs.ReadsTest.{is_test}
use Rattle.fs_cert_evidence.specs.Certificate.{Certificate}
use Rattle.fs_cert_evidence.specs.CertificateFile.{IsCertificateFile, version_number}
use Rattle.fs_app_io.specs.declared.status.Status.{Status}
use Rattle.fs_app_io.specs.declared.status.Status.TheVariants.{Success}
use Rattle.fs_app_io.specs.Status.{code}
use Rattle.fs_app_place_and_order.specs.Place.{IsFencedText}
use Rattle.fs_app_test.specs.declared.said.Kind.{Kind}
use Rattle.fs_app_solve_and_check.specs.Solve.{IsSolved}
use Rattle.fs_app_test.specs.Report.{kind_text}
use Rattle.fs_app_test.specs.Verdicts.{IsTested}
use Rattle.fs_app_states.specs.Shown.{IsStatesText}
use Rattle.fs_app_solve_and_check.specs.Check.{IsChecked}
use Rattle.fs_app_guarantees.specs.Meanings.{HavePrices, Solves, Accepts, Says, ListsStates, SolveIsTrue, StatesAreTrue, TestIsTrue, YesIsTrue}
use Rattle.fs_app_guarantees.proofs.Agrees.{slots_alike}
use Rattle.fs_app_guarantees.proofs.InPrint.{of_read, same_program}
use Rattle.fs_app_guarantees.proofs.PlacePrints.{nothing_placed, of_file, of_placed, placed_so, program_stays}
use Rattle.fs_app_guarantees.proofs.Placing.{one_placement}
use Rattle.fs_app_guarantees.proofs.StateTruths.{lists}
use Rattle.fs_app_guarantees.proofs.Truths.{solve, yes, tested}

pub solve_printed : (test prices text : List ℕ) (status : Status) → IsSolved test prices text status → SolveIsTrue test prices text (code status)
solve_printed test prices text status s =
    of_read test (λ t o. (table : PriceTable) → HavePrices prices table → Solves t o table text (code status)) s.the_test s.reads
    (solve test prices text status s)

pub solve_placed : (file test prices text : List ℕ) (status : Status) → IsFencedText file None [] test → IsSolved file prices text status
    → SolveIsTrue test prices text (code status)
solve_placed file test prices text status a s =
    of_file file test (λ t o. (table : PriceTable) → HavePrices prices table → Solves t o table text (code status)) s.the_test s.reads a
    (solve file prices text status s)

pub check_printed : (test prices certificate text : List ℕ) (c : Certificate) → IsChecked test prices certificate text Success
    → IsCertificateFile certificate c → YesIsTrue (version_number c.version) test prices text
check_printed test prices certificate text c s says =
    of_read test (λ t o. (table : PriceTable) → HavePrices prices table → Accepts (version_number c.version) t o table text) s.the_test s.reads
    (yes test prices certificate text s c says)

pub check_placed : (file test prices certificate text : List ℕ) (c : Certificate) → IsFencedText file None [] test
    → IsChecked file prices certificate text Success → IsCertificateFile certificate c → YesIsTrue (version_number c.version) test prices text
check_placed file test prices certificate text c a s says =
    of_file file test (λ t o. (table : PriceTable) → HavePrices prices table → Accepts (version_number c.version) t o table text) s.the_test s.reads a
    (yes file prices certificate text s c says)

pub test_printed : (test why : List ℕ) (said : Kind) (witness : Option Witness) → IsTested test said why witness → TestIsTrue test (kind_text said)
test_printed test why said witness s =
    of_read test (λ t o. Says t o (kind_text said)) s.the_test s.reads (tested s.the_test said why witness s.says)

pub test_placed : (file test why : List ℕ) (said : Kind) (witness : Option Witness) → IsFencedText file None [] test
    → IsTested file said why witness → TestIsTrue test (kind_text said)
test_placed file test why said witness a s =
    of_file file test (λ t o. Says t o (kind_text said)) s.the_test s.reads a (tested s.the_test said why witness s.says)

-- what is printed of the states, of the program with its fences
states_there : (file : List ℕ) (words : List (List ℕ)) (all : Bool) (text : List ℕ)
    (s : IsStatesText file words (record { all = all; witnesses = false; json = false; guarded = false }) text)
    → ListsStates (fenced (program_of s.the_test) s.placement) text
states_there file words all text s = lists file s.the_test s.placement all s.columns s.states text s.are_columns s.are_states s.is_text

pub states_printed : (test text : List ℕ) (all : Bool) → IsStatesText test [] (record { all = all; witnesses = false; json = false; guarded = false }) text → StatesAreTrue test text
states_printed test text all s =
    let t = s.the_test in
    let none : s.placement ≡ all_with None (slots t) = nothing_placed (slots t) s.placement s.placed in
    let stays : fenced (program_of t) s.placement ≡ program_of t =
    ap (λ (p : List Entry). fenced (program_of t) p) none ∙ program_stays (all_with None (slots t)) (none_at (slots t)) (program_of t) in
    of_read test (λ u o. ListsStates u text) t s.reads (subst (λ (u : Program). ListsStates u text) stays (states_there test [] all text s))

pub states_placed : (file test text : List ℕ) (words : List (List ℕ)) (all : Bool) → IsFencedText file None words test
    → IsStatesText file words (record { all = all; witnesses = false; json = false; guarded = false }) text → StatesAreTrue test text
states_placed file test text words all a s =
    let t = s.the_test in
    let f = a.the_test in
    let same : IsSame t f = reads_once file t f s.reads a.reads in
    let there : IsPlaced None (slots f) words (Some s.placement) =
    subst (λ ss. IsPlaced None ss words (Some s.placement)) (slots_alike t f same) s.placed in
    let one : s.placement ≡ a.placement = one_placement f (is_test file f a.reads).bounded words s.placement a.placement there (placed_so file test words a) in
    let alike : fenced (program_of t) s.placement ≡ fenced (program_of f) a.placement =
    ap (λ (u : Program). fenced u s.placement) (same_program t f same) ∙ ap (λ (p : List Entry). fenced (program_of f) p) one in
    of_placed file test words (λ u o. ListsStates u text) a (subst (λ (u : Program). ListsStates u text) alike (states_there file words all text s))
