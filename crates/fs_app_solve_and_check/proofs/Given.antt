-- What is printed of a valid certificate is what it says.
use Rattle.std.proofs.Common.{◌≡◌, inl, inr, ℕ, List, [], ◌∷◌, ◌++◌, map, None, Some, Result, Ok, Err, IfOk, string_bytes, refl, sym, ap, subst, ◌∙◌}
use Rattle.std.specs.List.{flat_map, AllZip}
use Rattle.std.specs.Prelude.{slice_get}
use Rattle.fs_kinds.specs.declared.placement.Entry.{Entry}
use Rattle.fs_kinds.specs.declared.reason.OperationName.{OperationName as Name}
use Rattle.fs_kinds.specs.declared.reason.Reason.{Reason}
use Rattle.fs_kinds.specs.PriceTable.{PriceTable, cost}
use Rattle.fs_model.specs.declared.test.Test.{Test}
use Rattle.fs_model.specs.Test.{IsBounded}
use Rattle.fs_model.specs.Execution.{Execution, pre_execution}
use Rattle.fs_model.specs.Operations.{PreExecution}
use Rattle.fs_model.specs.Reasons.{AreRuns}
use Rattle.fs_model.specs.Witness.{Witness, IsOfWitness, name_of}
use Rattle.fs_cert_evidence.specs.Certificate.{Certificate}
use Rattle.fs_cert_evidence.specs.CertificateFile.{cost_in}
use Rattle.fs_cert_evidence.specs.Texts.{fenced_lines, none_lines}
use Rattle.fs_cert_evidence.specs.Valid.{IsValidForNone}
use Rattle.fs_board_offers.specs.Offers.{offers_of}
use Rattle.fs_board_offers.specs.Valid.{IsAnswered}
use Rattle.fs_board_offers.proofs.Priced.{same-slots, same-cost}
use Rattle.fs_cert_evidence.specs.WitnessFile.{in_range, KeepsWitness}
use Rattle.fs_cert_evidence.specs.declared.witness.WitnessFile.{WitnessFile}
use Rattle.fs_cert_json.specs.declared.certificate.Certificate.{Certificate as Kept}
use Rattle.fs_cert_json.specs.Kept.{KeepsCertificate, answer_of}
use Rattle.fs_cand.proofs.NamedOrder.{NamesInRange}
use Rattle.fs_cand.proofs.RunNames.{ranged}
use Rattle.fs_check_certificate.specs.declared.certificate_verdict.CheckVerdict.TheVariants.{Yes, No}
use Rattle.fs_check_certificate.specs.Checks.{IsCheckVerdict}
use Rattle.fs_app_io.specs.declared.status.Status.TheVariants.{Success, Denied}
use Rattle.fs_app_io.specs.declared.status.Status.{Status}
use Rattle.fs_kinds.specs.declared.fault.Fault.{Fault}
use Rattle.fs_app_solve_and_check.specs.Check.{AreOneVerdict, PrintsVerdict, refusal_line, yes_line, yes_value}
use Rattle.fs_app_solve_and_check.specs.declared.checked.Checked.{Checked}
use Rattle.fs_report.specs.Objects.{fenced_value, json_line, none_value}
use Rattle.fs_app_solve_and_check.specs.inner.Named.{named, given_by}
use Rattle.fs_app_solve_and_check.specs.inner.Yes.{IsYesTo}

-- ---- the cost

pub cost_said : (t : Test) (prices : PriceTable) (kept : Kept) (c : Certificate) (p : List Entry) → KeepsCertificate kept c
    → IsAnswered (offers_of t prices) c.answer p → cost_in (answer_of kept.answer) ≡ cost prices p
cost_said t prices kept c p keeps answered =
    let over = answered.placement.slots ∙ same-slots t prices in
    ap cost_in (sym keeps.answer) ∙ (ap cost_in answered.answered ∙ same-cost t prices p over)

-- ---- the witness

hd : {A : Type 0} {a b : A} {xs ys : List A} → a ∷ xs ≡ b ∷ ys → (a ≡ b) × (xs ≡ ys)
hd e = (cc, cc)

-- names of operations are all kept
all_kept : (x : PreExecution) → NamesInRange x → (order : List ℕ) (names : List Name) → map (name_of x) order ≡ map (λ name. Some name) names
    → flat_map named (map in_range names) ≡ names
all_kept x small [] [] e = refl
all_kept x small [] (n ∷ names) e = cc
all_kept x small (a ∷ order) [] e = cc
all_kept x small (a ∷ order) (n ∷ names) e =
    let parts = hd e in
    ap (λ o. named o ++ flat_map named (map in_range names)) (small a n parts.0) ∙ ap (λ rest. n ∷ rest) (all_kept x small order names parts.1)

runs_of : (t : Test) (w : Witness) (e : Execution) → IsOfWitness t w e → AreRuns t w e.traces
runs_of t w e of = record { harts = of.harts; whole = of.runs }

given : (t : Test) (file : WitnessFile) (w : Witness) (e : Execution) → IsBounded t → KeepsWitness file w → IsOfWitness t w e → given_by file ≡ w
given t file w e bounded keeps of =
    let small = ranged t w e.traces (runs_of t w e of) bounded in
    let order : flat_map named file.order ≡ w.order = ap (flat_map named) keeps.order ∙ all_kept (pre_execution t e.traces) small e.order w.order of.order in
    ap (λ cs. record { choices = cs; order = flat_map named file.order }) keeps.choices ∙ ap (λ ns. record { choices = w.choices; order = ns }) order

-- the one witness of a valid certificate that answers none
first_of : (files : List WitnessFile) (ws : List Witness) (w : Witness) → ws ≡ w ∷ [] → AllZip KeepsWitness files ws
    → (file : WitnessFile) × (slice_get files 0 ≡ Some file) × KeepsWitness file w
first_of [] ws w e kept = absurd (subst (AllZip KeepsWitness []) e kept)
first_of (file ∷ files) ws w e kept = (file, refl, (subst (AllZip KeepsWitness (file ∷ files)) e kept).0)

pub only_witness : (t : Test) (kept : Kept) (c : Certificate) → IsBounded t → KeepsCertificate kept c → (valid : IsValidForNone t c)
    → (file : WitnessFile) × (slice_get kept.witnesses 0 ≡ Some file) × (given_by file ≡ valid.witness)
only_witness t kept c bounded keeps valid =
    let found = first_of kept.witnesses c.witnesses valid.witness valid.only keeps.witnesses in
    (found.0, found.1, given t found.0 valid.witness valid.execution bounded found.2 valid.given)

-- ---- what is printed

pub fenced_yes : (cost said : ℕ) (p : List Entry) (lines text : List ℕ) (status : Status) (made object : List ℕ) → cost ≡ said
    → lines ≡ fenced_lines cost p → text ≡ yes_line ++ lines → status ≡ Success → made ≡ object
    → object ≡ json_line (yes_value (fenced_value cost p)) → IsYesTo (fenced_lines said p) text status made
fenced_yes cost said p lines text status made object same is shown ends handed printed = record {
  shown = shown ∙ ap (λ below. yes_line ++ below) (is ∙ ap (λ n. fenced_lines n p) same);
  ends = ends;
  answer = fenced_value said p;
  same = inl (said, p, refl, refl);
  printed = handed ∙ printed ∙ ap (λ n. json_line (yes_value (fenced_value n p))) same;
}

pub none_yes : (w : Witness) (lines text : List ℕ) (status : Status) (made object : List ℕ) → lines ≡ none_lines w
    → text ≡ yes_line ++ lines → status ≡ Success → made ≡ object → object ≡ json_line (yes_value (none_value w))
    → IsYesTo (none_lines w) text status made
none_yes w lines text status made object is shown ends handed printed = record {
  shown = shown ∙ ap (λ below. yes_line ++ below) is;
  ends = ends;
  answer = none_value w;
  same = inr (w, refl, refl);
  printed = handed ∙ printed;
}

pub prints_fences : (t : Test) (prices : PriceTable) (kept : Kept) (c : Certificate) (p : List Entry) (text : List ℕ) (status : Status)
    (object : List ℕ) → IsCheckVerdict t prices c (Yes kept (Some p))
    → IsYesTo (fenced_lines (cost_in (answer_of kept.answer)) p) text status object → PrintsVerdict t prices c text status
prints_fences t prices kept c p text status object verdict said = inl (record {
  placement = p;
  valid = verdict.1.0;
  best = verdict.1.1;
  shown = said.shown ∙ ap (λ n. yes_line ++ fenced_lines n p) (cost_said t prices kept c p verdict.0 verdict.1.0.answered);
  ends = said.ends;
})

-- what is printed of the file of the one witness
abbrev pub ShowsFirst : Kept → List ℕ → Status → List ℕ → Type 0
ShowsFirst kept text status object =
    (file : WitnessFile) → slice_get kept.witnesses 0 ≡ Some file → IsYesTo (none_lines (given_by file)) text status object

pub prints_none : (t : Test) (prices : PriceTable) (kept : Kept) (c : Certificate) (text : List ℕ) (status : Status) (object : List ℕ)
    → IsBounded t → IsCheckVerdict t prices c (Yes kept None) → ShowsFirst kept text status object → PrintsVerdict t prices c text status
prints_none t prices kept c text status object bounded verdict shown =
    let only = only_witness t kept c bounded verdict.0 verdict.1.0 in
    let said = shown only.0 only.1 in
    inr (inl (record { valid = verdict.1.0; shown = said.shown ∙ ap (λ w. yes_line ++ none_lines w) only.2; ends = said.ends }))

pub one_yes : (below text : List ℕ) (status : Status) (object : List ℕ) → IsYesTo below text status object → AreOneVerdict text object
one_yes below text status object said = inl (below, said.answer, said.same, said.shown, said.printed)

pub one_none : (t : Test) (prices : PriceTable) (kept : Kept) (c : Certificate) (text : List ℕ) (status : Status) (object : List ℕ)
    → IsBounded t → IsCheckVerdict t prices c (Yes kept None) → ShowsFirst kept text status object → AreOneVerdict text object
one_none t prices kept c text status object bounded verdict shown =
    let only = only_witness t kept c bounded verdict.0 verdict.1.0 in one_yes _ text status object (shown only.0 only.1)

-- what holds of an answer for each file holds of it for all
pub each_file : (kept : Kept) (r : Result Checked Fault)
    → ((file : WitnessFile) → slice_get kept.witnesses 0 ≡ Some file → IfOk r (λ made.
    IsYesTo (none_lines (given_by file)) (string_bytes made.output.text) made.output.status (string_bytes made.object)))
    → IfOk r (λ made. ShowsFirst kept (string_bytes made.output.text) made.output.status (string_bytes made.object))
each_file kept (Ok made) h = h
each_file kept (Err fault) h = tt

pub prints_refusal : (t : Test) (prices : PriceTable) (c : Certificate) (why : Reason) (text : List ℕ) → IsCheckVerdict t prices c (No why)
    → text ≡ refusal_line why → PrintsVerdict t prices c text Denied
prints_refusal t prices c why text verdict shown = inr (inr (record { why = why; refused = verdict; shown = shown; ends = refl }))
