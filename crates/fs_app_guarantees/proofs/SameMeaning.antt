-- What an answer of `solve`, and a yes of `check`, mean by the chapter is what the headline says of them.
use Rattle.std.proofs.Common.{◌≡◌, ℕ, ◌⊎◌, ◌++◌, inl, inr, List, refl, ap, ◌∙◌}
use Rattle.std.specs.Prelude.{◌↔◌}
use Rattle.fs_kinds.specs.declared.placement.Entry.{Entry}
use Rattle.fs_kinds.specs.PriceTable.{PriceTable, cost}
use Rattle.fs_model.specs.declared.test.Test.{Test}
use Rattle.fs_model.specs.Allows.{full_fences}
use Rattle.fs_model.specs.Executions.{Allows}
use Rattle.fs_model.specs.Answers as answers
use Rattle.fs_model.specs.Fenced.{fenced}
use Rattle.fs_model.specs.OfTests.{program_of, outcome_of}
use Rattle.fs_model.specs.Reasons.{IsYes}
use Rattle.fs_model.specs.Test.{IsTest}
use Rattle.fs_model.specs.Witness.{Witness}
use Rattle.fs_cert_evidence.specs.Texts.{fenced_lines, none_lines}
use Rattle.fs_model_laws.proofs.FencedPrograms.{cheapest_alike, fenced_alike, tested_alike}
use Rattle.fs_model_laws.proofs.Ranking.{by_cost_and_order}
use Rattle.fs_cert_evidence.specs.Certificate.{Version, First, Second, Fourth}
use Rattle.fs_cert_evidence.specs.CertificateFile.{version_number}
use Rattle.fs_app_solve_and_check.specs.Check.{yes_line}
use Rattle.fs_app_io.specs.declared.status.Status.{Status}
use Rattle.fs_app_io.specs.declared.status.Status.TheVariants.{Success, Denied, Failure, OutOfMemory, Vacuous}
use Rattle.fs_app_io.specs.Status.{code}
use Rattle.fs_app_guarantees.specs.Checked.{LeastRulesOut, IsBestAnswer}
use Rattle.fs_app_guarantees.specs.Headline.{StaysPossible, IsRuledOut, CheapestRulesOut, NothingRulesOut}
use Rattle.fs_app_guarantees.specs.Meanings.{ShowsOutcome, Solves, cheapest, nothing, IsLeast, Accepts, solved, least}
use Rattle.fs_app_guarantees.proofs.Meaning.{ruled_out, stays}
use Rattle.fs_app_guarantees.proofs.OrderTakes.{takes}
use Rattle.fs_app_guarantees.proofs.Witnesses.{given_file}

success : (s : Status) → code s ≡ 0 → s ≡ Success
success Success e = refl
success Denied e = absurd (let one : 1 ≡ 0 = e in cc)
success Failure e = absurd (let two : 2 ≡ 0 = e in cc)
success OutOfMemory e = absurd (let three : 3 ≡ 0 = e in cc)
success Vacuous e = absurd (let four : 4 ≡ 0 = e in cc)

denied : (s : Status) → code s ≡ 1 → s ≡ Denied
denied Success e = absurd (let none : 0 ≡ 1 = e in cc)
denied Denied e = refl
denied Failure e = absurd (let two : 2 ≡ 1 = e in cc)
denied OutOfMemory e = absurd (let three : 3 ≡ 1 = e in cc)
denied Vacuous e = absurd (let four : 4 ≡ 1 = e in cc)

-- what the headline says of a test and prices
abbrev IsSo : Test → PriceTable → (text : List ℕ) → Status → Type 0
IsSo t table text status = ((status ≡ Success) × CheapestRulesOut t table text) ⊎ ((status ≡ Denied) × NothingRulesOut t text)

module _ (t : Test) (h : IsTest t) (table : PriceTable) (text : List ℕ) (status : Status) where
  fences_said : (p : List Entry) → answers.IsCheapest (program_of t) (outcome_of t) table p → text ≡ fenced_lines (cost table p) p
      → CheapestRulesOut t table text
  fences_said p c shown =
      let is = (cheapest_alike t table p).1 c in
      record {
        placement = p;
        shown = shown;
        placed = is.placement;
        ruled_out = ruled_out t h p is.forbids;
        better = λ q over better. stays t h q (is.better q over better);
      }

  none_said : (w : Witness) → answers.NothingRulesOut (program_of t) (outcome_of t) → ShowsOutcome (program_of t) (outcome_of t) w
      → text ≡ none_lines w → NothingRulesOut t text
  none_said w none s shown =
      let yes : IsYes t (full_fences t) w = (takes t w).0 s in
      record {
        witness = w;
        shown = shown;
        says = given_file t (full_fences t) yes.0 h.bounded yes.2 w yes.1;
        shows = yes;
        possible = λ q over. stays t h q ((fenced_alike t q).0 (none q over));
      }

  said : Solves (program_of t) (outcome_of t) table text (code status) → IsSo t table text status
  said (cheapest p c shown ends) = inl (success status ends, fences_said p c shown)
  said (nothing w none s shown ends) = inr (denied status ends, none_said w none s shown)

  rules_out : (p : List Entry) → IsRuledOut t p → Allows (answers.fenced (program_of t) p) (outcome_of t) → ⊥
  rules_out p out allowed = out (fenced t p) (inl refl) ((tested_alike (fenced t p)).0 allowed)

  allows : (q : List Entry) → StaysPossible t q → Allows (answers.fenced (program_of t) q) (outcome_of t)
  allows q possible = (tested_alike (fenced t q)).1 (possible (fenced t q) (inl refl))

  meant : IsSo t table text status → Solves (program_of t) (outcome_of t) table text (code status)
  meant so = elim so [
    | inl (ends, a) ↦
        let p = a.placement in
        let best : answers.IsCheapest (program_of t) (outcome_of t) table p = record {
          placement = a.placed;
          rules_out = rules_out p a.ruled_out;
          better = λ q over better. allows q (a.better q over better);
        } in
        cheapest p best a.shown (ap code ends)
    | inr (ends, a) ↦
        nothing a.witness (λ q over. allows q (a.possible q over)) ((takes t a.witness).1 a.shows) a.shown (ap code ends)
  ]

  pub same : Solves (program_of t) (outcome_of t) table text (code status) ↔ IsSo t table text status
  same = (said, meant)

-- ---- a yes of `check`

-- what is true below a yes to a certificate of this version
abbrev IsSoBelow : Version → Test → PriceTable → (text : List ℕ) → Type 0
IsSoBelow version t table text = (below : List ℕ) × (text ≡ yes_line ++ below) × (IsBestAnswer version t table below ⊎ NothingRulesOut t below)

module _ (t : Test) (h : IsTest t) (table : PriceTable) where
  least_said : (p : List Entry) (text : List ℕ) → IsLeast (program_of t) (outcome_of t) table p → text ≡ fenced_lines (cost table p) p
      → LeastRulesOut t table text
  least_said p text is shown = record {
    placement = p;
    shown = shown;
    placed = is.placement;
    ruled_out = ruled_out t h p (λ allowed. is.rules_out ((fenced_alike t p).1 allowed));
    cheaper = λ q over less. stays t h q ((fenced_alike t q).0 (is.cheaper q over less));
  }

  -- the cheapest is one of those that cost least
  least_of : (text : List ℕ) → CheapestRulesOut t table text → LeastRulesOut t table text
  least_of text a = record {
    placement = a.placement;
    shown = a.shown;
    placed = a.placed;
    ruled_out = a.ruled_out;
    cheaper = λ q over less. a.better q over ((by_cost_and_order table q a.placement).cheaper less);
  }

  best_of : (version : Version) (text : List ℕ) → CheapestRulesOut t table text → IsBestAnswer version t table text
  best_of First text a = least_of text a
  best_of Second text a = a
  best_of Fourth text a = a

  answer_of : (version : Version) (text : List ℕ) (status : ℕ) → Solves (program_of t) (outcome_of t) table text status
      → IsBestAnswer version t table text ⊎ NothingRulesOut t text
  answer_of version text status (cheapest p c shown ends) = inl (best_of version text (fences_said t h table text Success p c shown))
  answer_of version text status (nothing w none s shown ends) = inr (none_said t h table text Success w none s shown)

  first_alone : (version : Version) → version_number version ≡ 1 → (text : List ℕ) → LeastRulesOut t table text → IsBestAnswer version t table text
  first_alone First e text a = a
  first_alone Second e text a = absurd (let two : 2 ≡ 1 = e in cc)
  first_alone Fourth e text a = absurd (let four : 4 ≡ 1 = e in cc)

  accepted : (version : Version) (text : List ℕ) → Accepts (version_number version) (program_of t) (outcome_of t) table text
      → IsSoBelow version t table text
  accepted version text (solved below status s shown) = (below, shown, answer_of version below status s)
  accepted version text (least p first is shown) =
      let below : List ℕ = fenced_lines (cost table p) p in
      (below, shown, inl (first_alone version first below (least_said p below is refl)))

  from_solved : (version : Version) (text below : List ℕ) (status : Status) → text ≡ yes_line ++ below → IsSo t table below status
      → Accepts (version_number version) (program_of t) (outcome_of t) table text
  from_solved version text below status shown so = solved below (code status) (meant t h table below status so) shown

  from_best : (version : Version) (text below : List ℕ) → text ≡ yes_line ++ below → IsBestAnswer version t table below
      → Accepts (version_number version) (program_of t) (outcome_of t) table text
  from_best First text below shown a =
      let p = a.placement in
      let is : IsLeast (program_of t) (outcome_of t) table p = record {
        placement = a.placed;
        rules_out = rules_out t h table text Success p a.ruled_out;
        cheaper = λ q over less. allows t h table text Success q (a.cheaper q over less);
      } in
      least p refl is (shown ∙ ap (λ (lines : List ℕ). yes_line ++ lines) a.shown)
  from_best Second text below shown a = from_solved Second text below Success shown (inl (refl, a))
  from_best Fourth text below shown a = from_solved Fourth text below Success shown (inl (refl, a))

  accepts : (version : Version) (text : List ℕ) → IsSoBelow version t table text → Accepts (version_number version) (program_of t) (outcome_of t) table text
  accepts version text (below, shown, so) = elim so [
    | inl a ↦ from_best version text below shown a
    | inr a ↦ from_solved version text below Denied shown (inr (refl, a))
  ]

  pub same_yes : (version : Version) (text : List ℕ)
      → Accepts (version_number version) (program_of t) (outcome_of t) table text ↔ IsSoBelow version t table text
  same_yes version text = (accepted version text, accepts version text)
