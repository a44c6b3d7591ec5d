-- What is told of runs with an order.
use Rattle.std.proofs.Common.{◌≡◌, ◌∙◌, ℕ, Bool, true, false, List, Option, None, Some, IfSome, IfNone, ap, sym, subst}
use Rattle.std.specs.Prelude.{if◌then◌else◌}
use Rattle.fs_kinds.specs.declared.placement.Entry.{Entry}
use Rattle.fs_model.specs.declared.test.Test.{Test}
use Rattle.fs_model.specs.Allows.{Allows, no_fences}
use Rattle.fs_model.specs.Witness.{Witness}
use Rattle.fs_litmus.specs.Reads.{Reads}
use Rattle.fs_litmus.specs.Lines.{StandIn}
use Rattle.fs_cert_evidence.specs.Shown.{IsShownBy}
use Rattle.fs_app_why.specs.Reordered.{IsToldOf}
use Rattle.fs_app_why.specs.declared.telling.Telling.{Telling}
use Rattle.fs_app_why.specs.declared.told_execution.Told.{Told}
use Rattle.fs_app_why.specs.Executions.{operation_at}
use Rattle.fs_app_why.specs.inner.Told.{TellsExecution}
use Rattle.fs_app_why.specs.Why.{IsAllowed, IsExecutionTold, IsForbiddenWhy, IsNotShown, TellsForbidden, TellsUnless, lacks_written, unwritten_text}
use Rattle.fs_app_why.specs.Traces.{early_text, late_text, mark_text, marks_early, passed, passing, places}

-- ---- which mark an operation has

module _ (lines : List (List ℕ)) (told : Told) (a : ℕ) where
  marked : Bool → List ℕ
  marked early =
      if early then early_text (places lines told (passed told a)) else late_text (places lines told (passing told a))

  pub marked_early : (b : Bool) (text : List ℕ) → b ≡ marks_early told (operation_at told a).hart → b ≡ true
      → text ≡ early_text (places lines told (passed told a)) → text ≡ mark_text lines told a
  unfolding marked
  marked_early b text e early is = is ∙ ap marked (sym early ∙ e)

  pub marked_late : (b : Bool) (text : List ℕ) → b ≡ marks_early told (operation_at told a).hart → b ≡ false
      → text ≡ late_text (places lines told (passing told a)) → text ≡ mark_text lines told a
  unfolding marked
  marked_late b text e late is = is ∙ ap marked (sym late ∙ e)

-- ---- from the test that was read to its bytes

module _ (fences : Test → List Entry) (heading bytes : List ℕ) (w : Witness) (t : Test) (p : List Entry) (lines : List (List ℕ)) where
  told_of_bytes : Reads bytes t → StandIn bytes lines → p ≡ fences t → (text : List ℕ) → TellsExecution t p lines heading w text
      → IsExecutionTold fences heading bytes w text
  told_of_bytes reads stand is text told = record {
    the_test = t;
    lines = lines;
    execution = told.execution;
    reads = reads;
    stand = stand;
    is_of = subst (λ q. IsToldOf t q w told.execution) is told.is_of;
    told = told.told;
  }

  pub told_if_some : {A : Type 0} (text_of : A → List ℕ) (found : Option A) → Reads bytes t → StandIn bytes lines → p ≡ fences t
      → IfSome found (λ text. TellsExecution t p lines heading w (text_of text))
      → IfSome found (λ text. IsExecutionTold fences heading bytes w (text_of text))
  told_if_some text_of (Some text) reads stand is told = told_of_bytes reads stand is (text_of text) told
  told_if_some text_of None reads stand is told = tt

pub not_shown_if_none : {A : Type 0} (fences : Test → List Entry) (bytes : List ℕ) (t : Test) (p : List Entry) (w : Witness) (found : Option A)
    → Reads bytes t → p ≡ fences t → IfNone found (IsShownBy t p w → ⊥) → IfNone found (IsNotShown fences bytes w)
not_shown_if_none fences bytes t p w (Some text) reads is not = tt
not_shown_if_none fences bytes t p w None reads is not =
    record { the_test = t; reads = reads; shown = subst (λ q. IsShownBy t q w → ⊥) is not }

module _ (bytes : List ℕ) (t : Test) (p : List Entry) (reads : Reads bytes t) (is : p ≡ no_fences t) where
  pub forbidden_if_some : {A : Type 0} (telling : Telling) (lines : List (List ℕ)) (text_of : A → List ℕ) (found : Option A)
      → StandIn bytes lines
      → IfSome found (λ text. TellsUnless (lacks_written telling t) (unwritten_text telling) (TellsForbidden t lines telling p) (text_of text))
      → IfSome found (λ text. IsForbiddenWhy telling bytes (text_of text))
  forbidden_if_some telling lines text_of (Some text) stand tells = record {
    the_test = t;
    lines = lines;
    reads = reads;
    stand = stand;
    tells = subst (λ q. TellsUnless (lacks_written telling t) (unwritten_text telling) (TellsForbidden t lines telling q) (text_of text))
        is tells;
  }
  forbidden_if_some telling lines text_of None stand tells = tt

  pub allowed_if_none : {A : Type 0} (found : Option A) → IfNone found (Allows t p) → IfNone found (IsAllowed bytes)
  allowed_if_none (Some text) shows = tt
  allowed_if_none None shows = (t, reads, subst (Allows t) is shows)
