-- A form and a condition that are a test's printed ones mean the test, and are within the limits.
use Rattle.std.proofs.Common.{◌≡◌, ◌≤◌, List, [], map, length, All, Some, refl, sym, ap, ◌∙◌, subst}
use Rattle.std.specs.List.{enumerate_from}
use Rattle.std.proofs.lemmas.List.{length-map}
use Rattle.fs_litmus_syntax.specs.Grammar.{Syntax}
use Rattle.fs_litmus_syntax.specs.Meaning as meaning
use Rattle.fs_litmus_syntax.specs.Meaning.{atoms_of, depth_of}
use Rattle.fs_litmus_syntax.specs.Codes.{AreCodes}
use Rattle.fs_litmus_syntax.specs.Form.{Form}
use Rattle.fs_litmus_syntax.specs.Body.{flatten}
use Rattle.fs_litmus_tokens.specs.Tokens.{Lined, without_lines}
use Rattle.fs_litmus.specs.Locations.{declared}
use Rattle.fs_litmus.specs.Settings.{entry_bindings, settings_after}
use Rattle.fs_litmus.specs.Starts.{starts_of, AreLocations}
use Rattle.fs_litmus.specs.Atoms.{condition_in}
use Rattle.fs_litmus.specs.Reads.{MeanTest, IsWithinLimits, names_in, quantifier_of}
use Rattle.fs_model.specs.Condition.{condition_of}
use Rattle.fs_litmus.specs.inner.Printable.{IsPrintable}
use Rattle.fs_model.specs.declared.test.Test.{Test}
use Rattle.fs_model.specs.declared.test.Quantifier.{Quantifier}
use Rattle.fs_model.specs.declared.test.Quantifier.TheVariants.{Exists, NotExists, Forall}
use Rattle.fs_litmus.specs.inner.Written.{bindings_of, rows_toks, syntax_of, written_quantifier, HasWrittenForm}
use Rattle.fs_litmus.proofs.PrintedCode.{codes_mean}
use Rattle.fs_litmus.proofs.PrintedMeaningNames.{names_of, AreApart, are_apart, names_are}
use Rattle.fs_litmus.proofs.PrintedMeaningStarts.{test_settings, starts_are, locations_are}
use Rattle.fs_litmus.proofs.PrintedMeaningBindings.{settings_are, are_long}
use Rattle.fs_litmus.proofs.PrintedMeaningCondition.{condition_back, depth_within}

quantifier_back : (q : Quantifier) → q ≡ quantifier_of (written_quantifier q)
quantifier_back Exists = refl
quantifier_back NotExists = refl
quantifier_back Forall = refl

-- the form and the condition are, but for lines, those that are printed for the test
pub record IsWritten (u : Test) (form : Form) (s : Syntax) : Type 0 where
  pub bindings : entry_bindings form.entries ≡ bindings_of u
  pub columns : form.columns ≡ length u.codes
  pub rows : map (λ r. map without_lines r) form.rows ≡ rows_toks u
  pub quantifier : form.quantifier ≡ written_quantifier u.quantifier
  pub condition : s ≡ syntax_of u.locations (condition_of u.condition)

module _ (u : Test) (form : Form) (s : Syntax) (h : IsPrintable u) (w : IsWritten u form s) where
  apart : AreApart u.locations
  apart = are_apart u.locations h.distinct

  -- the names that are declared
  pub written_names : names_in form s ≡ names_of u.locations
  written_names =
      ap (λ bs. declared (declared [] bs) (atoms_of s)) w.bindings
      ∙ ap (λ x. declared (declared [] (bindings_of u)) (atoms_of x)) w.condition
      ∙ names_are u.locations (enumerate_from 0 u.starts) (length u.codes) (condition_of u.condition) apart h.bounded.atoms

  written_settings : settings_after form.columns (names_in form s) [] (entry_bindings form.entries) ≡ Some (test_settings u.locations u.starts)
  written_settings =
      ap (λ n. settings_after n (names_in form s) [] (entry_bindings form.entries)) w.columns
      ∙ ap (λ ns. settings_after (length u.codes) ns [] (entry_bindings form.entries)) written_names
      ∙ ap (λ bs. settings_after (length u.codes) (names_of u.locations) [] bs) w.bindings
      ∙ settings_are (length u.codes) u.locations u.starts apart h.bounded.locations h.bounded.harts h.bounded.starts h.registers h.words

  written_condition : condition_in form.columns (names_in form s) (meaning.condition_of s) ≡ Some (condition_of u.condition)
  written_condition =
      ap (λ n. condition_in n (names_in form s) (meaning.condition_of s)) w.columns
      ∙ ap (λ ns. condition_in (length u.codes) ns (meaning.condition_of s)) written_names
      ∙ ap (λ x. condition_in (length u.codes) (names_of u.locations) (meaning.condition_of x)) w.condition
      ∙ condition_back (length u.codes) u.locations (condition_of u.condition) apart h.bounded.locations h.bounded.harts h.bounded.atoms

  pub written_means : MeanTest form s u
  written_means =
      record {
        codes = subst (λ n. AreCodes n (flatten form.rows) u.codes) (sym w.columns) (codes_mean u form.rows h w.rows);
        settings = test_settings u.locations u.starts;
        are_settings = written_settings;
        starts = starts_are u.locations u.starts h.bounded.locations (are_long u.starts h.registers) ∙ ap (λ n. starts_of n (test_settings u.locations u.starts)) (h.bounded.starts ∙ sym w.columns);
        locations = subst (λ ns. AreLocations ns (test_settings u.locations u.starts) u.locations) (sym written_names) (locations_are u.locations u.starts h.bounded.locations (are_long u.starts h.registers));
        quantifier = quantifier_back u.quantifier ∙ ap quantifier_of (sym w.quantifier);
        condition = written_condition;
      }

  pub written_within : All (λ code. length code ≤ 32) u.codes → IsWithinLimits form s u
  written_within short =
      record {
        harts = subst (λ n. n ≤ 8) (sym w.columns) h.bounded.harts;
        instructions = short;
        accesses = h.bounded.accesses;
        locations = subst (λ n. n ≤ 8) (sym (ap length written_names ∙ length-map u.locations (λ x. x.name))) h.bounded.locations;
        depth = subst (λ x. depth_of x ≤ 64) (sym w.condition) (depth_within u.locations (condition_of u.condition) h.bounded.depth);
      }

-- ---- from the form of a printed test

pub form_is_written : (u : Test) (ts : List Lined) (form : Form) (rest : List Lined) → HasWrittenForm u ts form rest → IsWritten u form (syntax_of u.locations (condition_of u.condition))
form_is_written u ts form rest h = record { bindings = h.bindings; columns = h.columns; rows = h.rows; quantifier = h.quantifier; condition = refl }

pub form_means : (u : Test) (ts : List Lined) (form : Form) (rest : List Lined) → IsPrintable u → HasWrittenForm u ts form rest → MeanTest form (syntax_of u.locations (condition_of u.condition)) u
form_means u ts form rest h w = written_means u form (syntax_of u.locations (condition_of u.condition)) h (form_is_written u ts form rest w)

pub form_within : (u : Test) (ts : List Lined) (form : Form) (rest : List Lined) → IsPrintable u → All (λ code. length code ≤ 32) u.codes → HasWrittenForm u ts form rest → IsWithinLimits form (syntax_of u.locations (condition_of u.condition)) u
form_within u ts form rest h short w = written_within u form (syntax_of u.locations (condition_of u.condition)) h (form_is_written u ts form rest w) short
