-- The printed form reads back.
use Rattle.std.proofs.Common.{arith}
use Rattle.fs_litmus_syntax.specs.Form.{Form}
use Rattle.fs_litmus_syntax.specs.Grammar.{Syntax}
use Rattle.fs_model.specs.Condition.{condition_of}
use Rattle.fs_model.specs.Printed.{printed}
use Rattle.fs_model.specs.Test.{IsTest}
use Rattle.fs_model.specs.declared.test.Test.{Test}
use Rattle.fs_litmus.specs.Reads.{HasForm, MeanTest, IsWithinLimits, Reads}
use Rattle.fs_litmus.specs.Fence.{IsShort}
use Rattle.fs_litmus.specs.inner.Printable.{IsPrintable}
use Rattle.fs_litmus.specs.inner.Written.{syntax_of}
use Rattle.fs_litmus.proofs.PrintedBytesWhole.{printed_tokens, printed_title, printed_utf8}
use Rattle.fs_litmus.proofs.PrintedForm.{written_form}
use Rattle.fs_litmus.proofs.PrintedMeaning.{form_means, form_within}

abbrev pub syntax_in : Test → Syntax
syntax_in u = syntax_of u.locations (condition_of u.condition)

-- the form of the printed text, and what it means
pub record IsPrinted (u : Test) : Type 0 where
  pub form : Form
  pub has_form : HasForm (printed u) form (syntax_in u)
  pub means : MeanTest form (syntax_in u) u
  pub within : IsShort u → IsWithinLimits form (syntax_in u) u

pub is_printed : (u : Test) → IsPrintable u → IsPrinted u
is_printed u h =
    let tokens = printed_tokens u h in
    let form = written_form u h tokens.0 tokens.2 in
    record {
      form = form.0;
      has_form = record { tokens = tokens.0; has_tokens = tokens.1; rest = form.1; is_form = form.2.is_form; is_condition = form.2.is_condition };
      means = form_means u tokens.0 form.0 form.1 h form.2;
      within = λ short. form_within u tokens.0 form.0 form.1 h short form.2;
    }

-- a test can be printed
pub printable : (t : Test) → IsTest t → IsPrintable t
printable t h =
    record {
      utf8 = h.utf8;
      bounded = record {
        starts = h.bounded.starts;
        forward = h.bounded.forward;
        atoms = h.bounded.atoms;
        harts = h.bounded.harts;
        lengths = λ k d low. (let few = h.bounded.lengths k d low in omega (arith, few));
        accesses = h.bounded.accesses;
        locations = h.bounded.locations;
        depth = h.bounded.depth;
      };
      title = h.title;
      some_hart = h.some_hart;
      registers = h.registers;
      instructions = h.instructions;
      named = h.named;
      distinct = h.distinct;
      words = h.words;
    }

pub reads : (u : Test) → IsPrintable u → IsShort u → Reads (printed u) u
reads u h short =
    let p = is_printed u h in
    record { utf8 = printed_utf8 u h h.utf8; title = printed_title u h; form = p.form; syntax_of = syntax_in u; has_form = p.has_form; means = p.means; limits = p.within short }

-- a printable test of short codes is a test
pub tested : (u : Test) → IsPrintable u → IsShort u → IsTest u
tested u h short =
    record {
      utf8 = h.utf8;
      bounded = record {
        starts = h.bounded.starts;
        forward = h.bounded.forward;
        atoms = h.bounded.atoms;
        harts = h.bounded.harts;
        lengths = short;
        accesses = h.bounded.accesses;
        locations = h.bounded.locations;
        depth = h.bounded.depth;
      };
      title = h.title;
      some_hart = h.some_hart;
      registers = h.registers;
      instructions = h.instructions;
      named = h.named;
      distinct = h.distinct;
      words = h.words;
    }
