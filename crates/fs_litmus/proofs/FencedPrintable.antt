-- The fenced test can be printed and read again.
use Rattle.std.proofs.Common.{◌≤◌, List, length, All, sym, ◌∙◌, subst, arith}
use Rattle.fs_instr.specs.OfTable.{IsOfTable}
use Rattle.fs_instr.specs.declared.instr.Instr.{Instr}
use Rattle.fs_kinds.specs.declared.placement.Entry.{Entry}
use Rattle.fs_model.specs.Condition.{condition_of, SpeaksOf}
use Rattle.fs_model.specs.Fenced.{fenced}
use Rattle.fs_model.specs.Test.{GoesForward, IsTest}
use Rattle.fs_model.specs.declared.test.Test.{Test}
use Rattle.fs_model.proofs.FencedPlaces.{fences_code}
use Rattle.fs_model.proofs.FencedSteps.{length-fenced_codes, short-fenced_codes}
use Rattle.fs_model.proofs.FencedTest.{forward_fenced, table_fenced, accesses_kept, each_fenced}
use Rattle.fs_litmus.specs.inner.Printable.{IsPrintable}

-- what the instructions of a code are
record IsGood (code : List Instr) : Type 0 where
  pub few : length code ≤ 32
  pub forward : GoesForward code
  pub table : All IsOfTable code

good : (codes : List (List Instr)) → All (λ code. length code ≤ 32) codes → All GoesForward codes → All (All IsOfTable) codes → All IsGood codes
good codes few forward table k d low = record { few = few k d low; forward = forward k d low; table = table k d low }

pub fenced_printable : (t : Test) (p : List Entry) → IsTest t → IsPrintable (fenced t p)
fenced_printable t p h =
    let many = length-fenced_codes p t.codes in
    let all = good t.codes h.bounded.lengths h.bounded.forward h.instructions in
    let some = h.some_hart in
    let most = h.bounded.harts in
    let fit = h.bounded.accesses in
    let kept = accesses_kept p t.codes in
    record {
      utf8 = h.utf8;
      bounded = record {
        starts = h.bounded.starts ∙ sym many;
        forward = each_fenced IsGood GoesForward p t.codes (λ hart code g. forward_fenced p hart code (fences_code p hart code).whole g.forward) all;
        atoms = subst (λ n. SpeaksOf n (length t.locations) (condition_of t.condition)) (sym many) h.bounded.atoms;
        harts = omega (arith, many, most);
        lengths = short-fenced_codes p t.codes h.bounded.lengths;
        accesses = omega (arith, fit, kept);
        locations = h.bounded.locations;
        depth = h.bounded.depth;
      };
      title = h.title;
      some_hart = omega (arith, many, some);
      registers = h.registers;
      instructions = each_fenced IsGood (All IsOfTable) p t.codes (λ hart code g. table_fenced p hart code g.few g.forward g.table) all;
      named = h.named;
      distinct = h.distinct;
      words = h.words;
    }
