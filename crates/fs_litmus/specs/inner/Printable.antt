-- What can be printed and read again, and the fenced test as such a test.
use Rattle.std.specs.Prelude.{◌≡◌, ◌≢◌, ◌<◌, ◌≤◌, ◌^◌, length, sum_by, count_by, IsTrue, All, AllPairs}
use Rattle.std.specs.Str.{IsUtf8}
use Rattle.fs_kinds.specs.Limits.{most_harts, most_accesses, most_locations, most_depth}
use Rattle.fs_instr.specs.Instructions.{is_memory}
use Rattle.fs_instr.specs.OfTable.{IsOfTable}
use Rattle.fs_model.specs.Condition.{condition_of, nesting, SpeaksOf}
use Rattle.fs_model.specs.Test.{GoesForward, IsStart, is_name, is_title}
use Rattle.fs_model.specs.declared.test.Test.{Test}

-- the bounds of a test, but that a hart may have too many instructions
pub record IsAlmostBounded (t : Test) : Type 0 where
  pub starts : length t.starts ≡ length t.codes
  pub forward : All GoesForward t.codes
  pub atoms : SpeaksOf (length t.codes) (length t.locations) (condition_of t.condition)
  pub harts : length t.codes ≤ most_harts
  pub lengths : All (λ code. length code < 256) t.codes
  pub accesses : sum_by (count_by is_memory) t.codes ≤ most_accesses
  pub locations : length t.locations ≤ most_locations
  pub depth : nesting (condition_of t.condition) ≤ most_depth

-- all that makes a test, but that a hart may have too many instructions, as fences may give it
pub record IsPrintable (t : Test) : Type 0 where
  pub utf8 : IsUtf8 t.name
  pub bounded : IsAlmostBounded t
  pub title : IsTrue (is_title t.name)
  pub some_hart : 1 ≤ length t.codes
  pub registers : All IsStart t.starts
  pub instructions : All (All IsOfTable) t.codes
  pub named : All (λ x. IsTrue (is_name x.name)) t.locations
  pub distinct : AllPairs (λ x y. x.name ≢ y.name) t.locations
  pub words : All (λ x. x.word < 2 ^ 32) t.locations
