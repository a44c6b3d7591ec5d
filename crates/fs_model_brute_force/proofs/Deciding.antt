-- All operations pass the tests just where their order obeys the axioms.
use Rattle.std.proofs.Common.{◌≡◌, ◌∙◌, ℕ, zero, suc, ◌+◌, ◌<◌, ◌≤◌, Bool, true, false, ◌&&◌, List, length, refl, sym, arith}
use Rattle.std.specs.List.{list_all, range_with_len}
use Rattle.std.proofs.lemmas.Bool.{false≢true}
use Rattle.fs_kinds.specs.declared.placement.Entry.{Entry}
use Rattle.fs_model.specs.Numbers.{numbers_below}
use Rattle.fs_model.specs.Operations.{PreExecution, accesses}
use Rattle.fs_model.specs.Source.{gmo, source_in, lists_each_once}
use Rattle.fs_model.specs.Execution.{ObeysAxioms}
use Rattle.fs_model.specs.Tests.{returns_source, goes_forward, keeps_atomicity}
use Rattle.fs_model.proofs.Ranges.{each_below, each_two_below}
use Rattle.fs_model_axioms.proofs.Axioms.{passing_obeys, obeying_goes_forward, obeying_returns, obeying_keeps_atomicity}
use Rattle.fs_model_brute_force.specs.Decisions.{Decides}

both : (b c : Bool) → b ≡ true → c ≡ true → (b && c) ≡ true
both true c e f = f
both false c e f = e

all_from : (test : ℕ → Bool) (a n : ℕ) → ((k : ℕ) → a ≤ k → k < a + n → test k ≡ true) → list_all test (range_with_len a n) ≡ true
all_from test a zero h = refl
all_from test a (suc n) h =
    both (test a) _ (h a (omega arith) (omega arith)) (all_from test (a + 1) n (λ k low high. h k (omega arith) (omega arith)))

all_below : (test : ℕ → Bool) (n : ℕ) → ((k : ℕ) → test k ≡ true) → list_all test (numbers_below n) ≡ true
all_below test n h = all_from test 0 n (λ k low high. h k)

two_below : (test : ℕ → ℕ → Bool) (n : ℕ) → ((a b : ℕ) → test a b ≡ true)
    → list_all (λ a. list_all (test a) (numbers_below n)) (numbers_below n) ≡ true
two_below test n h = all_below (λ a. list_all (test a) (numbers_below n)) n (λ a. all_below (test a) n (h a))

-- each operation, or each two, of the harts' own
module _ (x : PreExecution) (p : List Entry) (listed : List ℕ) where
  abbrev pub all_return : Bool
  all_return = list_all (returns_source x (source_in x listed)) (numbers_below (length (accesses x)))

  abbrev pub all_go_forward : Bool
  all_go_forward =
      list_all (λ a. list_all (goes_forward x p (source_in x listed) (gmo x listed) a) (numbers_below (length (accesses x))))
      (numbers_below (length (accesses x)))

  abbrev pub all_keep_atomicity : Bool
  all_keep_atomicity =
      list_all (λ r. list_all (keeps_atomicity x (source_in x listed) (gmo x listed) r) (numbers_below (length (accesses x))))
      (numbers_below (length (accesses x)))

  -- all tests pass: the order obeys the axioms
  pub passed : lists_each_once x listed ≡ true → all_return ≡ true → all_go_forward ≡ true → all_keep_atomicity ≡ true
      → ObeysAxioms x p listed
  passed once returns forward atomic = passing_obeys x p listed record {
    once = once;
    preserved = λ a b low high.
        each_two_below (goes_forward x p (source_in x listed) (gmo x listed)) (length (accesses x)) a b forward low high;
    values = λ a low. each_below (returns_source x (source_in x listed)) (length (accesses x)) a returns low;
    atomic = λ r w low high.
        each_two_below (keeps_atomicity x (source_in x listed) (gmo x listed)) (length (accesses x)) r w atomic low high;
  }

  -- it obeys the axioms: each test passes
  pub returning : ObeysAxioms x p listed → all_return ≡ true
  returning h = all_below (returns_source x (source_in x listed)) (length (accesses x)) (obeying_returns x p listed h)

  pub going_forward : ObeysAxioms x p listed → all_go_forward ≡ true
  going_forward h =
      two_below (goes_forward x p (source_in x listed) (gmo x listed)) (length (accesses x)) (obeying_goes_forward x p listed h)

  pub keeping : ObeysAxioms x p listed → all_keep_atomicity ≡ true
  keeping h =
      two_below (keeps_atomicity x (source_in x listed) (gmo x listed)) (length (accesses x)) (obeying_keeps_atomicity x p listed h)

  -- the last test decides, where the others pass
  pub decided : (result : Bool) → lists_each_once x listed ≡ true → all_return ≡ true → all_go_forward ≡ true
      → result ≡ all_keep_atomicity → Decides result (ObeysAxioms x p listed)
  decided true once returns forward e = passed once returns forward (sym e)
  decided false once returns forward e = λ h. false≢true (e ∙ keeping h)
