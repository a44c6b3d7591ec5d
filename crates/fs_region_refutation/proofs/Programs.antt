-- What holds of a test by its program alone.
use Rattle.std.proofs.Common.{◌≡◌, ℕ, List, Option, subst}
use Rattle.fs_model.specs.declared.test.Test.{Test}
use Rattle.fs_model.specs.Runs.{Program}
use Rattle.fs_model.specs.OfTests.{program_of}
use Rattle.fs_cand.specs.declared.candidate.Candidate.{Candidate}
use Rattle.fs_region_refutation.specs.inner.Tables.{IsReady}

-- the test with another program
abbrev pub with_program : Program → Test → Test
with_program p t = record t { codes = p.codes; starts = p.starts; locations = p.locations }

-- what is true of a test is true of any that has its program
abbrev pub Keeps : (Test → Type 0) → Type 0
Keeps P = (t u : Test) → P t → P (with_program (program_of t) u)

pub carried : (P : Test → Type 0) → Keeps P → (t u : Test) → program_of t ≡ program_of u → P t → P u
carried P keeps t u same h = subst (λ (p : Program). P (with_program p u)) same (keeps t u h)

pub still_ready : (hart : ℕ) (c : Candidate) (places numbers : List (Option ℕ)) → Keeps (λ t. IsReady t hart c places numbers)
still_ready hart c places numbers t u h =
    record {
      alone = record {
        low = h.alone.low;
        made = h.alone.made;
        traces = h.alone.traces;
        registers = h.alone.registers;
        source = h.alone.source;
      };
      tables = record { placed = h.tables.placed; numbered = h.tables.numbered };
    }
