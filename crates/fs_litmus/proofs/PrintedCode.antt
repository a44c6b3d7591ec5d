-- The rows of a test's printed form mean its codes.
use Rattle.std.proofs.Common.{◌≡◌, ℕ, ◌<◌, List, map, length, slice_get, Some, All, refl, subst, arith}
use Rattle.fs_litmus_syntax.specs.Body.{flatten}
use Rattle.fs_litmus_syntax.specs.Columns.{column}
use Rattle.fs_litmus_syntax.specs.Codes.{AreCodes, IsHart}
use Rattle.fs_instr.specs.OfTable.{IsOfTable}
use Rattle.fs_instr.specs.declared.instr.Instr.{Instr}
use Rattle.fs_litmus_tokens.specs.Tokens.{Lined, without_lines}
use Rattle.fs_model.specs.Test.{GoesForward}
use Rattle.fs_litmus.specs.inner.Printable.{IsPrintable}
use Rattle.fs_model.specs.declared.test.Test.{Test}
use Rattle.fs_litmus.specs.inner.Written.{rows_toks}
use Rattle.fs_litmus.proofs.PrintedCodeRows.{HasColumn, column_cells}
use Rattle.fs_litmus.proofs.PrintedCodeItems.{items_of_cells}
use Rattle.fs_litmus.proofs.PrintedCodeLabels.{items_mean}
use Rattle.std.proofs.lemmas.Option.{slice_get_within, get_or_from_slice_get}

all_got : {A : Type 0} (P : A → Type 0) (xs : List A) (number : ℕ) (x : A) → All P xs → slice_get xs number ≡ Some x → P x
all_got P xs number x h e = subst P (get_or_from_slice_get xs number x x e) (h number x (slice_get_within xs number x e))

hart_means : (cells : List (List Lined)) (code : List Instr) → HasColumn cells code → All IsOfTable code → GoesForward code → length code < 256 → IsHart cells code
hart_means cells code h table forward short =
    let items = items_of_cells code code 0 h.blank cells table (omega arith) (omega (arith, short)) h.toks in
    record { hart = items.items; are = items.are; means = items_mean code items.items items.printed forward (omega (arith, short)) }

-- rows that are, but for their lines, the printed ones mean the test's codes
pub codes_mean : (u : Test) (rows : List (List (List Lined))) → IsPrintable u → map (λ r. map without_lines r) rows ≡ rows_toks u → AreCodes (length u.codes) (flatten rows) u.codes
codes_mean u rows h e =
    record {
      count = refl;
      each = λ number code found. hart_means (column (length u.codes) number (flatten rows)) code (column_cells u.codes rows number code e found)
          (all_got (All IsOfTable) u.codes number code h.instructions found)
          (all_got GoesForward u.codes number code h.bounded.forward found)
          (all_got (λ c. length c < 256) u.codes number code h.bounded.lengths found);
    }
