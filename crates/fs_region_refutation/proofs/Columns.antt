-- What is listed of runs is what they do.
use Rattle.std.proofs.Common.{◌≡◌, ℕ, ◌+◌, inl, inr, Bool, true, false, Option, Some, option_map, option_and_then, List, [], ◌∷◌, ◌++◌, map, sym, ◌∙◌, ap, arith}
use Rattle.std.specs.Prelude.{slice_get, unwrap_or, if◌then◌else◌}
use Rattle.std.proofs.lemmas.Bool.{cases_lt}
use Rattle.std.proofs.lemmas.List.FromFn.{length-map-range_with_len, get_or-map-range_with_len, map-range_with_len_more}
use Rattle.std.proofs.lemmas.Option.{none-some, slice_get-map, slice_get-get_or, slice_get_past}
use Rattle.fs_instr.specs.declared.instr.Instr.{Instr}
use Rattle.fs_model.specs.declared.step.Step.{Step}
use Rattle.fs_model.specs.Numbers.{numbers_below}
use Rattle.fs_model.specs.Slots.{is_memory_at}
use Rattle.fs_hart.specs.declared.trace.Trace.{Trace}
use Rattle.fs_region_refutation.specs.declared.doings.Doing.{Doing}
use Rattle.fs_region_refutation.specs.declared.doings.Doings.{Doings}
use Rattle.fs_region_refutation.specs.Beside.{doing_of, column_of, IsBeside, AreDoings}

in_column : (b : Bool) (traces : List Trace) (at number : ℕ) (trace : Trace) (doing : Doing) → slice_get traces number ≡ Some trace
    → slice_get (if b then map (λ trace. doing_of trace.steps at) traces else []) number ≡ Some doing → doing ≡ doing_of trace.steps at
in_column true traces at number trace doing is listed =
    ap (λ (o : Option Doing). unwrap_or o doing)
    (sym listed ∙ slice_get-map (λ (trace : Trace). doing_of trace.steps at) traces number ∙ ap (option_map (λ trace. doing_of trace.steps at)) is)
in_column false traces at number trace doing is listed = absurd (none-some doing listed)

pub none_listed : (doings : Doings) → doings.columns.items ≡ [] → (number : ℕ) (run : List Step) → IsBeside doings number run
none_listed doings none number run at doing listed =
    absurd (none-some doing (sym (ap (λ columns. option_and_then (λ (column : List Doing). slice_get column number) (slice_get columns at)) none) ∙ listed))

module _ (code : List Instr) (traces : List Trace) where
  pub columns_more : (columns : List (List Doing)) (column : List Doing) (n : ℕ) → columns ≡ map (column_of code traces) (numbers_below n)
      → column ≡ column_of code traces n → columns ++ column ∷ [] ≡ map (column_of code traces) (numbers_below (n + 1))
  columns_more columns column n before is =
      ap (λ columns. columns ++ column ∷ []) before
      ∙ ap (λ column. map (column_of code traces) (numbers_below n) ++ column ∷ []) is
      ∙ sym (map-range_with_len_more (column_of code traces) 0 n n (omega arith))

  pub all_listed : (doings : Doings) (n : ℕ) → doings.columns.items ≡ map (column_of code traces) (numbers_below n) → AreDoings traces doings
  all_listed doings n are number trace is at doing listed =
      let all = map (column_of code traces) (numbers_below n) in
      let long = length-map-range_with_len (column_of code traces) 0 n in
      let there = sym (ap (λ columns. option_and_then (λ (column : List Doing). slice_get column number) (slice_get columns at)) are) ∙ listed in
      elim (cases_lt at n) [
        | inl low ↦
            in_column (is_memory_at code at) traces at number trace doing is
            (sym (ap (option_and_then (λ (column : List Doing). slice_get column number))
            (slice_get-get_or all at [] (omega (arith, low, long)) ∙ ap Some (get_or-map-range_with_len (column_of code traces) 0 n at at [] low (omega arith))))
            ∙ there)
        | inr high ↦
            absurd (none-some doing (sym (ap (option_and_then (λ (column : List Doing). slice_get column number))
            (slice_get_past all at (omega (arith, high, long)))) ∙ there))
      ]
