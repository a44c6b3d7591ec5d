-- Codes that are short enough are so one by one.
use Rattle.std.proofs.Common.{◌≡◌, ◌≤◌, ◌∙◌, List, length, All, true, false, arith, sym}
use Rattle.std.proofs.lemmas.Bool.{true≢false}
use Rattle.std.proofs.lemmas.Bool.Decides.{nat_tests}
use Rattle.std.proofs.lemmas.List.Sums.{AllPass-from_list_all, list_all-from_AllPass}
use Rattle.std.specs.Prelude.{nat_le}
use Rattle.fs_instr.specs.declared.instr.Instr.{Instr}
use Rattle.fs_kinds.specs.Limits.{most_instructions}
use Rattle.fs_app_sites.specs.inner.Short.{is_short}

fits : (code : List Instr) → nat_le (length code) most_instructions ≡ true → length code ≤ most_instructions
fits code is = grind (arith, nat_tests, is)

fitting : (code : List Instr) → length code ≤ most_instructions → nat_le (length code) most_instructions ≡ true
fitting code low = grind (arith, nat_tests, low)

pub are-short : (codes : List (List Instr)) → is_short codes ≡ true → All (λ code. length code ≤ most_instructions) codes
are-short codes short k d low = fits _ (AllPass-from_list_all (λ code. nat_le (length code) most_instructions) codes short k d low)

pub are-long : (codes : List (List Instr)) → is_short codes ≡ false → All (λ code. length code ≤ most_instructions) codes → ⊥
are-long codes long short =
    true≢false (sym (list_all-from_AllPass (λ code. nat_le (length code) most_instructions) codes (λ k d low. fitting _ (short k d low))) ∙ long)
