use Rattle.std.proofs.Common.{◌≡◌, ℕ, ◌<◌, ◌≤◌, ◌+◌, List, All, take, length, get_or, ap, ◌∙◌, arith}
use Rattle.std.specs.Prelude.{sum_by, count_by}
use Rattle.std.proofs.lemmas.List.Sums.{sum_by-le, sum_by_more_le, count_by-le-length}
use Rattle.fs_instr.specs.declared.instr.Instr.{Instr}
use Rattle.fs_model.specs.Forms.{is_storing}
use Rattle.fs_values.proofs.rounds.rounds.Goals as goal

-- what is counted of some codes and the next one is little
little : (codes : List (List Instr)) (i n : ℕ) (code : List Instr) → All (λ code. length code ≤ 32) codes → length codes ≤ 8 → i < length codes
    → code ≡ get_or codes i code → n ≡ count_by is_storing code → sum_by (count_by is_storing) (take i codes) + n ≤ 256
little codes i n code short few low here counted =
    let each : All (λ code. count_by is_storing code ≤ 32) codes =
    (λ k d inside. let most = count_by-le-length is_storing (get_or codes k d) in let long = short k d inside in omega (arith, most, long)) in
    let all = sum_by-le (count_by is_storing) 32 codes each in
    let more = sum_by_more_le (count_by is_storing) codes i code low in
    let same : n ≡ count_by is_storing (get_or codes i code) = counted ∙ ap (count_by is_storing) here in
    omega (arith, all, more, same, few)

pub overflow_add-total : goal.overflow_add-total
overflow_add-total c =
    let codes = c.args.test.now.codes in
    let same = c.as_slice-code-items.ensures in
    let long = ap length same in
    let most = little codes c.loop-code.code-index c.count_storing-total.result c.code-item.result c.requires.lengths c.requires.harts
    (omega (arith, c.loop-code-test.true, long))
    (c.code-item.is ∙ ap (λ xs. get_or xs c.loop-code.code-index c.code-item.result) same)
    (c.count_storing-total.ensures.value ∙ ap (count_by is_storing) c.as_slice.ensures) in
    let sum = c.loop-code.invariant in
    omega (arith, most, sum)
