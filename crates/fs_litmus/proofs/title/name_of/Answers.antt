use Rattle.std.proofs.Common.{◌≡◌, ℕ, ◌==◌, length, true, sym, arith, ◌∙◌}
use Rattle.std.proofs.lemmas.Bool.Decides.{nat_tests}
use Rattle.fs_litmus.proofs.NoTitle.{untitled}
use Rattle.fs_litmus.proofs.title.name_of.Goals as goal

is_zero : (n : ℕ) → (n == 0) ≡ true → n ≡ 0
is_zero n h = grind (arith, nat_tests)

pub returns-then-is_empty-clause-absent : goal.returns-then-is_empty-clause-absent
returns-then-is_empty-clause-absent c = λ _ name h.
    untitled c.args.text.now c.line_of.result.now c.in_ok-words.words.now c.in_ok-blank.rest.now c.trimmed-name.result.now name c.in_ok-blank.blank.now c.line_of.ensures c.in_ok-words.ensures.cases.1 c.in_ok-blank.ensures.cases.0 (is_zero (length c.trimmed-name.result.now) (sym c.is_empty.ensures ∙ c.if-is_empty.true)) c.trimmed-name.ensures h
