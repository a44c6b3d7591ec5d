use Rattle.fs_app_plain.proofs.OneTest.{one_test}
use Rattle.fs_app_plain.proofs.plain.checked_test.Goals.{then-is_wide+in_ok-check_words, else-is_wide}
use Rattle.fs_app_plain.proofs.plain.checked_test.Goals as goal

pub returns-clause-exact : goal.returns-clause-exact
returns-clause-exact c = λ wide. elim c.if-is_wide.branch [
  | then-is_wide+in_ok-check_words w ↦
      one_test c.args.text.now c.in-Ok.test c.in-Ok.ensures.ok
      w.in_ok-check_words.ensures.listable w.in_ok-check_words.ensures.exact
  | else-is_wide w ↦ let other = w.if-is_wide.false in absurd (cc)
]
