use Rattle.std.proofs.Common.{◌≡◌, ℕ, ◌==◌, nat_lt, Bool, true, ◌||◌, ◌&&◌, refl, arith}
use Rattle.std.proofs.lemmas.Bool.Decides.{nat_tests}
use Rattle.fs_model_worked_examples.proofs.early.early_widths.Goals as goal

less : (m : ℕ) (later : Bool) → m ≡ 17 → (nat_lt m 18 || (m == 18) && later) ≡ true
less m later is = grind (arith, nat_tests)

pub returns-clause-dearer : goal.returns-clause-dearer
returns-clause-dearer c = λ p is. less _ _ is

pub returns-clause-both : goal.returns-clause-both
returns-clause-both c = refl

pub returns-clause-equal : goal.returns-clause-equal
returns-clause-equal c = refl

pub returns-clause-unbound : goal.returns-clause-unbound
returns-clause-unbound c = refl

pub returns-clause-shared : goal.returns-clause-shared
returns-clause-shared c = refl

pub returns-clause-unbroken : goal.returns-clause-unbroken
returns-clause-unbroken c = refl

pub returns-clause-pruned : goal.returns-clause-pruned
returns-clause-pruned c = refl
