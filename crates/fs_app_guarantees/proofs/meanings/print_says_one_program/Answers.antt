use Rattle.fs_app_guarantees.proofs.InPrint.{printed_is, from_test, to_test, one_print}
use Rattle.fs_app_guarantees.proofs.meanings.print_says_one_program.Goals as goal

pub returns-clause-shown : goal.returns-clause-shown
returns-clause-shown c = printed_is

pub returns-clause-printable : goal.returns-clause-printable
returns-clause-printable c = λ t. (from_test t, to_test t)

pub returns-clause-once : goal.returns-clause-once
returns-clause-once c = one_print
