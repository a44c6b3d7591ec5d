use Rattle.std.specs.Arc.{arc_value}
use Rattle.fs_tests_out_of_memory.proofs.desks.make.Given as goal

-- the desks are for this question
abbrev pub ghosts-make_desks : goal.ghosts-make_desks
ghosts-make_desks g a = record { question = arc_value a.question.now; limit = 14 }
