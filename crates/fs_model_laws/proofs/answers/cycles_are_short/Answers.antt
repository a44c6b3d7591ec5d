use Rattle.fs_model_laws.proofs.answers.cycles_are_short.Goals as goal

pub returns : goal.returns
returns c = λ t p candidate links cycle. (cycle.some, cycle.most)
