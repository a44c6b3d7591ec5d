use Rattle.fs_region_refutation.proofs.doings.Doings.new.Goals as goal

pub returns-in-None : goal.returns-in-None
returns-in-None c = λ number trace is. c.none.ensures number trace.steps
