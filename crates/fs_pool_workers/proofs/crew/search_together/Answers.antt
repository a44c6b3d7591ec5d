use Rattle.fs_pool_workers.proofs.crew.search_together.Goals as goal

pub work_together-requires-clause-met : goal.work_together-requires-clause-met
work_together-requires-clause-met g c κs within = c.requires.met
