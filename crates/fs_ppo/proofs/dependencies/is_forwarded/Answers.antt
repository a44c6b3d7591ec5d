use Rattle.std.proofs.Common.{◌&&◌, ◌||◌}
use Rattle.fs_model.specs.Operations.{is_store}
use Rattle.fs_model.specs.Dependencies.{address_dependency, data_dependency}
use Rattle.fs_cand.specs.Candidates.{runs_of, rf}
use Rattle.fs_ppo.proofs.Between.{passes_one, passes_none}
use Rattle.fs_ppo.proofs.dependencies.is_forwarded.Goals as goal

pub returns-in-Some : goal.returns-in-Some
returns-in-Some c = λ words made.
    let x = runs_of c.args.candidate.now words in
    passes_one x (λ m. is_store x m && (address_dependency x c.args.a m || data_dependency x c.args.a m)) (rf c.args.candidate.now c.args.b) c.args.a c.args.b
    c.from.result c.is_dependent_store.result (cc (c.source_of.ensures, c.in-Some.is, c.from.ensures)) (c.is_dependent_store.ensures words made)

pub returns-in-None : goal.returns-in-None
returns-in-None c = λ words made.
    let x = runs_of c.args.candidate.now words in
    passes_none x (λ m. is_store x m && (address_dependency x c.args.a m || data_dependency x c.args.a m)) (rf c.args.candidate.now c.args.b) c.args.a c.args.b
    (cc (c.source_of.ensures, c.in-None.is))
