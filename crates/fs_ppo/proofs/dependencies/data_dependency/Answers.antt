use Rattle.fs_ppo.proofs.Made.{data_made}
use Rattle.fs_ppo.proofs.dependencies.data_dependency.Goals as goal

pub returns : goal.returns
returns c = λ words made before.
    cc (
      c.has_data.ensures,
      c.hart.ensures words made,
      c.place-i.ensures words made,
      c.place-j.ensures words made,
      c.from.ensures,
      c.from-2.ensures,
      data_made c.args.candidate.now words c.args.a c.args.b made before,
    )
