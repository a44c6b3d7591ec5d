use Rattle.fs_ppo.proofs.Made.{between_made}
use Rattle.fs_ppo.proofs.dependencies.address_between.Goals as goal

pub returns : goal.returns
returns c = λ words made before.
    cc (
      c.any_address.ensures,
      c.hart.ensures words made,
      c.place-i.ensures words made,
      c.place-j.ensures words made,
      c.from.ensures,
      c.from-2.ensures,
      between_made c.args.candidate.now words c.args.a c.args.b made before,
    )
