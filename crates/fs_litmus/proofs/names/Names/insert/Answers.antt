use Rattle.fs_litmus.proofs.Naming.{inserted}
use Rattle.std.proofs.Common.{◌∙◌, ap}
use Rattle.fs_litmus.specs.Locations.{with_name}
use Rattle.fs_litmus.proofs.names.Names.insert.Goals as goal

pub returns : goal.returns
returns c = inserted _ _ c.args.name c.in_ok-insert.ensures.keys ∙ ap (λ n. with_name n c.args.name.now) c.self.view_is
