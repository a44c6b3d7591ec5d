use Rattle.fs_litmus.proofs.Naming.{numbered}
use Rattle.std.proofs.Common.{◌∙◌, ap}
use Rattle.fs_litmus.specs.Locations.{number_of_location}
use Rattle.fs_litmus.proofs.names.Names.number_of.Goals as goal

pub returns-clause-value : goal.returns-clause-value
returns-clause-value c = c.get_index_of.ensures.index ∙ numbered c.args.name.now _ ∙ ap (λ n. number_of_location n c.args.name.now) c.self.view_is
