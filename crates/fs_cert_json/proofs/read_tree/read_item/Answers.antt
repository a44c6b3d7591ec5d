use Rattle.serde_json.specs.View.{view}
use Rattle.fs_cert_json.specs.Kept.{version_of}
use Rattle.fs_cert_json.proofs.Parts.{no_leaf}
use Rattle.fs_cert_json.proofs.read_tree.read_item.Goals as goal

pub returns-in-Some-pair_in-clause-bad : goal.returns-in-Some-pair_in-clause-bad
returns-in-Some-pair_in-clause-bad c =
    λ is. no_leaf (version_of c.args.version) (view c.args.value.now) (view c.in-Some-pair_in.letter.now) (view c.in-Some-pair_in.argument.now) c.in-Some-pair_in.ensures (c.read_leaf.ensures.bad is)
