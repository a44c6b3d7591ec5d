use Rattle.fs_kinds.proofs.Names.{kind_named, kind_unnamed}
use Rattle.fs_kinds.proofs.kind.Kind.of.Goals as goal

pub returns-clause-named : goal.returns-clause-named
returns-clause-named c = kind_named c.args.text.now c.of_word.result c.of_word.ensures

pub returns-clause-none : goal.returns-clause-none
returns-clause-none c = kind_unnamed c.args.text.now c.of_word.result c.of_word.ensures
