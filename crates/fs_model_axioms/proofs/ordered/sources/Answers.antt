use Rattle.std.proofs.Common.{length, arith}
use Rattle.fs_model.specs.Source.{source_in}
use Rattle.fs_model_axioms.proofs.Sources.{source_more, all_sources}
use Rattle.fs_model_axioms.proofs.ordered.sources.Goals as goal

pub loop-a-preserved : goal.loop-a-preserved
loop-a-preserved c x listed of order =
    source_more (source_in x listed) c.loop-a.sources.items _ c.source_in.result c.loop-a.a (c.loop-a.invariant x listed of order)
    (c.source_in.ensures x listed of order) c.in_ok-push.ensures.items

pub returns : goal.returns
returns c x listed of order =
    all_sources (source_in x listed) c.loop-a.sources.items c.loop-a.a (length c.args.operations.now)
    (c.loop-a.invariant x listed of order) (omega (arith, c.loop-a-test.false, c.loop-a.auto.a-end))
