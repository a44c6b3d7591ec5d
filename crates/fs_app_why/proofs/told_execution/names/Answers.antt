use Rattle.std.proofs.Common.{◌∙◌, length, arith}
use Rattle.fs_cand_witness.specs.Naming.{name_at}
use Rattle.fs_app_why.proofs.Numbered.{name_more, all_names}
use Rattle.fs_app_why.proofs.told_execution.names.Goals as goal

pub loop-a-preserved : goal.loop-a-preserved
loop-a-preserved c =
    name_more (name_at c.args.candidate.now) c.loop-a.names.items _ c.operation_name.result c.loop-a.a c.loop-a.invariant
    c.operation_name.ensures.read c.in_ok-push.ensures.items

pub returns : goal.returns
returns c =
    c.new.ensures
    ∙ all_names (name_at c.args.candidate.now) c.loop-a.names.items c.loop-a.a (length c.args.candidate.now.operations)
    c.loop-a.invariant (omega (arith, c.loop-a-test.false, c.loop-a.auto.a-end))
