use Rattle.std.proofs.Common.{◌∙◌}
use Rattle.std.proofs.lemmas.Result.{IfOk-weaker}
use Rattle.fs_model.specs.Allows.{full_fences}
use Rattle.fs_app_why.proofs.Faults.{memory_or}
use Rattle.fs_app_dot.specs.Executions.{none_title}
use Rattle.fs_app_dot.proofs.OfBytes.{of_bytes}
use Rattle.fs_app_dot.proofs.possible.none_pictures.Goals as goal

pub lines_of-requires : goal.lines_of-requires
lines_of-requires c = (c.in_ok-read.read, c.in_ok-read.ensures.ok)

pub returns-clause-shown : goal.returns-clause-shown
returns-clause-shown c w keeps =
    IfOk-weaker c.witness_pictures.result _ _
    (λ pictures. of_bytes full_fences (none_title c.args.title.now) c.args.test.now w c.in_ok-read.read c.in_ok-placement.placement
    c.as_str.result.now c.in_ok-read.ensures.ok c.in_ok-placement.ensures.ok (c.as_str.ensures.value ∙ c.in_ok-title.ensures) pictures.items)
    (c.witness_pictures.ensures.shown w keeps)

pub returns-clause-fault : goal.returns-clause-fault
returns-clause-fault c = memory_or c.witness_pictures.result _ c.witness_pictures.ensures.err
