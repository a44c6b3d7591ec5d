use Rattle.std.proofs.Common.{◌∙◌}
use Rattle.fs_cert.proofs.Sayable.{run_sayable}
use Rattle.fs_cert.proofs.items.bounded.Goals as goal

pub returns-clause-small : goal.returns-clause-small
returns-clause-small c =
    run_sayable c.args.numbers.now c.args.first c.args.count c.new.result (c.new.ensures ∙ c.in_ok-run.ensures) c.requires.small c.requires.there c.if-count-eq0.false
