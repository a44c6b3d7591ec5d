use Rattle.fs_model.specs.Fenced.{fenced}
use Rattle.fs_litmus.proofs.FencedPrintable.{fenced_printable}
use Rattle.fs_litmus.proofs.PrintedReads.{printable, reads, tested}
use Rattle.fs_litmus.proofs.PrintedFaults.{long_first}
use Rattle.fs_litmus.proofs.round_trip.reads_back.Goals as goal

pub returns-clause-plain : goal.returns-clause-plain
returns-clause-plain c = λ h. reads c.args.test.now (printable c.args.test.now h) h.bounded.lengths

pub returns-clause-fenced : goal.returns-clause-fenced
returns-clause-fenced c = λ h.
    let u = fenced c.args.test.now c.args.placement.now in
    let p = fenced_printable c.args.test.now c.args.placement.now h in
    record { test = tested u p; reads = reads u p; long = long_first u p }
