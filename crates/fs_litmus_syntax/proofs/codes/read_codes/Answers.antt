use Rattle.std.proofs.Common.{None, subst}
use Rattle.fs_litmus_syntax.specs.Columns.{cells_of}
use Rattle.fs_litmus_syntax.specs.Codes.{AreHarts}
use Rattle.fs_litmus_syntax.proofs.HartLemmas.{kept_only, codes_clean}
use Rattle.fs_litmus_syntax.proofs.codes.read_codes.Goals as goal

pub returns-in-None-clause-only : goal.returns-in-None-clause-only
returns-in-None-clause-only c =
    let cells = cells_of c.args.cells.now in
    kept_only c.args.columns cells c.in_ok-codes.codes.items (subst (λ o. AreHarts c.args.columns cells c.in_ok-codes.codes.items o) c.in-None.is c.in_ok-codes.ensures)

pub returns-in-None-clause-clean : goal.returns-in-None-clause-clean
returns-in-None-clause-clean c =
    let cells = cells_of c.args.cells.now in
    let read : AreHarts c.args.columns cells c.in_ok-codes.codes.items None = subst (λ o. AreHarts c.args.columns cells c.in_ok-codes.codes.items o) c.in-None.is c.in_ok-codes.ensures in
    λ f h. codes_clean c.args.columns cells read.0 f read.1 h
