use Rattle.std.proofs.Common.{ℕ, List, length, map, set, sym, ◌∙◌, ap, arith}
use Rattle.std.specs.Prelude.{slice_get}
use Rattle.fs_model.specs.Numbers.{numbers_below}
use Rattle.fs_hart.specs.declared.trace.Trace.{Trace}
use Rattle.fs_hart.specs.Steps.{steps_in}
use Rattle.fs_cert_evidence.specs.Musts.{traces_of}
use Rattle.fs_region_refutation.proofs.Others.{nothing_run, idle_long, runs_set, own_set}
use Rattle.fs_region_refutation.proofs.idle.traces.Goals as goal

pub index_mut-requires : goal.index_mut-requires
index_mut-requires c =
    let long = idle_long c.in_ok-traces.traces.items c.len.result c.in_ok-traces.ensures in
    omega (arith, long, c.len.ensures, c.from.ensures, c.requires, c.in_ok-traces.traces.ok)

pub returns-clause-steps : goal.returns-clause-steps
returns-clause-steps c =
    ap steps_in c.new.ensures
    ∙ runs_set c.in_ok-traces.traces.items c.args.trace (length c.args.test.now.codes) c.from.result (omega (arith, c.from.ensures, c.requires))
    (c.in_ok-traces.ensures ∙ ap (λ (n : ℕ). map nothing_run (numbers_below n)) c.len.ensures)
    ∙ ap (λ (h : ℕ). traces_of c.args.test.now h c.args.trace.steps) c.from.ensures

pub returns-clause-own : goal.returns-clause-own
returns-clause-own c =
    ap (λ (traces : List Trace). slice_get traces c.args.hart) c.new.ensures
    ∙ ap (λ (h : ℕ). slice_get (set c.in_ok-traces.traces.items c.from.result c.args.trace) h) (sym c.from.ensures)
    ∙ own_set c.in_ok-traces.traces.items c.args.trace (length c.args.test.now.codes) c.from.result (omega (arith, c.from.ensures, c.requires))
    (c.in_ok-traces.ensures ∙ ap (λ (n : ℕ). map nothing_run (numbers_below n)) c.len.ensures)
