use Rattle.std.proofs.Common.{◌∙◌, List, map, ap, subst, sym}
use Rattle.std.specs.Borrow.{Bor}
use Rattle.std.specs.List.{list_any}
use Rattle.fs_region_refutation.specs.Alone.{RunOf}
use Rattle.fs_region_refutation.specs.Views.{region_of, list_at, runs_of, AreRunsOf}
use Rattle.fs_region_refutation.specs.inner.Asked.{ends_so}
use Rattle.fs_region_refutation.proofs.Alike.{own_ends, each_ends_alike}
use Rattle.fs_region_refutation.proofs.Each.{registers_own, registers_other, same_seen}
use Rattle.fs_region_refutation.proofs.endings.registers_each.Goals as goal

pub returns-in_ok-marks : goal.returns-in_ok-marks
returns-in_ok-marks c = λ t of.
    let old = c.args.region.now in
    let hart = c.args.hart in
    c.in_ok-marks.ensures
    ∙ ap (λ (runs : List (Bor RunOf)). map (ends_so c.args.register c.args.ending) runs) c.runs.ensures
    ∙ each_ends_alike t hart c.args.register c.args.ending (list_at old hart) (of hart)
    ∙ registers_own t hart c.args.own c.args.register c.args.ending (region_of old) c.if-own-hart.true

pub returns-in_ok-marks-2 : goal.returns-in_ok-marks-2
returns-in_ok-marks-2 c = λ t of.
    let old = c.args.region.now in
    let hart = c.args.hart in
    let own = c.args.own in
    c.in_ok-marks-2.ensures
    ∙ same_seen c.may_end_register-ends.result c.runs-else-own-hart-2.result.now (list_at old hart) c.runs-else-own-hart-2.ensures
    ∙ registers_other t hart own c.args.register c.args.ending (region_of old) c.if-own-hart.false c.may_end_register-ends.result
    (c.may_end_register-ends.ensures t own (subst (AreRunsOf t own) (sym c.runs-else-own-hart.ensures) (of own))
    ∙ ap (λ (runs : List (Bor RunOf)). list_any (own_ends t own c.args.register c.args.ending) (runs_of runs)) c.runs-else-own-hart.ensures)
