use Rattle.std.proofs.Common.{◌≡◌, None, Some, map, string_bytes, subst, sym}
use Rattle.std.specs.Arc.{arc_value}
use Rattle.std.proofs.lemmas.Result.{IfOk-weaker}
use Rattle.fs_model.specs.declared.test.Test.{Test}
use Rattle.fs_model.specs.Placed.{IsPlaced}
use Rattle.fs_model.specs.Slots.{slots}
use Rattle.fs_litmus.specs.Reads.{Reads}
use Rattle.fs_app_why.proofs.Faults.{of_runs_or}
use Rattle.fs_app_dot.proofs.certified.fenced_pictures.Goals as goal

pub returns-clause-told : goal.returns-clause-told
returns-clause-told c said kept =
    let bytes = c.args.test.now in
    let t = arc_value c.in_ok-read-2.read in
    let p = c.in_ok-placement.placement in
    let one : t ≡ c.in_ok-read.read = c.in_ok-read-2.ensures.ok in
    IfOk-weaker c.placed_pictures.result _ _
    (λ pictures told. record {
      the_test = t;
      placement = p;
      reads = subst (λ (u : Test). Reads bytes u) (sym one) c.in_ok-read.ensures.ok;
      placed = subst (λ (u : Test). IsPlaced None (slots u) (map string_bytes c.args.fences.now) (Some p)) (sym one)
          c.in_ok-placement.ensures.ok;
      told = told;
    })
    (c.placed_pictures.ensures.told said kept)

pub returns-clause-fault : goal.returns-clause-fault
returns-clause-fault c =
    let t = arc_value c.in_ok-read-2.read in
    let one : t ≡ c.in_ok-read.read = c.in_ok-read-2.ensures.ok in
    of_runs_or c.args.test.now t c.placed_pictures.result _
    (subst (λ (u : Test). Reads c.args.test.now u) (sym one) c.in_ok-read.ensures.ok) c.placed_pictures.ensures.err
