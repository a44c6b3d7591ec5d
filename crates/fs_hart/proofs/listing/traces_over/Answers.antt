use Rattle.std.proofs.Common.{◌≡◌, ◌≤◌, length, refl, ap, subst, sym, ◌∙◌, arith}
use Rattle.fs_model.specs.Test.{GoesForward}
use Rattle.fs_model.specs.Trace.{start_with, hart_after}
use Rattle.fs_model.specs.Execution.{code_of, registers_of}
use Rattle.fs_hart.specs.Listing.{IsTraceFault}
use Rattle.fs_hart.specs.inner.Walking.{IsCut}
use Rattle.fs_hart.proofs.Along.{code_forward, code_short}
use Rattle.fs_hart.proofs.Exploring.{handed}
use Rattle.fs_hart.proofs.Leading.{explores_led, cut_led, led_on_path}
use Rattle.fs_hart.proofs.Listings.{traces_found, astray_found, why_none}
use Rattle.fs_hart.proofs.listing.traces_over.Goals as goal

pub go_on-requires : goal.go_on-requires
go_on-requires c =
    let short : length (code_of c.args.test.now c.args.hart) ≤ 32 = code_short c.args.test.now c.args.hart c.requires.test c.requires.hart in
    let size : length c.code_of.result.now ≡ length (code_of c.args.test.now c.args.hart) = ap length c.code_of.ensures in
    let zero : c.start-start.result.at ≡ 0 = ap (λ g. g.at) c.start-start.ensures in
    record { short = omega arith; forward = subst GoesForward (sym c.code_of.ensures) (code_forward c.args.test.now c.args.hart c.requires.test.forward c.requires.hart); at = omega arith }

pub explore-requires : goal.explore-requires
explore-requires c =
    let led = c.in_ok-go_on.ensures.leads in
    let size : length c.code_of.result.now ≡ length (code_of c.args.test.now c.args.hart) = ap length c.code_of.ensures in
    let inside = led.inside in
    let begins : c.start-start.result ≡ start_with (registers_of c.args.test.now c.args.hart) = c.start-start.ensures ∙ ap start_with c.registers_of.ensures in
    let here : c.start-start.result ≡ hart_after (start_with (registers_of c.args.test.now c.args.hart)) c.new.result.items = begins ∙ ap (hart_after _) (sym c.new.ensures.items) in
    let on_path = led_on_path _ c.code_of.result.now _ c.start-start.result c.go_on.new.state _ c.go_on.new.self led here in
    record { test = c.requires.test; hart = c.requires.hart; sets = c.requires.sets; at = omega arith; on_path = on_path }

pub returns-in_err-explore-clause-err : goal.returns-in_err-explore-clause-err
returns-in_err-explore-clause-err c =
    let fault = c.in_err-explore.field-0.0 in
    let cut : IsCut c.args.test.now c.args.hart c.args.sets.now c.start-start.result 0 fault
    = cut_led c.args.test.now c.args.hart c.args.sets.now _ c.code_of.result.now c.start-start.result c.go_on.new.state _ c.go_on.new.self fault (ap length c.as_slice.ensures) c.code_of.ensures c.in_ok-go_on.ensures.leads c.in_err-explore.ensures.err in
    handed c.from_residual-in_err-explore.result fault (IsTraceFault c.args.test.now c.args.hart c.args.sets.now) c.from_residual-in_err-explore.ensures.1
    (why_none c.args.test.now c.args.hart c.args.sets.now 0 fault refl
    (subst (λ h. IsCut c.args.test.now c.args.hart c.args.sets.now h 0 fault) (c.start-start.ensures ∙ ap start_with c.registers_of.ensures) cut))

pub returns-in-Some-clause-err : goal.returns-in-Some-clause-err
returns-in-Some-clause-err c =
    let found = explores_led c.args.test.now c.args.hart c.args.sets.now _ c.code_of.result.now c.start-start.result c.go_on.new.state _ c.go_on.new.self c.explore.new.self (ap length c.as_slice.ensures) c.code_of.ensures c.in_ok-go_on.ensures.leads c.in_ok-explore.ensures.ok in
    astray_found c.args.test.now c.args.hart c.args.sets.now _ _ c.in-Some.at c.start-start.result (c.start-start.ensures ∙ ap start_with c.registers_of.ensures)
    found refl refl (omega (arith, c.explore.new.self.few)) c.in-Some.is

pub returns-in-None-clause-ok : goal.returns-in-None-clause-ok
returns-in-None-clause-ok c =
    let found = explores_led c.args.test.now c.args.hart c.args.sets.now _ c.code_of.result.now c.start-start.result c.go_on.new.state _ c.go_on.new.self c.explore.new.self (ap length c.as_slice.ensures) c.code_of.ensures c.in_ok-go_on.ensures.leads c.in_ok-explore.ensures.ok in
    traces_found c.args.test.now c.args.hart c.args.sets.now _ _ c.start-start.result (c.start-start.ensures ∙ ap start_with c.registers_of.ensures)
    found c.new.ensures.items c.new-2.ensures.items refl refl (omega (arith, c.explore.new.self.few)) c.in-None.is
