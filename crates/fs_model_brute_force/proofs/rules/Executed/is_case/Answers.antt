use Rattle.std.proofs.Common.{◌-◌, ◌≤◌, ap, sym, arith, false}
use Rattle.std.specs.Prelude.{option_map, unwrap_or}
use Rattle.fs_hart.specs.Steps.{steps_in}
use Rattle.fs_model_brute_force.specs.Among.{case_among}
use Rattle.fs_model_brute_force.proofs.Cases.{no_rule}
use Rattle.fs_model_brute_force.proofs.rules.Executed.is_case.Goals as goal

pub returns-in_default : goal.returns-in_default
returns-in_default c =
    let past : 13 ≤ c.args.n - 1 = omega arith in
    let e = c.args.self.now in
    let test = case_among e.operations.now (steps_in e.traces.now) e.placement.now e.sources.now c.args.a c.args.b in
    sym (ap (λ found. unwrap_or (option_map test found) false) (no_rule (c.args.n - 1) past))
