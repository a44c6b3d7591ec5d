use Rattle.std.proofs.Common.{◌/◌, length, subst, sym, arith}
use Rattle.std.proofs.lemmas.Result.{IfOk-weaker}
use Rattle.fs_model.specs.Condition.{condition_of, SpeaksOf}
use Rattle.fs_judge_outcomes.proofs.Balanced.{few_left, few_right, all_left, all_right, both_hold, both_deep, some_depth}
use Rattle.fs_judge_outcomes.proofs.condition.+all_of.Goals as goal

pub all_of-requires : goal.all_of-requires
all_of-requires t c =
    let atoms = c.args.atoms.now in
    let depth = c.args.depth in
    let some = some_depth (length atoms) depth c.in_default.len_at_least c.requires.few in
    (omega (arith, some, c.decreases), (few_left atoms depth (length c.args.places.now) c.in_default.len_at_least c.requires.few c.requires.places, all_left atoms depth (length c.args.places.now) c.in_default.len_at_least c.requires.few c.requires.places))

pub all_of-requires-in_default : goal.all_of-requires-in_default
all_of-requires-in_default t c =
    let atoms = c.args.atoms.now in
    let depth = c.args.depth in
    let some = some_depth (length atoms) depth c.in_default.len_at_least c.requires.few in
    (omega (arith, some, c.decreases), (few_right atoms depth (length c.args.places.now) c.in_default.len_at_least c.requires.few c.requires.places, all_right atoms depth (length c.args.places.now) c.in_default.len_at_least c.requires.few c.requires.places))

pub returns-in_ok-right-in_default-clause-holds : goal.returns-in_ok-right-in_default-clause-holds
returns-in_ok-right-in_default-clause-holds t c =
    IfOk-weaker c.both.result _ _
    (λ made is. both_hold c.args.atoms.now (length c.args.atoms.now / 2) c.args.places.now (condition_of made) _ _ is
    c.in_ok-left-in_default.ensures.holds c.in_ok-right-in_default.ensures.holds)
    c.both.ensures

pub returns-in_ok-right-in_default-clause-depth : goal.returns-in_ok-right-in_default-clause-depth
returns-in_ok-right-in_default-clause-depth t c =
    let some = some_depth (length c.args.atoms.now) c.args.depth c.in_default.len_at_least c.requires.few in
    IfOk-weaker c.both.result _ _
    (λ made is. both_deep c.args.depth (condition_of made) _ _ is some
    c.in_ok-left-in_default.ensures.depth c.in_ok-right-in_default.ensures.depth)
    c.both.ensures

pub returns-in_ok-right-in_default-clause-speaks :
    goal.returns-in_ok-right-in_default-clause-speaks
returns-in_ok-right-in_default-clause-speaks t c =
    IfOk-weaker c.both.result _ _
    (λ made is harts locations all. subst (SpeaksOf harts locations) (sym is)
    (c.in_ok-left-in_default.ensures.speaks harts locations all, c.in_ok-right-in_default.ensures.speaks harts locations all))
    c.both.ensures
