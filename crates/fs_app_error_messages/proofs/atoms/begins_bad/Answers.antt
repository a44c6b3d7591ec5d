use Rattle.std.proofs.Common.{sym, refl}
use Rattle.fs_litmus_tokens.specs.Tokens.{views}
use Rattle.fs_litmus_tokens.specs.Values.{target_of, value_of}
use Rattle.fs_app_error_messages.proofs.BadAtoms.{no_sign, no_value, begins_decides}
use Rattle.fs_app_error_messages.proofs.atoms.begins_bad.Goals as goal

pub returns-in_default-behind_sign : goal.returns-in_default-behind_sign
returns-in_default-behind_sign c =
    no_sign c.args.columns (views c.args.tokens.now) (target_of c.in-Some.target) c.in-Some.rest.now c.in-Some.ensures.found (sym c.in_default-behind_sign.ensures)

pub returns-in-Some-take_value : goal.returns-in-Some-take_value
returns-in-Some-take_value c =
    begins_decides c.args.columns (views c.args.tokens.now) (target_of c.in-Some.target) c.in-Some.rest.now c.in-Some.ensures.found c.in-Some-behind_sign.rest.now (value_of c.in-Some-take_value.value) c.in-Some-take_value.ensures.found.0 c.is_bad.result (sym c.in-Some-behind_sign.ensures) c.in-Some-take_value.ensures.found.1 c.is_bad.ensures

pub returns-in-None : goal.returns-in-None
returns-in-None c =
    no_value c.args.columns (views c.args.tokens.now) (target_of c.in-Some.target) c.in-Some.rest.now c.in-Some.ensures.found c.in-Some-behind_sign.rest.now (sym c.in-Some-behind_sign.ensures) (c.in-None.ensures.absent refl)
