use Rattle.std.proofs.Common.{sym, ◌∙◌, arith}
use Rattle.std.proofs.lemmas.Grind.{common_steps}
use Rattle.fs_model.proofs.Texts.{value_text-found, value_text-none}
use Rattle.fs_app_states.proofs.columns.push_value.Goals as goal

pub returns-then-address-word : goal.returns-then-address-word
returns-then-address-word c =
    let name = value_text-found c.args.locations.now c.loop-number.number c.args.word c.index-locations-number.result (omega arith) c.index-locations-number.is (sym c.address.ensures ∙ c.if-address-word.true) c.loop-number.invariant.0 in
    rw (name, ← c.loop-number.invariant.1, ← c.as_str.ensures) (grind (arith, common_steps))

pub returns : goal.returns
returns c =
    let number = value_text-none c.args.locations.now c.loop-number.number c.args.word (omega arith) c.loop-number.invariant.0 in
    rw (number, ← c.loop-number.invariant.1) c.write.ensures.bytes
