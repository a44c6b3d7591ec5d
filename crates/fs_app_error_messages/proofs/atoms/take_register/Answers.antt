use Rattle.std.proofs.Common.{ap}
use Rattle.fs_litmus_tokens.specs.Tokens.{kind_of}
use Rattle.fs_app_error_messages.proofs.BadAtoms.{register_taken}
use Rattle.fs_app_error_messages.proofs.atoms.take_register.Goals as goal

pub returns-in-Word-clause-found : goal.returns-in-Word-clause-found
returns-in-Word-clause-found c = λ line.
    register_taken c.args.hart.now c.in-Word.register.now c.in-Word.field-0 c.in_ok-colon.colon.now c.in_ok-register.register.now c.args.tokens.now c.in_ok-colon.rest.now c.in_ok-register.rest.now c.in_ok-colon.ensures.cases.0 c.in_ok-register.ensures.cases.0 (c.is_this_mark.ensures.0 c.if-not-is_this_mark.false) (ap kind_of c.in-Word.is) line
