use Rattle.std.proofs.Common.{ap, sym, ◌∙◌}
use Rattle.fs_litmus_tokens.specs.Tokens.{kind_of}
use Rattle.fs_app_error_messages.proofs.BadAtoms.{bracketed_taken}
use Rattle.fs_app_error_messages.proofs.atoms.take_bracketed.Goals as goal

pub returns-then-is_name-clause-found : goal.returns-then-is_name-clause-found
returns-then-is_name-clause-found c = λ line.
    bracketed_taken c.in-Word.name.now c.in-Word.class c.in_ok-name.name.now c.in_ok-close.close.now c.args.tokens.now c.in_ok-name.rest.now c.in_ok-close.rest.now c.in_ok-name.ensures.cases.0 c.in_ok-close.ensures.cases.0 (sym c.is_name.ensures ∙ c.if-is_name.true) (ap kind_of c.in-Word.is) (c.is_this_mark.ensures.0 c.if-not-is_this_mark.false) line
