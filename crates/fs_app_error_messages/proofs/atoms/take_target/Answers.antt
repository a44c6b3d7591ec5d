use Rattle.std.proofs.Common.{ap, sym, ◌∙◌}
use Rattle.fs_litmus_tokens.specs.Tokens.{Word, Sign, kind_of}
use Rattle.fs_litmus_tokens.specs.declared.word.Class.TheVariants as class
use Rattle.fs_litmus_tokens.specs.declared.token.Mark.TheVariants as mark
use Rattle.fs_app_error_messages.proofs.BadAtoms.{name_taken, not_begun}
use Rattle.fs_app_error_messages.proofs.atoms.take_target.Goals as goal

pub returns-then-is_name-clause-found : goal.returns-then-is_name-clause-found
returns-then-is_name-clause-found c =
    name_taken c.in-Word.name.now c.in-Word.class c.in_ok-first.first.now c.args.tokens.now c.in_ok-first.rest.now c.in_ok-first.ensures.cases.0 (ap kind_of c.in-Word.is) (sym c.is_name.ensures ∙ c.if-is_name.true)

pub returns-in-Word-Number-default-clause-absent : goal.returns-in-Word-Number-default-clause-absent
returns-in-Word-Number-default-clause-absent c = λ none.
    not_begun (Word class.Number c.in-Word-Number-default.hart.now) c.in_ok-first.first.now c.args.tokens.now c.in_ok-first.rest.now c.in_ok-first.ensures.cases.0 (ap kind_of c.in-Word-Number-default.is ∙ ap (λ k. Word k c.in-Word-Number-default.hart.now) (rw c.in-Word-Number-default.is at c.in-Word-Number-default.field-0-is)) (c.take_register.ensures.absent none)

pub returns-in-Sign-OpenBracket-clause-absent : goal.returns-in-Sign-OpenBracket-clause-absent
returns-in-Sign-OpenBracket-clause-absent c = λ none.
    not_begun (Sign mark.OpenBracket) c.in_ok-first.first.now c.args.tokens.now c.in_ok-first.rest.now c.in_ok-first.ensures.cases.0 (ap kind_of c.in-Sign-OpenBracket.is ∙ ap Sign (rw c.in-Sign-OpenBracket.is at c.in-Sign-OpenBracket.field-0-is)) (c.take_bracketed.ensures.absent none)
