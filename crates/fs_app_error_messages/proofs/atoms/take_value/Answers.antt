use Rattle.std.proofs.Common.{ap, sym, ◌∙◌}
use Rattle.fs_litmus_tokens.specs.Tokens.{Word, Sign, kind_of, views}
use Rattle.fs_litmus_tokens.specs.declared.token.Mark.TheVariants as mark
use Rattle.fs_app_error_messages.proofs.BadAtoms.{number_taken, address_taken, not_valued}
use Rattle.fs_app_error_messages.proofs.atoms.take_value.Goals as goal

pub returns-then-is_number-clause-found : goal.returns-then-is_number-clause-found
returns-then-is_number-clause-found c =
    let kind = ap kind_of c.in-Word.is ∙ ap (λ k. Word k c.in-Word.word.now) (c.is_number.ensures.0 c.if-is_number.true) in
    (views c.in_ok-first.rest.now, number_taken c.in-Word.word.now c.in_ok-first.first.now c.args.tokens.now c.in_ok-first.rest.now c.in_ok-first.ensures.cases.0 kind)

pub returns-then-is_name-clause-found : goal.returns-then-is_name-clause-found
returns-then-is_name-clause-found c =
    (views c.in_ok-first.rest.now, address_taken c.in-Word.word.now c.in-Word.class c.in_ok-first.first.now c.args.tokens.now c.in_ok-first.rest.now c.in_ok-first.ensures.cases.0 (ap kind_of c.in-Word.is) (sym c.is_name.ensures ∙ c.if-is_name.true))

pub returns-in-Sign-Minus-clause-absent : goal.returns-in-Sign-Minus-clause-absent
returns-in-Sign-Minus-clause-absent c = λ none.
    not_valued (Sign mark.Minus) c.in_ok-first.first.now c.args.tokens.now c.in_ok-first.rest.now c.in_ok-first.ensures.cases.0 (ap kind_of c.in-Sign-Minus.is ∙ ap Sign (rw c.in-Sign-Minus.is at c.in-Sign-Minus.field-0-is)) (c.take_negative.ensures.absent none)
