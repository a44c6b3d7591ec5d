use Rattle.std.proofs.Common.{ap, ◌∙◌}
use Rattle.fs_litmus_tokens.specs.Tokens.{Word, kind_of, views}
use Rattle.fs_app_error_messages.proofs.BadAtoms.{negative_taken}
use Rattle.fs_app_error_messages.proofs.atoms.take_negative.Goals as goal

pub returns-then-is_number-clause-found : goal.returns-then-is_number-clause-found
returns-then-is_number-clause-found c =
    let kind = ap kind_of c.in-Word.is ∙ ap (λ k. Word k c.in-Word.digits.now) (c.is_number.ensures.0 c.if-is_number.true) in
    (views c.in_ok-number.field-0-1.now, λ line. negative_taken c.in-Word.digits.now c.in_ok-number.number.now c.args.tokens.now c.in_ok-number.field-0-1.now c.in_ok-number.ensures.cases.0 kind line)
