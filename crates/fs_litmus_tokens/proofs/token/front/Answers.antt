use Rattle.std.proofs.Common.{sym, subst, ◌∙◌, ap, take}
use Rattle.std.specs.Str.{IsUtf8}
use Rattle.fs_litmus_tokens.proofs.Letters.{word_utf8}
use Rattle.fs_litmus_tokens.proofs.token.front.Goals as goal

pub returns-in-Err-clause-value : goal.returns-in-Err-clause-value
returns-in-Err-clause-value c =
    let word = c.split_at.ensures.front ∙ ap (λ n. take n c.args.all.now) c.run_len.ensures.value in
    absurd (c.in-Err.ensures.cases.0 (subst IsUtf8 (sym word) (word_utf8 c.args.all.now)))
