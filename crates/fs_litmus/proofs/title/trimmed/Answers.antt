use Rattle.std.proofs.Common.{sym, subst, ◌∙◌}
use Rattle.fs_litmus.proofs.Trimming.{IsBetween, between_first, between_step, trimmed_at, trimmed_empty}
use Rattle.fs_litmus.proofs.Lists.{no_bytes}
use Rattle.fs_litmus.proofs.title.trimmed.Goals as goal

pub loop-last-init : goal.loop-last-init
loop-last-init c = subst (λ t. IsBetween c.args.line.now t) (sym c.unindented-text.ensures.value) (between_first c.args.line.now)

pub returns-then-not-is_blank : goal.returns-then-not-is_blank
returns-then-not-is_blank c =
    trimmed_at _ _ _ _ c.in-Some.ensures.cases.0 (sym c.is_blank.ensures ∙ c.if-not-is_blank.true) c.loop-last.invariant

pub loop-last-preserved : goal.loop-last-preserved
loop-last-preserved c =
    between_step _ _ _ _ c.in-Some.ensures.cases.0 (sym c.is_blank.ensures ∙ c.if-not-is_blank.false) c.loop-last.invariant

pub returns : goal.returns
returns c = trimmed_empty _ _ (no_bytes _ c.in_default.ensures.cases) c.loop-last.invariant
