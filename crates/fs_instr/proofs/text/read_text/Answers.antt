use Rattle.std.proofs.Common.{inl, inr}
use Rattle.fs_instr.proofs.TextLemmas.{few_answers, few_only, few_broken}
use Rattle.fs_instr.proofs.text.read_text.Goals.{then-not-few-via-then-not-few, then-not-few-via-else-not-few+then-not-few-2}
use Rattle.fs_instr.proofs.text.read_text.Goals as goal

pub returns-then-not-few-clause-answers : goal.returns-then-not-few-clause-answers
returns-then-not-few-clause-answers c =
    elim c.then-not-few.branch [
      | then-not-few-via-then-not-few w ↦ few_broken _ _ _ c.as_bytes.ensures.value c.first_tokens-few.ensures (inl w.if-not-few.true)
      | then-not-few-via-else-not-few+then-not-few-2 w ↦ few_broken _ _ _ c.as_bytes.ensures.value c.first_tokens-few.ensures (inr w.if-not-few-2.true)
    ]

pub returns-then-not-few-clause-only : goal.returns-then-not-few-clause-only
returns-then-not-few-clause-only c = λ i l s.
    elim c.then-not-few.branch [
      | then-not-few-via-then-not-few w ↦ absurd ((few_broken _ _ _ c.as_bytes.ensures.value c.first_tokens-few.ensures (inl w.if-not-few.true)).0 i l s)
      | then-not-few-via-else-not-few+then-not-few-2 w ↦ absurd ((few_broken _ _ _ c.as_bytes.ensures.value c.first_tokens-few.ensures (inr w.if-not-few-2.true)).0 i l s)
    ]

pub returns-clause-answers : goal.returns-clause-answers
returns-clause-answers c =
    few_answers _ _ _ _ _ c.as_bytes.ensures.value c.first_tokens-few.ensures c.if-not-few.false c.if-not-few-2.false c.min-kept.ensures c.read_tokens.ensures.answers

pub returns-clause-only : goal.returns-clause-only
returns-clause-only c =
    few_only _ _ _ _ _ c.as_bytes.ensures.value c.first_tokens-few.ensures c.if-not-few.false c.if-not-few-2.false c.min-kept.ensures c.read_tokens.ensures.only
