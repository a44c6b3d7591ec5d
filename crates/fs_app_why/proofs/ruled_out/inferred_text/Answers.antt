use Rattle.std.proofs.Common.{◌∙◌, ap}
use Rattle.std.specs.Arc.{arc_value}
use Rattle.fs_model.specs.declared.test.Test.{Test}
use Rattle.fs_app_why.specs.Contradictions.{contradictions_text}
use Rattle.fs_app_why.proofs.ruled_out.inferred_text.Goals as goal

pub returns-clause-told : goal.returns-clause-told
returns-clause-told c =
    let lines = c.args.lines.now in
    let telling = c.args.telling in (
      c.in_ok-kinds.kinds.items,
      c.in_ok-kinds.ensures.ok,
      c.in_ok-text.ensures ∙ ap (λ (t : Test). contradictions_text t lines telling c.deref-2.result.now) c.deref.ensures
          ∙ ap (contradictions_text (arc_value c.args.test.now) lines telling) c.deref-2.ensures.value,
    )
