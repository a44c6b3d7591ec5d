use Rattle.fs_litmus.proofs.FormFaults.{handed, first_code, first_binding}
use Rattle.fs_litmus_syntax.specs.Form.{form_of}
use Rattle.fs_litmus.proofs.meaning.interpret.Goals as goal

pub returns-in_err-kept-clause-first : goal.returns-in_err-kept-clause-first
returns-in_err-kept-clause-first c =
    handed _ _ _ c.from_residual.ensures.1 (λ other s m. first_code (form_of c.args.form.now) s _ (c.in_err-kept.ensures.first other))

pub returns-in_err-settings-clause-first : goal.returns-in_err-settings-clause-first
returns-in_err-settings-clause-first c =
    handed _ _ _ c.from_residual-in_err-settings.ensures.1
    (λ other s m. first_binding (form_of c.args.form.now) s c.in_ok-kept.ensures.clean _ (c.in_err-settings.ensures.first other s m))
