-- Tokens that stop being a test file's have no bad atom.
use Rattle.std.proofs.Common.{ℕ, List, Option, IsNone, Result, Ok, Err, IfOk}
use Rattle.fs_litmus_tokens.specs.Tokens.{Lined}
use Rattle.fs_litmus_tokens.specs.declared.values.Stop.{Stop}
use Rattle.fs_litmus_syntax.specs.Grammar.{Syntax}
use Rattle.fs_litmus.specs.Faults.{IsText}
use Rattle.fs_litmus.specs.inner.Sections.{IsTextStop}
use Rattle.fs_app_error_messages.specs.Atoms.{HasNoBadAtom}

pub no_bad_atom : {E : Type 0} (ts : List Lined) (stop : Stop) (r : Result (Option ℕ) E) → IsTextStop ts stop → IfOk r (λ o. (us : List Lined) → IsTextStop us stop → (s : Syntax) → ¬ IsText us s) → IfOk r (λ o. IsNone o → HasNoBadAtom ts)
no_bad_atom ts stop (Ok o) h k = λ none form s rest is_form is_condition i bad. k ts h s (form, rest, is_form, is_condition)
no_bad_atom ts stop (Err e) h k = tt
