use Rattle.std.proofs.Common.{◌≡◌, ◌∙◌, ap, subst, ℕ, List, ◌++◌, OnOk, string_bytes}
use Rattle.std.proofs.lemmas.List.{append_assoc}
use Rattle.fs_app_states.specs.Names.{state_line}
use Rattle.fs_app_states.specs.Compared.{forbidden_label}
use Rattle.fs_app_states.proofs.text.push_forbidden.Goals as goal

-- src/text.rt:44:1
pub returns : goal.returns
returns c =
    let text = string_bytes c.args.text.now in
    let label = forbidden_label c.args.row.now.times in
    let line = state_line c.args.locations.now c.args.columns.now in
    subst (λ (bytes : List ℕ). OnOk c.push_state.result (string_bytes c.push_state.new.text ≡ bytes))
    (ap (λ (bytes : List ℕ). bytes ++ line c.as_slice.result.now)
    (c.in_ok-push_str.ensures.bytes ∙ ap (λ (bytes : List ℕ). text ++ bytes) (c.as_str.ensures.value ∙ c.in_ok-label.ensures))
    ∙ ap (λ (words : List ℕ). text ++ label ++ line words) c.as_slice.ensures
    ∙ append_assoc text label (line c.args.row.now.words))
    c.push_state.ensures
