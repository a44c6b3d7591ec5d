use Rattle.std.proofs.Common.{◌≡◌, ◌≢◌, ◌∙◌, sym, ap, subst, map, [], Some}
use Rattle.fs_kinds.specs.declared.fault.Fault.TheVariants.{Memory}
use Rattle.fs_litmus_syntax.specs.Form.{form_of}
use Rattle.fs_litmus_syntax.specs.Init.{entries_of}
use Rattle.fs_litmus_syntax.specs.Views.{atom_of}
use Rattle.fs_kinds.specs.FaultOrder.{IsFirst}
use Rattle.fs_litmus.specs.Settings.{are_there, entry_bindings, settings_after}
use Rattle.fs_litmus.specs.Checks.{IsEntryFault}
use Rattle.fs_litmus.proofs.FormFaults.{handed, first_entry, first_atom, no_binding_fault}
use Rattle.fs_litmus.proofs.meaning.read_bindings.Goals as goal

pub returns-in_err-settings-clause-first : goal.returns-in_err-settings-clause-first
returns-in_err-settings-clause-first c =
    let form = form_of c.args.form.now in
    let names = c.args.names.now in
    let first = subst (λ es. c.in_err-settings.field-0.0 ≢ Memory → IsFirst (IsEntryFault form.columns names (entries_of es)) c.in_err-settings.field-0.0) c.deref.ensures.value c.in_err-settings.ensures.first in
    handed _ _ _ c.from_residual.ensures.1 (λ other s m. first_entry form s names _ (c.requires.named s m) (first other))

pub returns-then-not-atoms_are_there-clause-first :
    goal.returns-then-not-atoms_are_there-clause-first
returns-then-not-atoms_are_there-clause-first c =
    let form = form_of c.args.form.now in
    let names = c.args.names.now in
    let settled = subst (λ es. settings_after form.columns names [] (entry_bindings (entries_of es)) ≡ Some c.in_ok-settings.settings.items) c.deref.ensures.value c.in_ok-settings.ensures.ok in
    let absent = ap (λ xs. are_there form.columns names (map atom_of xs)) (sym c.deref-2.ensures.value) ∙ sym c.atoms_are_there.ensures ∙ c.if-not-atoms_are_there.true in
    λ _ s m. first_atom form s names c.in_ok-settings.settings.items (c.requires.named s m) settled (ap (are_there form.columns names) (sym m.atoms) ∙ absent)

pub returns-clause-there : goal.returns-clause-there
returns-clause-there c =
    let form = form_of c.args.form.now in
    let names = c.args.names.now in
    λ s m. ap (are_there form.columns names) (sym m.atoms) ∙ ap (λ xs. are_there form.columns names (map atom_of xs)) (sym c.deref-2.ensures.value) ∙ sym c.atoms_are_there.ensures ∙ c.if-not-atoms_are_there.false

pub returns-clause-clean : goal.returns-clause-clean
returns-clause-clean c =
    let form = form_of c.args.form.now in
    let names = c.args.names.now in
    let settled = subst (λ es. settings_after form.columns names [] (entry_bindings (entries_of es)) ≡ Some c.in_ok-settings.settings.items) c.deref.ensures.value c.in_ok-settings.ensures.ok in
    let there = ap (λ xs. are_there form.columns names (map atom_of xs)) (sym c.deref-2.ensures.value) ∙ sym c.atoms_are_there.ensures ∙ c.if-not-atoms_are_there.false in
    λ s m. no_binding_fault form s names c.in_ok-settings.settings.items (c.requires.named s m) settled (ap (are_there form.columns names) (sym m.atoms) ∙ there)
