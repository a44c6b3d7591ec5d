-- The settings of entries.
use Rattle.std.proofs.Common.{◌≡◌, ℕ, ◌+◌, ◌<◌, List, [], ◌∷◌, ◌++◌, Some, None, sym, ap, ◌∙◌, take, drop, length, get_or}
use Rattle.std.specs.Prelude.{option_and_then}
use Rattle.std.proofs.lemmas.List.{map-append, at_drop_more, take_more, take-append-drop}
use Rattle.fs_kinds.specs.declared.fault.Fault.TheVariants.{BadInit}
use Rattle.fs_litmus_syntax.specs.declared.init.Entry.{Entry}
use Rattle.fs_litmus_syntax.specs.Init.{entries_of, entry_of}
use Rattle.fs_kinds.specs.FaultOrder.{IsFirst}
use Rattle.fs_litmus.specs.declared.settings.Setting.{Setting}
use Rattle.fs_litmus.specs.Locations.{Names}
use Rattle.fs_litmus.specs.Settings.{entry_bindings, settings_after, holders}
use Rattle.fs_litmus.specs.Checks.{IsEntryFault}
use Rattle.fs_litmus.specs.Rising.{Rising, entry_lines}
use Rattle.fs_litmus.proofs.BadEntries.{fits, after_append, first_entry_fault}

-- one entry more
pub step : (columns : ℕ) (names : Names) (ss new : List Setting) (es : List Entry) (i : ℕ) (e : Entry) (s : Setting) → i < length es → settings_after columns names [] (entry_bindings (entries_of (take i es))) ≡ Some ss → fits columns names ss (entry_of (get_or es i e)) ≡ Some s → new ≡ ss ++ s ∷ [] → settings_after columns names [] (entry_bindings (entries_of (take (i + 1) es))) ≡ Some new
step columns names ss new es i e s h before found pushed =
    let last = entry_of (get_or es i e) in
    ap (λ l. settings_after columns names [] (entry_bindings l)) (ap entries_of (take_more es i e h) ∙ map-append entry_of (take i es) (get_or es i e ∷ []))
    ∙ after_append columns names [] (entries_of (take i es)) (last ∷ [])
    ∙ ap (λ o. option_and_then (λ r. settings_after columns names r (entry_bindings (last ∷ []))) o) before
    ∙ ap (λ o. option_and_then (λ s. Some (ss ++ s ∷ [])) o) found
    ∙ ap (λ l. Some l) (sym pushed)

split_at : (es : List Entry) (i : ℕ) (e : Entry) → i < length es → entries_of es ≡ entries_of (take i es) ++ entry_of (get_or es i e) ∷ entries_of (drop (i + 1) es)
split_at es i e h =
    ap entries_of (sym (take-append-drop i es)) ∙ map-append entry_of (take i es) (drop i es) ∙ ap (λ l. entries_of (take i es) ++ l) (at_drop_more entries_of es i e h)

-- the entry that sets nothing is the fault
pub stopped : (columns : ℕ) (names : Names) (ss : List Setting) (es : List Entry) (i : ℕ) (e : Entry) → i < length es → settings_after columns names [] (entry_bindings (entries_of (take i es))) ≡ Some ss → fits columns names ss (entry_of (get_or es i e)) ≡ None → Rising 0 (entry_lines (entries_of es)) → IsFirst (IsEntryFault columns names (entries_of es)) (BadInit (entry_of (get_or es i e)).line)
stopped columns names ss es i e h before none rising =
    first_entry_fault columns names (entries_of es) (entries_of (take i es)) (entries_of (drop (i + 1) es)) (entry_of (get_or es i e)) ss (split_at es i e h) before none rising

pub holders_pushed : (ss new : List Setting) (s : Setting) → new ≡ ss ++ s ∷ [] → holders new ≡ holders ss ++ s.holder ∷ []
holders_pushed ss new s e = ap holders e ∙ map-append (λ s. s.holder) ss (s ∷ [])
