-- The first of the faults of what a form and its condition mean, by the order in which they are looked for.
use Rattle.std.proofs.Common.{◌≡◌, ℕ, ◌≤◌, ◌<◌, inl, inr, List, [], Some, true, false, Result, Ok, Err, IfErr, refl, sym, ap, ◌∙◌, subst, length, arith, nat_le}
use Rattle.std.specs.Prelude.{All, sum_by, count_by}
use Rattle.std.specs.List.{Any}
use Rattle.std.specs.Result.{IsErrAnd}
use Rattle.std.proofs.lemmas.Bool.Decides.{nat_tests}
use Rattle.fs_kinds.specs.FaultLine.{number}
use Rattle.fs_kinds.specs.declared.fault.Fault.{Fault}
use Rattle.fs_kinds.specs.declared.fault.Fault.TheVariants.{BadCondition, TooBig}
use Rattle.fs_kinds.specs.declared.fault.Limit.{Limit}
use Rattle.fs_kinds.specs.declared.fault.Limit.TheVariants.{Harts, Instructions, Accesses, Locations, Depth}
use Rattle.fs_litmus_syntax.specs.Form.{Form}
use Rattle.fs_litmus_syntax.specs.Body.{flatten}
use Rattle.fs_litmus_syntax.specs.Grammar.{Syntax}
use Rattle.fs_litmus_syntax.specs.Meaning.{atoms_of, depth_of}
use Rattle.fs_instr.specs.Instructions.{is_memory}
use Rattle.fs_instr.specs.declared.instr.Instr.{Instr}
use Rattle.fs_litmus_syntax.specs.Codes.{AreCodes, IsFault}
use Rattle.fs_kinds.specs.FaultOrder.{limit_rank, IsNoLater, IsFirst}
use Rattle.fs_litmus.specs.Locations.{Names}
use Rattle.fs_litmus.specs.Settings.{entry_bindings, settings_after, are_there}
use Rattle.fs_litmus.specs.Reads.{names_in}
use Rattle.fs_litmus.specs.Faults.{IsPassed, harts, instructions, accesses, locations, depth, IsFormFault, code, entry, atom, limit}
use Rattle.fs_litmus.specs.Checks as checks
use Rattle.fs_litmus.specs.Checks.{IsEntryFault, IsBindingFault, IsCodeLimit}
use Rattle.fs_litmus.specs.declared.settings.Setting.{Setting}
use Rattle.fs_litmus.proofs.BadEntries.{no_entry_fault}
use Rattle.fs_litmus.proofs.CodeFaults.{code_low}
use Rattle.fs_litmus.proofs.Kept.{none_long}

-- ---- errors handed on

-- what holds of the error handed on holds of the result
pub handed : {T : Type 0} (r : Result T Fault) (f : Fault) (P : Fault → Type 0) → IsErrAnd r (λ g. g ≡ f) → P f → IfErr r P
handed (Ok x) f P h p = tt
handed (Err g) f P h p = subst P (sym h) p

-- ---- entries and atoms

module _ (form : Form) (s : Syntax) where
  entry_no_later : (f : Fault) → IsFirst (IsEntryFault form.columns (names_in form s) form.entries) f → IsEntryFault form.columns (names_in form s) form.entries f → (g : Fault) → IsBindingFault form s g → IsNoLater f g
  entry_no_later f h e g (checks.start k) = h.first g k
  entry_no_later f h (checks.entry b) g (checks.atom a) = inl (omega arith)

  pub first_entry : (names : Names) (f : Fault) → names ≡ names_in form s → IsFirst (IsEntryFault form.columns names form.entries) f → IsFirst (IsBindingFault form s) f
  first_entry names f named first =
      let h = subst (λ n. IsFirst (IsEntryFault form.columns n form.entries) f) named first in
      record { is = checks.start h.is; first = entry_no_later f h h.is }

  no_entry : (names : Names) (r : List Setting) → names ≡ names_in form s → settings_after form.columns names [] (entry_bindings form.entries) ≡ Some r → (f : Fault) → ¬ IsEntryFault form.columns (names_in form s) form.entries f
  no_entry names r named settled = subst (λ n. (f : Fault) → ¬ IsEntryFault form.columns n form.entries f) named (no_entry_fault form.columns names form.entries r settled)

  atom_no_later : ((f : Fault) → ¬ IsEntryFault form.columns (names_in form s) form.entries f) → (g : Fault) → IsBindingFault form s g → IsNoLater BadCondition g
  atom_no_later none g (checks.start k) = absurd (none g k)
  atom_no_later none g (checks.atom a) = inr (refl, omega arith)

  pub first_atom : (names : Names) (r : List Setting) → names ≡ names_in form s → settings_after form.columns names [] (entry_bindings form.entries) ≡ Some r → are_there form.columns names (atoms_of s) ≡ false → IsFirst (IsBindingFault form s) BadCondition
  first_atom names r named settled absent =
      record { is = checks.atom (subst (λ n. are_there form.columns n (atoms_of s) ≡ false) named absent); first = atom_no_later (no_entry names r named settled) }

  no_binding : ((f : Fault) → ¬ IsEntryFault form.columns (names_in form s) form.entries f) → are_there form.columns (names_in form s) (atoms_of s) ≡ true → (f : Fault) → ¬ IsBindingFault form s f
  no_binding none there f (checks.start k) = none f k
  no_binding none there f (checks.atom a) = absurd (cc)

  pub no_binding_fault : (names : Names) (r : List Setting) → names ≡ names_in form s → settings_after form.columns names [] (entry_bindings form.entries) ≡ Some r → are_there form.columns names (atoms_of s) ≡ true → (f : Fault) → ¬ IsBindingFault form s f
  no_binding_fault names r named settled there =
      no_binding (no_entry names r named settled) (subst (λ n. are_there form.columns n (atoms_of s) ≡ true) named there)

-- ---- codes

module _ (codes : List (List Instr)) where
  long_no_later : (g : Fault) → IsCodeLimit codes g → IsNoLater (TooBig Instructions) g
  long_no_later g (checks.instructions any) = inr (refl, omega arith)
  long_no_later g (checks.accesses many) = inr (refl, omega arith)

  pub first_long : Any (λ code. 32 < length code) codes → IsFirst (IsCodeLimit codes) (TooBig Instructions)
  first_long any = record { is = checks.instructions any; first = long_no_later }

  many_no_later : All (λ code. length code ≤ 32) codes → (g : Fault) → IsCodeLimit codes g → IsNoLater (TooBig Accesses) g
  many_no_later short g (checks.instructions any) = absurd (none_long codes short any)
  many_no_later short g (checks.accesses many) = inr (refl, omega arith)

  pub first_many : All (λ code. length code ≤ 32) codes → 48 < sum_by (count_by is_memory) codes → IsFirst (IsCodeLimit codes) (TooBig Accesses)
  first_many short many = record { is = checks.accesses many; first = many_no_later short }

more_than : (n : ℕ) → nat_le n 48 ≡ false → 48 < n
more_than n h = grind (arith, nat_tests)

pub first_not_few : (codes made : List (List Instr)) → made ≡ codes → nat_le (sum_by (count_by is_memory) made) 48 ≡ false → All (λ code. length code ≤ 32) codes → IsFirst (IsCodeLimit codes) (TooBig Accesses)
first_not_few codes made same h short =
    first_many codes short (more_than (sum_by (count_by is_memory) codes) (sym (ap (λ l. nat_le (sum_by (count_by is_memory) l) 48) same) ∙ h))

-- ---- the whole

-- no fault of the codes
abbrev pub IsCodeClear : Form → Type 0
IsCodeClear form = (f : Fault) → ¬ IsFault form.columns (flatten form.rows) f

-- no fault of the initial values and the atoms
abbrev pub AreBindingsClear : Form → Syntax → Type 0
AreBindingsClear form s = (f : Fault) → ¬ IsBindingFault form s f

-- no code passes a limit
abbrev pub AreCodesSmall : Form → Type 0
AreCodesSmall form = (codes : List (List Instr)) → AreCodes form.columns (flatten form.rows) codes → (f : Fault) → ¬ IsCodeLimit codes f

module _ (form : Form) (s : Syntax) where
  code_no_later : (f : Fault) → IsFirst (IsFault form.columns (flatten form.rows)) f → number f ≤ 6 → (g : Fault) → IsFormFault form s g → IsNoLater f g
  code_no_later f h low g (code k) = h.first g k
  code_no_later f h low g (entry b) = inl (omega arith)
  code_no_later f h low g (atom a) = inl (omega arith)
  code_no_later f h low g (limit p) = inl (omega arith)

  pub first_code : (f : Fault) → IsFirst (IsFault form.columns (flatten form.rows)) f → IsFirst (IsFormFault form s) f
  first_code f h = record { is = code h.is; first = code_no_later f h (code_low h.is) }

  is_form_fault : {f : Fault} → IsBindingFault form s f → IsFormFault form s f
  is_form_fault (checks.start (checks.entry b)) = entry b
  is_form_fault (checks.atom a) = atom a

  binding_low : {f : Fault} → IsBindingFault form s f → number f ≤ 8
  binding_low (checks.start (checks.entry b)) = omega arith
  binding_low (checks.atom a) = omega arith

  binding_no_later : IsCodeClear form → (f : Fault) → IsFirst (IsBindingFault form s) f → number f ≤ 8 → (g : Fault) → IsFormFault form s g → IsNoLater f g
  binding_no_later clear f h low g (code k) = absurd (clear g k)
  binding_no_later clear f h low g (entry b) = h.first g (checks.start (checks.entry b))
  binding_no_later clear f h low g (atom a) = h.first g (checks.atom a)
  binding_no_later clear f h low g (limit p) = inl (omega arith)

  pub first_binding : IsCodeClear form → (f : Fault) → IsFirst (IsBindingFault form s) f → IsFirst (IsFormFault form s) f
  first_binding clear f h = record { is = is_form_fault h.is; first = binding_no_later clear f h (binding_low h.is) }

  limit_no_later : IsCodeClear form → AreBindingsClear form s → (what : Limit) → ((w : Limit) → IsPassed form s w → limit_rank what ≤ limit_rank w) → (g : Fault) → IsFormFault form s g → IsNoLater (TooBig what) g
  limit_no_later clear bound what least g (code k) = absurd (clear g k)
  limit_no_later clear bound what least g (entry b) = absurd (bound _ (checks.start (checks.entry b)))
  limit_no_later clear bound what least g (atom a) = absurd (bound _ (checks.atom a))
  limit_no_later clear bound what least g (limit p) = inr (refl, least _ p)

  first_limit : IsCodeClear form → AreBindingsClear form s → (what : Limit) → IsPassed form s what → ((w : Limit) → IsPassed form s w → limit_rank what ≤ limit_rank w) → IsFirst (IsFormFault form s) (TooBig what)
  first_limit clear bound what is least = record { is = limit is; first = limit_no_later clear bound what least }

  pub first_harts : IsCodeClear form → AreBindingsClear form s → 8 < form.columns → IsFirst (IsFormFault form s) (TooBig Harts)
  first_harts clear bound many = first_limit clear bound Harts (harts many) (λ w p. omega arith)

  long_least : form.columns ≤ 8 → (w : Limit) → IsPassed form s w → 1 ≤ limit_rank w
  long_least few w (harts many) = absurd (omega arith)
  long_least few w (instructions a any) = omega arith
  long_least few w (accesses a many) = omega arith
  long_least few w (locations many) = omega arith
  long_least few w (depth deep) = omega arith

  not_first_many : (codes : List (List Instr)) → IsFirst (IsCodeLimit codes) (TooBig Accesses) → Any (λ code. 32 < length code) codes → ⊥
  not_first_many codes h any = elim (h.first (TooBig Instructions) (checks.instructions any)) [ inl low ↦ absurd (omega arith) | inr low ↦ let rank = low.1 in absurd (omega arith) ]

  many_least : form.columns ≤ 8 → ((codes : List (List Instr)) → AreCodes form.columns (flatten form.rows) codes → IsFirst (IsCodeLimit codes) (TooBig Accesses)) → (w : Limit) → IsPassed form s w → 2 ≤ limit_rank w
  many_least few first w (harts many) = absurd (omega arith)
  many_least few first w (instructions a any) = absurd (not_first_many _ (first _ a) any)
  many_least few first w (accesses a many) = omega arith
  many_least few first w (locations many) = omega arith
  many_least few first w (depth deep) = omega arith

  code_limit : IsCodeClear form → AreBindingsClear form s → form.columns ≤ 8 → (codes : List (List Instr)) → AreCodes form.columns (flatten form.rows) codes → (f : Fault) → ((others : List (List Instr)) → AreCodes form.columns (flatten form.rows) others → IsFirst (IsCodeLimit others) f) → IsCodeLimit codes f → IsFirst (IsFormFault form s) f
  code_limit clear bound few codes are f first (checks.instructions any) = first_limit clear bound Instructions (instructions are any) (long_least few)
  code_limit clear bound few codes are f first (checks.accesses many) = first_limit clear bound Accesses (accesses are many) (many_least few first)

  pub first_code_limit : IsCodeClear form → AreBindingsClear form s → form.columns ≤ 8 → (codes : List (List Instr)) → AreCodes form.columns (flatten form.rows) codes → (f : Fault) → ((others : List (List Instr)) → AreCodes form.columns (flatten form.rows) others → IsFirst (IsCodeLimit others) f) → IsFirst (IsFormFault form s) f
  first_code_limit clear bound few codes are f first = code_limit clear bound few codes are f first (first codes are).is

  locations_least : form.columns ≤ 8 → AreCodesSmall form → (w : Limit) → IsPassed form s w → 3 ≤ limit_rank w
  locations_least few small w (harts many) = absurd (omega arith)
  locations_least few small w (instructions a any) = absurd (small _ a _ (checks.instructions any))
  locations_least few small w (accesses a many) = absurd (small _ a _ (checks.accesses many))
  locations_least few small w (locations many) = omega arith
  locations_least few small w (depth deep) = omega arith

  pub first_locations : IsCodeClear form → AreBindingsClear form s → form.columns ≤ 8 → AreCodesSmall form → 8 < length (names_in form s) → IsFirst (IsFormFault form s) (TooBig Locations)
  first_locations clear bound few small many = first_limit clear bound Locations (locations many) (locations_least few small)

  depth_least : form.columns ≤ 8 → AreCodesSmall form → length (names_in form s) ≤ 8 → (w : Limit) → IsPassed form s w → 4 ≤ limit_rank w
  depth_least few small named w (harts many) = absurd (omega arith)
  depth_least few small named w (instructions a any) = absurd (small _ a _ (checks.instructions any))
  depth_least few small named w (accesses a many) = absurd (small _ a _ (checks.accesses many))
  depth_least few small named w (locations many) = absurd (omega arith)
  depth_least few small named w (depth deep) = omega arith

  pub first_depth : IsCodeClear form → AreBindingsClear form s → form.columns ≤ 8 → AreCodesSmall form → length (names_in form s) ≤ 8 → 64 < depth_of s → IsFirst (IsFormFault form s) (TooBig Depth)
  first_depth clear bound few small named deep = first_limit clear bound Depth (depth deep) (depth_least few small named)

  pub none_passed : form.columns ≤ 8 → AreCodesSmall form → length (names_in form s) ≤ 8 → depth_of s ≤ 64 → (w : Limit) → ¬ IsPassed form s w
  none_passed few small named shallow w (harts many) = omega arith
  none_passed few small named shallow w (instructions a any) = small _ a _ (checks.instructions any)
  none_passed few small named shallow w (accesses a many) = small _ a _ (checks.accesses many)
  none_passed few small named shallow w (locations many) = omega arith
  none_passed few small named shallow w (depth deep) = omega arith

  pub no_form_fault : IsCodeClear form → AreBindingsClear form s → ((w : Limit) → ¬ IsPassed form s w) → (f : Fault) → ¬ IsFormFault form s f
  no_form_fault clear bound within f (code k) = clear f k
  no_form_fault clear bound within f (entry b) = bound _ (checks.start (checks.entry b))
  no_form_fault clear bound within f (atom a) = bound _ (checks.atom a)
  no_form_fault clear bound within f (limit p) = within _ p
