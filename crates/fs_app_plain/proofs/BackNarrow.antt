-- Steps of a hart with 64 bits whose loads take extended words are steps of one with 32 bits, extended.
use Rattle.std.proofs.Common.{◌≡◌, ℕ, ◌<◌, ◌≤◌, ◌^◌, List, map, set, All, true, Option, Some, None, is_some, option_map, refl, sym, ap, subst, ◌∙◌, inl, inr, arith}
use Rattle.std.specs.Prelude.{slice_get}
use Rattle.std.proofs.lemmas.Bool.{false≢true}
use Rattle.std.proofs.lemmas.List.{map-set}
use Rattle.std.proofs.lemmas.List.Elements.{All-set, All-get_or}
use Rattle.std.proofs.lemmas.Option.{slice_get_within, get_or_from_slice_get}
use Rattle.fs_kinds.specs.Limits.{most_locations}
use Rattle.fs_instr.specs.Instructions.{dest_of}
use Rattle.fs_instr.specs.OfTable.{IsOfTable}
use Rattle.fs_instr.specs.declared.instr.Instr.{Instr}
use Rattle.fs_instr.specs.declared.instr.Instr.TheVariants.{Register, Immediate, Shift, Lui, Li, Lw, Sw, Lr, Sc, Amo, Branch, Jump, Fence, FenceTso, FenceI}
use Rattle.fs_model.specs.Test.{address_of}
use Rattle.fs_model.specs.declared.hart.Hart.{Hart}
use Rattle.fs_model.specs.declared.step.Step.{Step}
use Rattle.fs_model.specs.Execute as narrow
use Rattle.fs_model.specs.Execute.{written}
use Rattle.fs_model.specs.Forms.{is_storing}
use Rattle.fs_model.specs.Trace.{IsDeclared, IsWord, IsAtLocation, StoresItsWord, AccessesNothing, Accesses, after_step, paired_after}
use Rattle.fs_model.specs.Values.{LoadsOne}
use Rattle.fs_model.proofs.OptionalNumbers.{not_none}
use Rattle.fs_model.proofs.RunLocations.{HasDeclaredPair}
use Rattle.fs_values.proofs.Altered.{new_store}
use Rattle.fs_values.proofs.Clean.{paired_same}
use Rattle.fs_app_plain.specs.Instructions64.{extended, address_in, stored_in, result_in}
use Rattle.fs_app_plain.specs.Wide as wide
use Rattle.fs_app_plain.specs.Wide.{IsDoubleword, extended_step, IsExact, AreExact}
use Rattle.fs_app_plain.proofs.Given.{AreWords, FitsIfThere, WordLaws}
use Rattle.fs_app_plain.proofs.BackAltered.{no_store, store_now, storing}
use Rattle.fs_app_plain.proofs.BackKept.{ExtendedFrom}

-- ---- the words of a run with 32 bits

word_fits : (o : Option ℕ) → IsWord o → FitsIfThere o
word_fits None w = absurd w
word_fits (Some a) w = w

none_fits : (o : Option ℕ) → o ≡ None → FitsIfThere o
none_fits o e = subst FitsIfThere (sym e) tt

pub load_fits : (n : ℕ) (h : Hart) (s : Step) (i : Instr) → Accesses n h s i → FitsIfThere s.loaded
load_fits n h s (Lw ann rd base offset) a = word_fits s.loaded a.1
load_fits n h s (Sw ann value base offset) a = none_fits s.loaded a.1
load_fits n h s (Lr ann rd base) a = word_fits s.loaded a.1
load_fits n h s (Sc ann rd value base) a = elim a [ inl b ↦ none_fits s.loaded b.2 | inr b ↦ none_fits s.loaded b.1 ]
load_fits n h s (Amo op ann rd value base) a = word_fits s.loaded a.1
load_fits n h s _ a = none_fits s.loaded a.1

written_words : (dest : Option ℕ) (v : ℕ) (x : List ℕ) → v < 2 ^ 32 → AreWords x → AreWords (written dest v x)
written_words None v x low all = all
written_words (Some d) v x low all = All-set (λ w. w < 2 ^ 32) x d v low all

-- an instruction of the code is one of the table
pub of_table_at : (code : List Instr) → All IsOfTable code → (at : ℕ) (i : Instr) → slice_get code at ≡ Some i
    → IsOfTable i
of_table_at code all at i e =
    subst IsOfTable (get_or_from_slice_get code at i i e) (All-get_or IsOfTable code at i (slice_get_within code at i e) all)

pub words_after : WordLaws → (n : ℕ) (h : Hart) (s : Step) → IsOfTable s.instr → Accesses n h s s.instr
    → AreWords h.registers
    → AreWords (after_step h s).registers
words_after laws n h s of_table access words =
    written_words (dest_of s.instr) _ h.registers
    (laws.result h.registers s.loaded s.stored s.instr words of_table (load_fits n h s s.instr access)) words

pub pair_after : (n : ℕ) (h : Hart) (s : Step) (i : Instr) → Accesses n h s i → HasDeclaredPair n h
    → (a : ℕ) → paired_after h s i ≡ Some a → IsDeclared n (Some a)
pair_after n h s (Lr ann rd base) access pair a e = subst (IsDeclared n) e access.0.1
pair_after n h s (Sc ann rd value base) access pair a e = absurd (not_none None a refl e)
pair_after n h s _ access pair a e = pair a e

-- ---- a state and a step with all words extended

abbrev pub wide_hart : Hart → Hart
wide_hart g = record { at = g.at; registers = map extended g.registers; paired = g.paired }

no_load : (lo o : Option ℕ) → option_map extended lo ≡ o → o ≡ None → lo ≡ None
no_load None o e q = refl
no_load (Some v) o e q = absurd (let both : Some (extended v) ≡ None = e ∙ q in cc)

load_word : (lo o : Option ℕ) → option_map extended lo ≡ o → FitsIfThere lo → IsDoubleword o → IsWord lo
load_word None o e fits d = absurd (subst IsDoubleword (sym e) d)
load_word (Some v) o e fits d = fits

written_extended : (dest : Option ℕ) (v w : ℕ) (x : List ℕ) → extended v ≡ w
    → written dest w (map extended x) ≡ map extended (written dest v x)
written_extended None v w x e = refl
written_extended (Some d) v w x e = ap (λ a. set (map extended x) d a) (sym e) ∙ sym (map-set extended x d v)

module _ (laws : WordLaws) (n : ℕ) (few : n ≤ most_locations) (g : Hart) (s : Step) (lo : Option ℕ) (words : AreWords g.registers)
    (pair : HasDeclaredPair n g) (of_table : IsOfTable s.instr) (fits : FitsIfThere lo) (loaded : option_map extended lo ≡ s.loaded) where
  -- the step with this loaded word in 32 bits
  abbrev pub narrowed : Step
  narrowed = record {
    at = s.at;
    instr = s.instr;
    address = s.address;
    loaded = lo;
    stored = new_store (narrow.stored_in g.registers lo s.instr) s.stored;
  }

  place : s.address ≡ address_in (map extended g.registers) s.instr → IsDeclared n s.address
      → s.address ≡ narrow.address_in g.registers s.instr
  place e d = e ∙ sym (laws.address_back n g.registers s.instr few words of_table (subst (IsDeclared n) e d))

  at_location : wide.IsAtLocation n (wide_hart g) s → IsAtLocation n g narrowed
  at_location a = (place a.0 a.1, a.1)

  nothing : AccessesNothing s → AccessesNothing narrowed
  nothing a = (a.0, no_load lo s.loaded loaded a.1, no_store _ s.stored a.2)

  stores : wide.StoresItsWord (wide_hart g) s → is_storing s.instr ≡ true → StoresItsWord g narrowed
  stores e b = store_now (narrow.stored_in g.registers lo s.instr) s.stored
      (ap is_some e ∙ storing (map extended g.registers) s.loaded s.instr b)

  paired_declared : (a : ℕ) → s.address ≡ Some a → s.address ≡ g.paired → IsDeclared n s.address
  paired_declared a e q = subst (IsDeclared n) (sym e) (pair a (sym q ∙ e))

  pub accesses : (i : Instr) → s.instr ≡ i → wide.Accesses n (wide_hart g) s i → Accesses n g narrowed i
  accesses (Register op rd first second) e a = nothing a
  accesses (Immediate op rd first immediate) e a = nothing a
  accesses (Shift op rd first amount) e a = nothing a
  accesses (Lui rd upper) e a = nothing a
  accesses (Li rd w) e a = nothing a
  accesses (Lw ann rd base offset) e a = (at_location a.0, load_word lo s.loaded loaded fits a.1, no_store _ s.stored a.2)
  accesses (Sw ann value base offset) e a = (at_location a.0, no_load lo s.loaded loaded a.1, stores a.2 (ap is_storing e))
  accesses (Lr ann rd base) e a = (at_location a.0, load_word lo s.loaded loaded fits a.1, no_store _ s.stored a.2)
  accesses (Sc ann rd value base) e a = elim a [
    | inl b ↦ (
        let there = b.0 ∙ ap (address_in (map extended g.registers)) e in
        inl (place b.0 (paired_declared _ there b.1), b.1, no_load lo s.loaded loaded b.2, stores b.3 (ap is_storing e)))
    | inr b ↦ inr (nothing b)
  ]
  accesses (Amo op ann rd value base) e a =
      (at_location a.0, load_word lo s.loaded loaded fits a.1, stores a.2 (ap is_storing e))
  accesses (Branch op first second target) e a = nothing a
  accesses (Jump target) e a = nothing a
  accesses (Fence before after) e a = nothing a
  accesses FenceTso e a = nothing a
  accesses FenceI e a = nothing a

  -- what it stores, where it does
  own : is_some s.stored ≡ true → (i : Instr) → s.instr ≡ i → wide.Accesses n (wide_hart g) s i
      → wide.StoresItsWord (wide_hart g) s
  own b = by_form
    where
      gone : s.stored ≡ None → wide.StoresItsWord (wide_hart g) s
      gone none = absurd (false≢true (sym (ap is_some none) ∙ b))

      by_form : (i : Instr) → s.instr ≡ i → wide.Accesses n (wide_hart g) s i → wide.StoresItsWord (wide_hart g) s
      by_form (Register op rd first second) e a = gone a.2
      by_form (Immediate op rd first immediate) e a = gone a.2
      by_form (Shift op rd first amount) e a = gone a.2
      by_form (Lui rd upper) e a = gone a.2
      by_form (Li rd w) e a = gone a.2
      by_form (Lw ann rd base offset) e a = gone a.2
      by_form (Sw ann value base offset) e a = a.2
      by_form (Lr ann rd base) e a = gone a.2
      by_form (Sc ann rd value base) e a = elim a [ inl c ↦ c.3 | inr c ↦ gone c.2 ]
      by_form (Amo op ann rd value base) e a = a.2
      by_form (Branch op first second target) e a = gone a.2
      by_form (Jump target) e a = gone a.2
      by_form (Fence before after) e a = gone a.2
      by_form FenceTso e a = gone a.2
      by_form FenceI e a = gone a.2

  module _ (access : wide.Accesses n (wide_hart g) s s.instr) (exact : IsExact g narrowed) where
    stored_same : option_map extended narrowed.stored ≡ s.stored
    stored_same = by_store s.stored refl
      where
        by_store : (o : Option ℕ) → s.stored ≡ o
            → option_map extended (new_store (narrow.stored_in g.registers lo s.instr) o) ≡ o
        by_store None q = refl
        by_store (Some w) q =
            exact.stored
            ∙ ap (λ l. stored_in (map extended g.registers) l s.instr) loaded
            ∙ sym (own (ap is_some q) s.instr refl access)
            ∙ q

    pub same_step : extended_step narrowed ≡ s
    same_step =
        ap (λ l. record {
          at =
              s.at;
          instr = s.instr;
          address = s.address;
          loaded = l;
          stored = option_map extended narrowed.stored;
        }) loaded
        ∙ ap (λ w. record { at = s.at; instr = s.instr; address = s.address; loaded = s.loaded; stored = w }) stored_same

    result_same : extended (narrow.result_in g.registers lo narrowed.stored s.instr)
        ≡ result_in (map extended g.registers) s.loaded s.stored s.instr
    result_same =
        exact.result
        ∙ ap (λ l. result_in (map extended g.registers) l (option_map extended narrowed.stored) s.instr) loaded
        ∙ ap (λ w. result_in (map extended g.registers) s.loaded w s.instr) stored_same

    pub same_after : wide.after_step (wide_hart g) s ≡ wide_hart (after_step g narrowed)
    same_after =
        ap (λ k. record {
          at = k;
          registers = wide.executed (map extended g.registers) s.loaded s.stored s.instr;
          paired = paired_after (wide_hart g) s s.instr;
        }) (laws.next g.registers g.at s.instr words)
        ∙ ap (λ x. record {
          at = narrow.next_after g.registers g.at s.instr;
          registers = x;
          paired = paired_after (wide_hart g) s s.instr;
        }) (written_extended (dest_of s.instr) _ _ g.registers result_same)
        ∙ ap (λ q. record {
          at = narrow.next_after g.registers g.at s.instr;
          registers = map extended (narrow.executed g.registers lo narrowed.stored s.instr);
          paired = q;
        }) (paired_same (wide_hart g) g s narrowed s.instr refl refl)

-- ---- the words that it loads

same_some : {a b : ℕ} → Some a ≡ Some b → a ≡ b
same_some h = cc

module _ (V : ℕ → ℕ → Type 0) (small : (k w : ℕ) → V k w → w < 2 ^ 32) (n : ℕ) (s : Step)
    (declared : (w : ℕ) → s.loaded ≡ Some w → IsDeclared n s.address) (loads : LoadsOne (ExtendedFrom V) s) where
  -- a word of V that the loaded one extends
  pub record Load : Type 0 where
    pub word : Option ℕ
    pub extends : option_map extended word ≡ s.loaded
    pub fits : FitsIfThere word
    pub value : (k w : ℕ) → s.address ≡ Some (address_of k) → word ≡ Some w → V k w

  pub load : Load
  load = by_load s.loaded refl
    where
      by_load : (o : Option ℕ) → s.loaded ≡ o → Load
      by_load None q = record {
        word = None;
        extends = sym q;
        fits = tt;
        value = λ k w a l. absurd (let both : None ≡ Some w = l in cc);
      }
      by_load (Some a) q =
          let d = declared a q in
          let from = loads d.0 a d.2 q in
          record {
            word = Some from.0;
            extends = ap (λ v. Some v) (sym from.2) ∙ sym q;
            fits = small d.0 from.0 from.1;
            value = λ k w at l.
                let both : address_of d.0 ≡ address_of k = same_some (sym d.2 ∙ at) in
                let number : d.0 ≡ k = omega (arith, both) in
                subst (λ (m : ℕ). V m w) number (subst (V d.0) (same_some l) from.1);
          }
