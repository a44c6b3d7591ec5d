-- The witnesses of a certificate, and what is kept of them.
use Rattle.std.proofs.Common.{◌≡◌, ℕ, zero, suc, ◌+◌, true, List, [], ◌∷◌, ◌++◌, Option, None, Some, IsTrue, length, get_or, append_assoc, arith, refl, sym, ap, subst, unwrap_or, ◌∙◌}
use Rattle.std.specs.List.{AllZip}
use Rattle.std.specs.Prelude.{◌<◌, IsSomeAnd, MatchOption, slice_get}
use Rattle.std.proofs.lemmas.Bool.{and_from, eq-eqb}
use Rattle.std.proofs.lemmas.List.{append-nil}
use Rattle.std.proofs.lemmas.List.Folds.{list_any_at}
use Rattle.std.proofs.lemmas.Slice.Zip.{AllZip-left, AllZip-right}
use Rattle.fs_kinds.specs.declared.placement.Entry.{Entry}
use Rattle.fs_kinds.specs.declared.slot.Slot.{Slot}
use Rattle.fs_kinds.specs.Placement.{has_slot}
use Rattle.fs_kinds.specs.Slot.{is_same_slot}
use Rattle.fs_model.specs.declared.test.Test.{Test}
use Rattle.fs_model.specs.Witness.{Witness}
use Rattle.fs_cert_evidence.specs.declared.witness.WitnessFile.{WitnessFile as File}
use Rattle.fs_cert_evidence.specs.Shown.{IsShownBy}
use Rattle.fs_cert_evidence.specs.WitnessFile.{KeepsWitness}
use Rattle.fs_check.specs.declared.ordered.OrderedCandidate.{OrderedCandidate}
use Rattle.fs_check.specs.Ordered.{execution_in}
use Rattle.fs_app_why.specs.Kinds.{ChainKind}
use Rattle.fs_app_why.specs.First.{IsOfFirst, NoneShows}
use Rattle.fs_app_why.specs.Reordered.{IsFirstShown, IsToldOf}
use Rattle.fs_app_why.specs.declared.telling.Telling.{Telling}
use Rattle.fs_app_why.specs.Why.{NoWitnessShows, TellsEntry, TellsFences, asked}

-- the first file that is kept is of the first witness
pub first_witness : (files : List File) (ws : List Witness) (file : File) → AllZip KeepsWitness files ws → slice_get files 0 ≡ Some file
    → (w : Witness) × (rest : List Witness) × KeepsWitness file w × (ws ≡ w ∷ rest)
first_witness [] (w ∷ ws) file kept e = absurd kept
first_witness [] [] file kept e = cc
first_witness (f ∷ files) [] file kept e = absurd kept
first_witness (f ∷ files) (w ∷ ws) file kept e =
    (w, ws, subst (λ g. KeepsWitness g w) (ap (λ o. unwrap_or o f) e) kept.0, refl)

pub no_witness : (files : List File) (ws : List Witness) → AllZip KeepsWitness files ws → slice_get files 0 ≡ None → ws ≡ []
no_witness [] [] kept e = refl
no_witness [] (w ∷ ws) kept e = absurd kept
no_witness (f ∷ files) [] kept e = refl
no_witness (f ∷ files) (w ∷ ws) kept e = cc

pub no_witness_shows : (t : Test) (p : List Entry) (files : List File) (ws : List Witness) → AllZip KeepsWitness files ws → NoneShows t files p
    → NoWitnessShows t ws p
no_witness_shows t p files [] kept none w (k, lt, at) shown = absurd (omega (arith, lt))
no_witness_shows t p [] (v ∷ ws) kept none w has shown = absurd kept
no_witness_shows t p (f ∷ files) (v ∷ ws) kept none w (zero, lt, at) shown =
    none 0 f refl w (subst (KeepsWitness f) at kept.0) shown
no_witness_shows t p (f ∷ files) (v ∷ ws) kept none w (suc k, lt, at) shown =
    no_witness_shows t p files ws kept.1 (λ i g e. none (suc i) g e) w (k, omega (arith, lt), at) shown

-- ---- by their numbers

some_and : {A : Type 0} (o : Option A) (P : A → Type 0) → IsSomeAnd o P → (x : A) × (o ≡ Some x) × P x
some_and None P h = absurd h
some_and (Some x) P h = (x, refl, h)

kept_at : (files : List File) (ws : List Witness) (k : ℕ) (file : File) → AllZip KeepsWitness files ws → slice_get files k ≡ Some file
    → (w : Witness) × (slice_get ws k ≡ Some w) × KeepsWitness file w
kept_at files ws k file kept at =
    some_and (slice_get ws k) (KeepsWitness file)
    (subst (λ o. MatchOption o (Unit {0}) (λ x. IsSomeAnd (slice_get ws k) (KeepsWitness x))) at (AllZip-left KeepsWitness files ws kept k))

kept_by : (files : List File) (ws : List Witness) (k : ℕ) (w : Witness) → AllZip KeepsWitness files ws → slice_get ws k ≡ Some w
    → (file : File) × (slice_get files k ≡ Some file) × KeepsWitness file w
kept_by files ws k w kept at =
    some_and (slice_get files k) (λ file. KeepsWitness file w)
    (subst (λ o. MatchOption o (Unit {0}) (λ y. IsSomeAnd (slice_get files k) (λ x. KeepsWitness x y))) at (AllZip-right KeepsWitness files ws kept k))

-- what is told of the first file that shows the outcome is told of the first witness that does
pub first_told : (t : Test) (p : List Entry) (files : List File) (ws : List Witness) (o : OrderedCandidate) → AllZip KeepsWitness files ws
    → IsOfFirst t p files o → (w : Witness) × IsFirstShown t p ws w × IsToldOf t p w (execution_in o)
first_told t p files ws o kept first =
    let here = kept_at files ws first.number first.file kept first.at in (
      here.0,
      record {
        number = first.number;
        at = here.1;
        earlier = λ k v less at shown.
            let there = kept_by files ws k v kept at in first.earlier k there.0 less there.1 v there.2 shown;
      },
      first.is_of here.0 here.2,
    )

-- ---- what is told of fences

-- a placement has the slot of each of its entries
pub has_own : (p items : List Entry) (k : ℕ) (d : Entry) → items ≡ p → k < length items → IsTrue (has_slot (get_or items k d).slot p)
has_own p items k d same low =
    subst (λ (q : List Entry). IsTrue (has_slot (get_or items k d).slot q)) same
    (list_any_at (λ e. is_same_slot e.slot (get_or items k d).slot) items k d low (itself (get_or items k d).slot))
  where
    itself : (s : Slot) → is_same_slot s s ≡ true
    itself s = and_from _ _ (eq-eqb s.hart s.hart refl) (eq-eqb s.at s.at refl)

module _ (t : Test) (lines : List (List ℕ)) (telling : Telling) (kinds : List ChainKind) (ws : List Witness) (N : List Entry → Type 0) (p : List Entry) where
  -- one entry more
  pub fences_more : (entries : List Entry) (entry : Entry) (text told whole : List ℕ)
      → TellsFences t lines telling kinds ws N p entries text → TellsEntry t lines telling kinds ws N p (asked telling entry) told
      → whole ≡ text ++ told → TellsFences t lines telling kinds ws N p (entries ++ entry ∷ []) whole
  fences_more [] entry text told whole none is e = (told, [], is, refl, e ∙ ap (λ before. before ++ told) none ∙ sym (append-nil told))
  fences_more (x ∷ entries) entry text told whole (first, others, is_first, are, is_text) is e =
      (first, others ++ told, is_first, fences_more entries entry others told (others ++ told) are is refl, rw (e, is_text) (append_assoc first others told))
