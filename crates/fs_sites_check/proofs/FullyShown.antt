-- The witness of a file whose names are all in range, and what it shows with rw,rw at each site.
use Rattle.std.proofs.Common.{◌≡◌, Bool, true, false, Option, None, Some, List, [], ◌∷◌, map, refl, sym, ap, subst, ◌∙◌}
use Rattle.std.specs.Prelude.{IfSome, ◌&&◌, nat_lt, if◌then◌else◌}
use Rattle.fs_kinds.specs.declared.placement.Entry.{Entry}
use Rattle.fs_kinds.specs.declared.reason.OperationName.{OperationName as Name}
use Rattle.fs_model.specs.Execution.{Execution}
use Rattle.fs_model.specs.Witness.{Witness}
use Rattle.fs_board_offers.specs.Offers.{Offers}
use Rattle.fs_cert_evidence.specs.declared.evidence.Pairs.{Pairs}
use Rattle.fs_cert_evidence.specs.declared.witness.WitnessFile.{WitnessFile}
use Rattle.fs_cert_evidence.specs.Evidence.{Shown, widths_of}
use Rattle.fs_cert_evidence.specs.Shown.{IsShownBy, ShowsAs}
use Rattle.fs_cert_evidence.specs.Widths.{width}
use Rattle.fs_cert_evidence.specs.WitnessFile.{KeepsWitness, in_range}
use Rattle.fs_sites.specs.Answers.{IsShownUnder}
use Rattle.fs_sites.specs.Questions.{IsPart, Part, image, slots_at, top}
use Rattle.fs_sites.proofs.Unbroken.{slots-image}
use Rattle.fs_model.specs.declared.test.Test.{Test}
use Rattle.fs_sites.specs.declared.question.Place.{Place}
use Rattle.fs_sites_check.specs.Valid.{IsShownAs}
use Rattle.fs_sites_check.specs.Verdicts.{IsShownFully}
use Rattle.fs_sites_check.proofs.OneExecution.{one_execution}

-- a name that is kept is the one that was said
by-range : (b : Bool) (n m : Name) → (if b then Some n else None) ≡ Some m → n ≡ m
by-range true n m e = cc
by-range false n m e = absurd (let none : None ≡ Some m = e in cc)

kept-name : (n m : Name) → in_range n ≡ Some m → n ≡ m
kept-name n m e = by-range (nat_lt n.hart 256 && nat_lt n.at 256) n m e

same-names : (said kept : List Name) → map in_range said ≡ map (λ name. Some name) kept → said ≡ kept
same-names [] [] e = refl
same-names [] (m ∷ kept) e = absurd (cc)
same-names (n ∷ said) [] e = absurd (cc)
same-names (n ∷ said) (m ∷ kept) e =
    let first : in_range n ≡ Some m = cc in
    let rest : map in_range said ≡ map (λ name. Some name) kept = cc in
    ap (λ x. x ∷ said) (kept-name n m first) ∙ ap (λ xs. m ∷ xs) (same-names said kept rest)

same-witness : (file : WitnessFile) (w : Witness) (v : Witness) → KeepsWitness file w → v.choices ≡ file.choices
    → file.order ≡ map (λ name. Some name) v.order → w ≡ v
same-witness file w v keeps choices order =
    ap (λ cs. record { choices = cs; order = w.order }) (sym keeps.choices ∙ sym choices)
    ∙ ap (λ ns. record { choices = v.choices; order = ns }) (same-names w.order v.order (sym keeps.order ∙ order))

module _ (part : Part) (offers : Offers) (file : WitnessFile) (w : Witness) (asked : IsPart part) (keeps : KeepsWitness file w)
    (bare : IsShownBy part.test [] w) (full : IsShownBy part.test (image part.places (top offers)) w) where
  pub shown-fully : (shown : Shown) → shown.witness.choices ≡ file.choices → file.order ≡ map (λ name. Some name) shown.witness.order
      → shown.widths ≡ widths_of (width part.test bare.0) (slots_at part.places) → IsShownFully part offers file shown
  shown-fully shown choices order widths =
      let same = same-witness file w shown.witness keeps choices order in
      let e = bare.0 in
      let one = one_execution part.test w full.0 e asked.bounded full.1.0 bare.1.0 in
      let under : IsShownUnder part.test (image part.places (top offers)) shown = (
        e,
        record {
          shows = subst (λ v. ShowsAs part.test [] v e) same bare.1;
          only = λ other is. one_execution part.test w other e asked.bounded (subst (λ v. ShowsAs part.test [] v other) (sym same) is).0 bare.1.0;
          widths = widths ∙ ap (widths_of (width part.test e)) (sym (slots-image (top offers) part.places));
        },
        (subst (λ x. ShowsAs part.test (image part.places (top offers)) w x) one full.1).1,
      ) in
      (subst (KeepsWitness file) same keeps, under)

pub shown-true : (t : Test) (p : List Entry) (w : Witness) (b : Bool) → b ≡ true → IsShownAs t p w b → IsShownBy t p w
shown-true t p w true e shown = shown
shown-true t p w false e shown = absurd (cc)

-- the witness made of a file that gives such an execution
module _ (part : Part) (offers : Offers) (file : WitnessFile) where
  pub fully : (t u : Test) (places : List Place) (p : List Entry) (full bare : Bool) (items : List Pairs) (found : Option Shown)
      → IsPart part → (said : (w : Witness) × KeepsWitness file w) → t ≡ part.test → u ≡ part.test → places ≡ part.places → p ≡ []
      → full ≡ true → bare ≡ true → IsShownAs part.test (image part.places (top offers)) said.0 full → IsShownAs t p said.0 bare
      → ((w : Witness) (e : Execution) → KeepsWitness file w → ShowsAs u [] w e → items ≡ widths_of (width u e) (slots_at places))
      → IfSome found (λ w. w.witness.choices ≡ file.choices) → IfSome found (λ w. file.order ≡ map (λ name. Some name) w.witness.order)
      → IfSome found (λ w. w.widths ≡ items) → IfSome found (IsShownFully part offers file)
  fully t u places p full bare items None asked said a b d e h too all one widths choices order same = tt
  fully t u places p full bare items (Some shown) asked said a b d e h too all one widths choices order same =
      let w = said.0 in
      let with_all = shown-true part.test (image part.places (top offers)) w full h all in
      let now = subst (λ fences. IsShownBy part.test fences w) e (subst (λ test. IsShownBy test p w) a (shown-true t p w bare too one)) in
      let here : items ≡ widths_of (width part.test now.0) (slots_at part.places) =
      widths w now.0 said.1 (subst (λ test. ShowsAs test [] w now.0) (sym b) now.1)
      ∙ (ap (λ test. widths_of (width test now.0) (slots_at places)) b ∙ ap (λ ps. widths_of (width part.test now.0) (slots_at ps)) d) in
      shown-fully part offers file w asked said.1 now with_all shown choices order (same ∙ here)
