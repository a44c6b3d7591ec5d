-- `--why` tells an execution without each fence of an answer.
use Rattle.std.proofs.Common.{◌≡◌, ◌≢◌, ℕ, suc, Bool, true, false, Option, None, Some, List, [], ◌∷◌, ◌++◌, inl, inr, refl, sym, ap, subst, ◌∙◌}
use Rattle.std.specs.List.{Contains}
use Rattle.std.specs.Prelude.{if◌then◌else◌, slice_get}
use Rattle.std.proofs.lemmas.Option.{get_or_from_slice_get, slice_get_within}
use Rattle.fs_kinds.specs.declared.kind.Kind.{Kind}
use Rattle.fs_kinds.specs.declared.placement.Entry.{Entry}
use Rattle.fs_kinds.specs.declared.slot.Slot.{Slot}
use Rattle.fs_kinds.specs.Placement.{with_kind}
use Rattle.fs_kinds.specs.PriceTable.{PriceTable, cost}
use Rattle.fs_model.specs.declared.test.Test.{Test}
use Rattle.fs_model.specs.Placed.{IsPlaced}
use Rattle.fs_model.specs.Slots.{slots}
use Rattle.fs_model.specs.Test.{IsSame}
use Rattle.fs_model.specs.Witness.{Witness}
use Rattle.fs_litmus.specs.Reads.{Reads}
use Rattle.fs_litmus.proofs.ReadsOnce.{reads_once}
use Rattle.fs_cert_evidence.specs.Certificate.{Answer, Certificate, Cycles, First, Second, Fourth, Listed, Inferred, Version, fence_words}
use Rattle.fs_cert_evidence.specs.CertificateFile.{IsCertificateFile}
use Rattle.fs_board_offers.specs.Priced.{IsValid, IsValidFor}
use Rattle.fs_board_offers.proofs.Priced.{same-slots}
use Rattle.fs_check_certificate.specs.Shown.{IsShown}
use Rattle.fs_check_certificate.proofs.Bare.{fences-shown}
use Rattle.fs_check_certificate.proofs.OneFile.{file_once}
use Rattle.fs_cert.specs.Cycles.{version_for}
use Rattle.fs_app_io.specs.declared.status.Status.{Status}
use Rattle.fs_app_io.specs.declared.status.Status.TheVariants.{Denied, Success}
use Rattle.fs_app_solve_and_check.specs.Check.{IsChecked, yes_line}
use Rattle.fs_app_solve_and_check.specs.Solve.{IsCertified, PrintsPlaced}
use Rattle.fs_app_why.specs.Kinds.{ChainKind}
use Rattle.fs_app_why.specs.Forbidden.{cycles_text}
use Rattle.fs_app_why.specs.declared.telling.Telling.{Telling}
use Rattle.fs_app_why.specs.declared.telling.Telling.TheVariants.{Few, All, One}
use Rattle.fs_app_why.specs.Why.{IsCertifiedWhy, NoWitnessShows, TellsAllFences, TellsAnswer, TellsFences, TellsPlaced, TellsUnless, TellsWithout, asked, is_passed, lacks_placed, unplaced_text}
use Rattle.fs_app_guarantees.specs.FencesTold.{AsksForAll, EachIsTold, FencesAreTold}
use Rattle.fs_app_guarantees.proofs.Agrees.{places, slots_alike}
use Rattle.fs_app_guarantees.proofs.KeptPlacements.{shown_by_same}

listed : (ws : List Witness) (j : ℕ) (w : Witness) → slice_get ws j ≡ Some w → Contains ws w
listed ws j w e = (j, slice_get_within ws j w e, get_or_from_slice_get ws j w w e)

-- ---- where no fence may be left untold each is told

module _ (t : Test) (lines : List (List ℕ)) (telling : Telling) (kinds : List ChainKind) (ws : List Witness) (N : List Entry → Type 0) (p : List Entry) where
  slot_told : (slot : Slot) (kind : Option Kind) (text : List ℕ) → ((k : Kind) → kind ≡ Some k → N (with_kind slot None p) → ⊥)
      → TellsWithout t lines ws N p slot kind text → TellsWithout t lines ws (λ q. ⊥) p slot kind text
  slot_told slot None text never told = told
  slot_told slot (Some kind) text never told = elim told [ inl shown ↦ inl shown | inr none ↦ absurd (never kind refl none.0) ]

  -- the kind of a slot that is asked for is its own
  own_kind : (entry : Entry) (k : Kind) (passed : Bool) → (if passed then None else entry.kind) ≡ Some k → entry.kind ≡ Some k
  own_kind entry k true is = absurd (let other : Some k ≡ None = sym is in cc)
  own_kind entry k false is = is

  each_told : (entries : List Entry) (text : List ℕ)
      → ((k : ℕ) (e : Entry) (kind : Kind) → slice_get entries k ≡ Some e → e.kind ≡ Some kind → N (with_kind e.slot None p) → ⊥)
      → TellsFences t lines telling kinds ws N p entries text → TellsFences t lines telling kinds ws (λ q. ⊥) p entries text
  each_told [] text never told = told
  each_told (entry ∷ entries) text never (first, others, is, are, e) = (
    first,
    others,
    (
      is.0,
      slot_told entry.slot (asked telling entry).kind is.0
          (λ kind filled. never 0 entry kind refl (own_kind entry kind (is_passed telling entry.slot) filled)) is.1,
      is.2,
    ),
    each_told entries others (λ k f kind at. never (suc k) f kind at) are,
    e,
  )

-- ---- of a valid certificate

-- with all asked for no line says that a fence is lacking
none_lacks : (telling : Telling) (p : List Entry) (line : List ℕ) (P : List ℕ → Type 0) (text : List ℕ) → AsksForAll telling
    → TellsUnless (lacks_placed telling p) line P text → P text
none_lacks Few p line P text all told = told
none_lacks All p line P text all told = told
none_lacks (One hart at) p line P text all told = absurd all

module _ (telling : Telling) (all : AsksForAll telling) (test certificate text : List ℕ) (t : Test) (prices : PriceTable) (c : Certificate) (p : List Entry) (reads : Reads test t)
    (file : IsCertificateFile certificate c) (valid : IsValidFor t prices c p) (later : c.version ≢ First) where
  some_witness : (u : Test) → IsSame t u → (k : ℕ) (e : Entry) (kind : Kind) → slice_get p k ≡ Some e → e.kind ≡ Some kind
      → NoWitnessShows u c.witnesses (with_kind e.slot None p) → ⊥
  some_witness u same k e kind at filled none =
      let there : slice_get p k ≡ Some (record { slot = e.slot; kind = Some kind }) =
      at ∙ ap (λ (o : Option Kind). Some (record { slot = e.slot; kind = o })) filled in
      let shown : IsShown t c.witnesses (with_kind e.slot None p) = fences-shown t prices c p valid later k e.slot kind there in
      let w = shown.1.1.0 in
      none w (listed c.witnesses shown.0 w shown.1.1.1)
      ((shown_by_same t u same (with_kind e.slot None p) w).0 (shown.1.0, shown.1.1.2))

  told : IsCertifiedWhy telling test certificate text → EachIsTold telling test p c.witnesses text
  told why =
      let one : why.said ≡ c = file_once certificate why.said c why.file file in
      let tells : TellsAnswer telling test c.answer c.cycles c.witnesses text =
      subst (λ (d : Certificate). TellsAnswer telling test d.answer d.cycles d.witnesses text) one why.tells in
      let fenced : TellsAllFences telling test (fence_words p) c.cycles c.witnesses text =
      subst (λ (a : Answer). TellsAnswer telling test a c.cycles c.witnesses text) valid.answered.answered tells in
      let u = fenced.the_test in
      let same : IsSame t u = reads_once test t u reads fenced.reads in
      let one_place = places test t reads in
      let words = fence_words p in
      let here : IsPlaced None (slots t) words (Some fenced.placement) =
      subst (λ ss. IsPlaced None ss words (Some fenced.placement)) (sym (slots_alike t u same)) fenced.placed in
      let there : IsPlaced None (slots t) words (Some p) = one_place.0 p (valid.answered.placement.slots ∙ same-slots t prices) in
      let placement : fenced.placement ≡ p = one_place.1 words fenced.placement p here there in
      let placed : TellsPlaced u fenced.lines telling fenced.placement c.cycles c.witnesses text =
      none_lacks telling fenced.placement (unplaced_text telling) (TellsPlaced u fenced.lines telling fenced.placement c.cycles c.witnesses)
      text all fenced.tells in
      let N = NoWitnessShows u c.witnesses in
      record {
        the_test = u;
        lines = fenced.lines;
        kinds = placed.kinds;
        above = cycles_text u fenced.lines telling c.cycles placed.kinds;
        fences = placed.fences;
        reads = fenced.reads;
        stand = fenced.stand;
        told = each_told u fenced.lines telling placed.kinds c.witnesses N p p placed.fences (some_witness u same)
            (subst (λ (q : List Entry). TellsFences u fenced.lines telling placed.kinds c.witnesses N q q placed.fences) placement placed.tells);
        is_text = placed.told;
      }

-- ---- of what `solve` and `check` print

not_first : (cycles : Cycles) (version : Version) → version ≡ version_for cycles → version ≢ First
not_first (Listed cycles) version is first = absurd (let other : First ≡ Second = sym first ∙ is in cc)
not_first (Inferred inferences) version is first = absurd (let other : First ≡ Fourth = sym first ∙ is in cc)

module _ (telling : Telling) (test prices lines certificate text : List ℕ) where
  pub solved : (status : Status) → AsksForAll telling → IsCertified test prices lines status certificate
      → IsCertifiedWhy telling test certificate text → FencesAreTold telling test lines text
  solved status all s why = by_answer s.placed s.answer s.certified.valid
    where
      c : Certificate
      c = s.certified.certificate

      by_answer : (placed : Option (List Entry)) → PrintsPlaced s.the_test s.table placed lines status
          → IsValid s.the_test s.table c placed → FencesAreTold telling test lines text
      by_answer None printed valid = inr (printed.witness, printed.shown)
      by_answer (Some p) printed valid = inl (
        cost s.table p,
        p,
        c.witnesses,
        printed.1,
        told telling all test certificate text s.the_test s.table c p s.reads s.certified.file valid (not_first c.cycles c.version s.certified.version) why,
      )

  pub checked : (c : Certificate) → AsksForAll telling → IsChecked test prices certificate lines Success → IsCertificateFile certificate c → c.version ≢ First
      → IsCertifiedWhy telling test certificate text → (below : List ℕ) × (lines ≡ yes_line ++ below) × FencesAreTold telling test below text
  checked c all k file later why = elim k.verdict [
    | inl a ↦
        let d = k.the_certificate in
        let other : d.version ≢ First = subst (λ (x : Certificate). x.version ≢ First) (file_once certificate c d file k.says) later in (
          _,
          a.shown,
          inl (
            cost k.table a.placement,
            a.placement,
            d.witnesses,
            refl,
            told telling all test certificate text k.the_test k.table d a.placement k.reads k.says a.valid other why,
          ),
        )
    | inr rest ↦ elim rest [
      | inl a ↦ (_, a.shown, inr (a.valid.witness, refl))
      | inr a ↦ absurd (let other : Success ≡ Denied = a.ends in cc)
    ]
  ]
