-- What makes a certificate valid, from what was found of its parts.
use Rattle.std.proofs.Common.{◌≡◌, ℕ, Some, List, [], ◌∷◌, length, get_or, slice_get, refl, sym, ap, subst, ◌∙◌, arith}
use Rattle.std.specs.List.{AllZip}
use Rattle.fs_kinds.specs.declared.placement.Entry.{Entry}
use Rattle.fs_board_offers.specs.Offers.{Offers, cost}
use Rattle.fs_cert_evidence.specs.Certificate.{Fenced, NoneForbids}
use Rattle.fs_cert_evidence.specs.Evidence.{Shown}
use Rattle.fs_cert_json.specs.Kept.{answer_of}
use Rattle.fs_sites.specs.Answers.{IsShownIn}
use Rattle.fs_sites.specs.Questions.{IsQuestion, Part, Question, top}
use Rattle.fs_sites.specs.declared.answer.Answer.TheVariants as answer
use Rattle.fs_sites_check.specs.Valid.{IsRefutedWith, IsValid, IsValidForNone, site_words}
use Rattle.fs_sites_check.specs.Verdicts.{IsPlan, IsShownFully, IsSitesVerdict}
use Rattle.fs_sites_check.specs.declared.certificate.SitesCertificate.{SitesCertificate}
use Rattle.fs_sites_check.specs.declared.certificate.SitesWitness.{SitesWitness}
use Rattle.fs_sites_check.specs.declared.verdict.SitesVerdict.TheVariants.{Yes}
use Rattle.fs_sites_check.proofs.Right.{right}

pub planned : (q : Question) (names : List (List ℕ)) (c : SitesCertificate) (p : List Entry) (offers : Offers) (parts : List Part) (n : ℕ)
    → IsQuestion q → IsPlan q c.witnesses p → offers ≡ q.offers → parts ≡ q.parts
    → answer_of c.answer ≡ Fenced (cost offers p) (site_words p names) → AllZip (IsRefutedWith p) parts c.cycles → n ≡ cost offers p
    → IsSitesVerdict q names c (Yes (answer.Fenced p n))
planned q names c p offers parts n asked plan one two answered refuted same =
    let valid : IsValid q names c (answer.Fenced p n) = (
      record {
        answered = answered ∙ ap (λ (os : Offers). Fenced (cost os p) (site_words p names)) one;
        bars = plan.0;
        bars_of = plan.1;
        first = plan.2;
        refuted = subst (λ ps. AllZip (IsRefutedWith p) ps c.cycles) two refuted;
      },
      same ∙ ap (λ (os : Offers). cost os p) one,
    ) in
    (valid, right q names c (answer.Fenced p n) asked valid)

pub empty : {A : Type 0} (xs : List A) → length xs ≡ 0 → xs ≡ []
empty [] none = refl
empty (x ∷ xs) none = absurd (omega (arith, none))

alone : (ws : List SitesWitness) (w : SitesWitness) → length ws ≡ 1 → w ≡ get_or ws 0 w → ws ≡ w ∷ []
alone [] w one at = absurd (cc)
alone (x ∷ []) w one at = ap (λ y. y ∷ []) (sym at)
alone (x ∷ y ∷ ws) w one at = absurd (omega (arith, one))

pub none-valid : (q : Question) (c : SitesCertificate) (ws : List SitesWitness) (w : SitesWitness) (parts : List Part) (part : Part)
    (offers : Offers) (shown : Shown) → answer_of c.answer ≡ NoneForbids → c.cycles ≡ [] → ws ≡ c.witnesses → length ws ≡ 1
    → w ≡ get_or ws 0 w → parts ≡ q.parts → offers ≡ q.offers → slice_get parts w.test ≡ Some part
    → IsShownFully part offers w.file shown
    → IsValidForNone q c w.test shown × IsShownIn q.parts (top q.offers) w.test shown
none-valid q c ws w parts part offers shown none cycles same one at these those there full =
    let refutes : IsShownIn q.parts (top q.offers) w.test shown =
    (part, subst (λ ps. slice_get ps w.test ≡ Some part) these there, (subst (λ os. IsShownFully part os w.file shown) those full).1) in (
      record {
        answered = none;
        cycles = cycles;
        witness = w;
        only = sym same ∙ alone ws w one at;
        same = refl;
        says = full.0;
        refutes = refutes;
      },
      refutes,
    )
