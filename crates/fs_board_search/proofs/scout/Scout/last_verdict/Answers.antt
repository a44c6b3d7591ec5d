use Rattle.std.proofs.Common.{rules, ◌≡◌, false, ◌∙◌, refl, sym, ap, subst}
use Rattle.std.specs.Prelude.{is_none}
use Rattle.std.specs.List.{list_any}
use Rattle.fs_model.specs.declared.test.Test.{Test}
use Rattle.fs_board_offers.specs.Offers.{slots}
use Rattle.fs_board_offers.specs.Parts.{Part, floor, filled}
use Rattle.fs_cert_evidence.specs.Shown.{IsShownBy}
use Rattle.fs_board_offers.specs.Questions.{Question}
use Rattle.fs_judge.specs.Verdicts.{IsVerdict}
use Rattle.fs_board_search.proofs.Handed.{candidates-handed}
use Rattle.fs_board_search.proofs.WitnessLists.{floor-slots}
use Rattle.fs_board_search.proofs.Parts.{leaf-shown, made-at}
use Rattle.fs_board_search.proofs.scout.Scout.last_verdict.Goals as goal

-- the search finds this of any fault that a verdict may have
pub returns-in_err-verdict-clause-err : goal.returns-in_err-verdict-clause-err
returns-in_err-verdict-clause-err c =
    candidates-handed c.from_residual-in_err-verdict.result _ c.self.inside.judge c.args.self.now.test
    (c.self.invariant.0 ∙ ap (λ (q : Question). q.test) c.self.view_is)
    c.from_residual-in_err-verdict.ensures.1 (λ other. search rules)

pub returns-in-Allowed-clause-made : goal.returns-in-Allowed-clause-made
returns-in-Allowed-clause-made c =
    let part : Part = c.args.taken.now.part.value in
    let q = c.args.self.now in
    let shown = subst (IsVerdict c.self.inside.judge c.in_ok-floor.floor) c.in-Allowed.is c.in_ok-verdict.ensures.ok in (
      made-at c.self.inside.judge q.test c.in_ok-floor.floor (slots q.offers) c.in-Allowed.witness c.in_ok-shared-in-Allowed.shared.value
          (c.self.invariant.0 ∙ ap (λ (q : Question). q.test) c.self.view_is)
          (floor-slots part c.in_ok-floor.floor _ (c.in_ok-floor.ensures ∙ ap floor c.deref-2.ensures) c.requires.slots)
          c.in_ok-shared-in-Allowed.ensures.ok shown,
      refl,
    )

pub returns-in-Allowed-clause-last : goal.returns-in-Allowed-clause-last
returns-in-Allowed-clause-last c =
    let part : Part = c.args.taken.now.part.value in
    let w = c.in-Allowed.witness in
    let v = c.in_ok-shared-in-Allowed.shared.value in
    let none : list_any (λ d. is_none d.decided) part ≡ false = c.requires.whole in
    let shown = subst (IsVerdict c.self.inside.judge c.in_ok-floor.floor) c.in-Allowed.is c.in_ok-verdict.ensures.ok in (
      refl,
      subst (λ (t : Test). IsShownBy t (filled part) v.witness) (c.self.invariant.0 ∙ ap (λ (q : Question). q.test) c.self.view_is)
          (leaf-shown c.self.inside.judge part c.in_ok-floor.floor w v none (c.in_ok-floor.ensures ∙ ap floor c.deref-2.ensures)
          c.in_ok-shared-in-Allowed.ensures.ok shown),
    )

pub invariant_of-self-in_err-new-in-Forbids : goal.invariant_of-self-in_err-new-in-Forbids
invariant_of-self-in_err-new-in-Forbids c = (c.in_ok-verdict.ensures.value ∙ c.self.invariant.0, c.self.invariant.1, c.self.invariant.2)

pub invariant_of-self-2 : goal.invariant_of-self-2
invariant_of-self-2 c = (c.in_ok-verdict.ensures.value ∙ c.self.invariant.0, c.self.invariant.1, c.self.invariant.2)
