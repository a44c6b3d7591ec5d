use Rattle.std.proofs.Common.{◌≡◌, IfOk, true, subst}
use Rattle.std.proofs.lemmas.Result.{IfOk-weaker}
use Rattle.fs_kinds.specs.Placement.{slots_of}
use Rattle.fs_kinds.specs.PriceTable.{are_offered}
use Rattle.fs_model.specs.Slots.{slots}
use Rattle.fs_app_audit.specs.Priced.{Priced}
use Rattle.fs_app_audit.specs.Audit.{written_fences}
use Rattle.fs_app_audit.proofs.Taken.{offered-own, slots-own}
use Rattle.fs_app_audit.proofs.findings.own_fences.Goals as goal

pub returns-clause-slots : goal.returns-clause-slots
returns-clause-slots c =
    subst (λ (q : Priced). IfOk c.written_placement.result (λ x. slots_of x.0 ≡ slots q.test)) c.deref.ensures
    (IfOk-weaker c.written_placement.result _ _ (λ x is. slots-own c.deref.result.now.prices c.deref.result.now.test x.0 (written_fences c.args.codes.now) is) c.written_placement.ensures.taken)

pub returns-clause-offered : goal.returns-clause-offered
returns-clause-offered c =
    subst (λ (q : Priced). IfOk c.written_placement.result (λ x. are_offered q.prices x.0 ≡ true)) c.deref.ensures
    (IfOk-weaker c.written_placement.result _ _ (λ x is. offered-own c.deref.result.now.prices c.deref.result.now.test x.0 (written_fences c.args.codes.now) is) c.written_placement.ensures.taken)
