use Rattle.std.proofs.Common.{Err, ap, map, string_bytes, subst, sym}
use Rattle.std.proofs.lemmas.Result.{IfErr-weaker, IfOk-weaker}
use Rattle.fs_app_place_and_order.proofs.Faults.{IfErr-handed}
use Rattle.fs_app_sites.specs.Sited.{AreSites}
use Rattle.fs_app_sites.proofs.PlaceFaults.{order-words}
use Rattle.fs_app_sites.proofs.Sites.{are-fences}
use Rattle.fs_app_sites.proofs.order.judge.Goals as goal

pub returns-in_err-kinds-clause-fault : goal.returns-in_err-kinds-clause-fault
returns-in_err-kinds-clause-fault c =
    IfErr-handed c.from_residual.result _ _ c.from_residual.ensures.1
    (λ is_free bytes sites. order-words is_free bytes _ _ _ _ _ _
    (subst (λ ns. AreSites is_free bytes c.args.test.now c.args.sites.now.places (map string_bytes ns)) (sym c.deref.ensures) sites)
    (λ e. c.in_err-kinds.ensures.bad_fence (ap (λ f. Err f) e)) c.in_err-kinds.ensures.err)

pub returns-clause-answer : goal.returns-clause-answer
returns-clause-answer c =
    IfOk-weaker c.judge_fenced.result _ _
    (λ output says is_free bytes sites. says is_free bytes _
    (are-fences string_bytes is_free bytes _ _ _ _ _ c.deref-2.ensures c.deref.ensures _ _ sites c.in_ok-kinds.ensures.ok))
    c.judge_fenced.ensures.answer

pub returns-clause-fault : goal.returns-clause-fault
returns-clause-fault c =
    IfErr-weaker c.judge_fenced.result _ _
    (λ f says is_free bytes sites. says is_free bytes _
    (are-fences string_bytes is_free bytes _ _ _ _ _ c.deref-2.ensures c.deref.ensures _ _ sites c.in_ok-kinds.ensures.ok))
    c.judge_fenced.ensures.fault
