use Rattle.std.proofs.Common.{◌≡◌, ◌%◌, ◌∙◌, ◌<◌, true, refl, sym, arith, ap, subst}
use Rattle.std.proofs.Crossing.{crosses}
use denote.Param.Send.{sendable}
use Rattle.std.specs.Prelude.{Ok, IfOk}
use Rattle.std.specs.List.{slice_index_or}
use Rattle.std.proofs.lemmas.Nat.{mod_below}
use Rattle.fs_region_refutation.specs.Subtrees.{AreRefutedInTurn}
use Rattle.fs_pool_workers.proofs.Crosses.{subtrees_sync}
use Rattle.fs_pool_workers.proofs.hunters.HuntersTeam.check.Goals as goal

pub map_indices-requires-sync-F : goal.map_indices-requires-sync-F
map_indices-requires-sync-F g c κs within = search (subtrees_sync, crosses, sendable) depth 40 fits 100000

pub returns : goal.returns
returns g c are k d low =
    let n = c.lookers-lookers.result in
    let w = k % n in
    let some = c.lookers-lookers.ensures in
    let small : w < n = mod_below k n (omega (arith, some)) in
    let value = c.deref.ensures.value in
    let len = c.deref.ensures.len in
    let long = c.in_ok-found.ensures.len in
    let here : slice_index_or c.in_ok-found.found.items w (Ok true) ≡ Ok true =
    ap (λ xs. slice_index_or xs w (Ok true)) (sym value)
    ∙ c.in_ok-are_refuted.ensures are w (Ok true) (omega (arith, small, len, long)) in
    let turn =
    subst (λ found. IfOk found (λ each. each ≡ true → AreRefutedInTurn n w c.args.subtrees.now)) here
    (c.in_ok-found.ensures.each w (Ok true) small).1.met in
    turn refl k d low refl
