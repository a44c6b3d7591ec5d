use Rattle.std.proofs.Common.{◌≡◌, ◌∷◌, [], ◌∙◌, arith, ap, map, take, get_or}
use Rattle.std.proofs.lemmas.List.{take_more, map-append}
use Rattle.fs_model_laws.specs.InPlace.{emptied_code}
use Rattle.fs_app_audit.proofs.emptying.emptied_codes.Goals as goal

pub loop-code-preserved : goal.loop-code-preserved
loop-code-preserved c =
    let xs = c.args.codes.now in
    let i = c.loop-code.code-index in
    let item = c.code-item.result in
    let before = c.loop-code.invariant in
    let grown = c.in_ok-push.ensures.items in
    let own = c.in_ok-emptied_code.ensures in
    let slice = c.as_slice.ensures in
    let is = c.code-item.is in
    let more = ap (map emptied_code) (take_more xs i item (omega arith)) in
    let last = map-append emptied_code (take i xs) (get_or xs i item ∷ []) in
    let value : c.in_ok-emptied_code.field-0 ≡ emptied_code item = own ∙ ap emptied_code slice in
    let there = ap (λ y. emptied_code y) is in
    cc
