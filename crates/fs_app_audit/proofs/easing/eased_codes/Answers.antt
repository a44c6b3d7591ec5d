use Rattle.std.proofs.Common.{◌≡◌, ◌∷◌, [], ◌∙◌, arith, ap, map, take, get_or}
use Rattle.std.proofs.lemmas.List.{take_more, map-append}
use Rattle.fs_app_audit.specs.Unfenced.{eased_code}
use Rattle.fs_app_audit.proofs.easing.eased_codes.Goals as goal

pub loop-code-preserved : goal.loop-code-preserved
loop-code-preserved c =
    let xs = c.args.codes.now in
    let i = c.loop-code.code-index in
    let item = c.code-item.result in
    let before = c.loop-code.invariant in
    let grown = c.in_ok-push.ensures.items in
    let own = c.in_ok-eased_code.ensures in
    let slice = c.as_slice.ensures in
    let is = c.code-item.is in
    let more = ap (map eased_code) (take_more xs i item (omega arith)) in
    let last = map-append eased_code (take i xs) (get_or xs i item ∷ []) in
    let value : c.in_ok-eased_code.field-0 ≡ eased_code item = own ∙ ap eased_code slice in
    let there = ap (λ y. eased_code y) is in
    cc
