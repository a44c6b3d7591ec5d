use Rattle.std.proofs.Common.{◌≡◌, ℕ, ◌++◌, ◌∷◌, [], map, codes, decimal, string_bytes, ap, ◌∙◌, arith, zero-add}
use Rattle.std.specs.List.{range_with_len}
use Rattle.std.proofs.lemmas.List.{map-append}
use Rattle.std.proofs.lemmas.List.FromFn.{map-range_with_len_more}
use Rattle.fs_model.specs.Printed.{joined}
use Rattle.fs_model.proofs.Texts.{joined-map}
use Rattle.fs_model.proofs.columns.header.Goals as goal

pub loop-hart-preserved : goal.loop-hart-preserved
loop-hart-preserved c =
    let grown = ap (map string_bytes) c.in_ok-push.ensures.items ∙ map-append string_bytes c.loop-hart.names.items (c.in_ok-format.field-0 ∷ []) in
    let wanted = map-range_with_len_more (λ hart. codes "P" ++ decimal hart) 0 c.loop-hart.hart-counter c.loop-hart.hart-counter (zero-add c.loop-hart.hart-counter) in
    let name = c.in_ok-format.ensures.ok in
    let before = c.loop-hart.invariant in
    cc

pub returns : goal.returns
returns c =
    let harts : c.loop-hart.hart-counter ≡ c.args.harts = omega arith in
    let name = λ (hart : ℕ). codes "P" ++ decimal hart in
    let names = c.loop-hart.invariant ∙ ap (λ n. map name (range_with_len 0 n)) harts in
    let separator = codes " | " in
    c.in_ok-push_str.ensures.bytes
    ∙ ap (λ line. line ++ codes " ;")
    (c.in_ok-line.ensures.ok ∙ joined-map string_bytes separator c.deref.result.now ∙ ap (λ v. joined separator (map string_bytes v)) c.deref.ensures.value ∙ ap (joined separator) names)
