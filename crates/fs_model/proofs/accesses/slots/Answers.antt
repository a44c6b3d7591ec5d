use Rattle.std.proofs.Common.{◌++◌, get_or, flat_map, ap, ◌∙◌, arith}
use Rattle.fs_model.specs.Slots.{slots_in}
use Rattle.fs_model.proofs.Numbered.{numbered_flat, numbered_end}
use Rattle.fs_model.proofs.Rising.{rising-slots_from}
use Rattle.fs_model.proofs.accesses.slots.Goals as goal

pub loop-hart-preserved : goal.loop-hart-preserved
loop-hart-preserved c =
    let codes = c.args.test.now.codes in
    let found = c.loop-hart.found.items in
    numbered_flat (λ numbered. slots_in numbered.0 numbered.1) codes c.loop-hart.hart c.code-item.result found c.extend_from_slice.new.self.items
    (grind arith)
    (c.code-item.is ∙ ap (λ xs. get_or xs c.loop-hart.hart c.code-item.result) c.as_slice-code-items.ensures)
    (c.in_ok-extend_from_slice.ensures.items ∙ ap (λ more. found ++ more) (c.deref.ensures.value ∙ c.in_ok-here.ensures ∙ ap (slots_in c.loop-hart.hart) c.as_slice.ensures))
    c.loop-hart.invariant

pub returns-clause-ok : goal.returns-clause-ok
returns-clause-ok c =
    c.loop-hart.invariant ∙ ap (flat_map (λ numbered. slots_in numbered.0 numbered.1)) (numbered_end c.args.test.now.codes c.loop-hart.hart (grind arith))

pub returns-clause-rising : goal.returns-clause-rising
returns-clause-rising c =
    let here = c.loop-hart.invariant ∙ ap (flat_map (λ numbered. slots_in numbered.0 numbered.1)) (numbered_end c.args.test.now.codes c.loop-hart.hart (grind arith)) in
    rw here (rising-slots_from 0 c.args.test.now.codes)
