use Rattle.std.proofs.Common.{◌++◌, ◌∙◌, arith, ap, flat_map}
use Rattle.fs_kinds.specs.Slot.{is_rising}
use Rattle.fs_model.proofs.Numbered.{numbered_end, numbered_flat}
use Rattle.fs_model_laws.specs.InPlace.{places_in}
use Rattle.fs_model_laws.proofs.WrittenPlaces.{rising-places}
use Rattle.fs_app_audit.proofs.places.places.Goals as goal

pub loop-hart-preserved : goal.loop-hart-preserved
loop-hart-preserved c =
    let found = c.loop-hart.found.items in
    numbered_flat (λ numbered. places_in numbered.0 numbered.1) c.args.codes.now c.loop-hart.hart c.index-codes-hart.result
    found _ (omega arith) c.index-codes-hart.is
    (c.in_ok-extend_from_slice.ensures.items
    ∙ ap (λ more. found ++ more) (c.deref.ensures.value ∙ c.in_ok-here.ensures ∙ ap (places_in c.loop-hart.hart) c.as_slice.ensures))
    c.loop-hart.invariant

pub returns-clause-value : goal.returns-clause-value
returns-clause-value c =
    c.loop-hart.invariant
    ∙ ap (flat_map (λ numbered. places_in numbered.0 numbered.1)) (numbered_end c.args.codes.now c.loop-hart.hart (omega arith))

pub returns-clause-rising : goal.returns-clause-rising
returns-clause-rising c =
    let here = c.loop-hart.invariant
    ∙ ap (flat_map (λ numbered. places_in numbered.0 numbered.1)) (numbered_end c.args.codes.now c.loop-hart.hart (omega arith)) in
    ap is_rising here ∙ rising-places c.args.codes.now
