use Rattle.std.proofs.Common.{◌≡◌, ◌∙◌, refl, arith}
use Rattle.fs_cand_listing.specs.Ways.{product_of_lengths}
use Rattle.fs_cand_listing.specs.inner.Places.{runs_at}
use Rattle.fs_cand_listing.proofs.AllKept.{places_more}
use Rattle.fs_cand_listing.proofs.Capped.{capped_low}
use Rattle.fs_cand_listing.proofs.showing.places.Goals as goal

pub loop-number-preserved : goal.loop-number-preserved
loop-number-preserved c =
    places_more c.args.test.now c.args.lists.now c.loop-number.number c.loop-number.kept.items c.add_places.new.kept.items
    (runs_at c.args.lists.now c.loop-number.number) refl c.loop-number.invariant c.in_ok-add_places.ensures.ok

pub add_places-requires-clause-number : goal.add_places-requires-clause-number
add_places-requires-clause-number c =
    let lists = c.args.lists.now in
    let exact : c.count_choices-number-end.result ≡ product_of_lengths lists =
    c.count_choices-number-end.ensures.exact ∙ capped_low (product_of_lengths lists) c.requires.lists.few in
    omega (arith, exact, c.loop-number-test.true)
