use Rattle.std.proofs.Common.{map, refl, sym, subst}
use Rattle.fs_hart.specs.Steps.{steps_in}
use Rattle.fs_values.specs.AllRuns.{HaveFinal}
use Rattle.fs_cand_listing.specs.RawCandidates.{AreAllRuns}
use Rattle.fs_cand_listing.proofs.Composed.{all_of, final_of}
use Rattle.fs_cand_listing.proofs.candidates.check_over.Goals as goal

pub check_few-requires-clause-runs : goal.check_few-requires-clause-runs
check_few-requires-clause-runs c =
    let t = c.args.test.now in
    subst (λ ls. AreAllRuns t (map steps_in ls)) (sym c.deref.ensures.value)
    (all_of t t c.as_slice.result.now c.args.values.now c.in_ok-lists.lists.items refl c.as_slice.ensures c.requires.sets
    c.in_ok-lists.ensures.harts c.in_ok-lists.ensures.ok)

pub check_few-requires-clause-registers : goal.check_few-requires-clause-registers
check_few-requires-clause-registers c =
    let t = c.args.test.now in
    subst (HaveFinal t) (sym c.deref.ensures.value)
    (final_of t t c.as_slice.result.now c.in_ok-lists.lists.items refl c.in_ok-lists.ensures.ok)
