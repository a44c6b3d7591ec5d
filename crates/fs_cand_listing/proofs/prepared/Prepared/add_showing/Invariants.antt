use Rattle.std.proofs.Common.{◌≡◌, ◌*◌, ◌++◌, map}
use Rattle.fs_cand_listing.specs.Ways.{product_by}
use Rattle.fs_cand_listing.specs.inner.Listed.{number_of_orders}
use Rattle.fs_cand_listing.specs.inner.Places.{place, showing_from}
use Rattle.fs_cand_listing.proofs.prepared.Prepared.add_showing.Given as goal

-- the numbers so far
abbrev pub invariant-loop-first : goal.invariant-loop-first
invariant-loop-first l =
    l.kept.items ≡ l.initial.kept.items ++ map (place l.runs) (showing_from l.test l.self.traces 0
    (l.first * product_by number_of_orders l.self.choices.stores.items))
