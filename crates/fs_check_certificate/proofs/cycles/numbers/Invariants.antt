use Rattle.std.proofs.Common.{◌≡◌, ◌++◌, option_map, drop}
use Rattle.fs_cand.specs.inner.NamedOrder.{numbers_of}
use Rattle.fs_check_certificate.specs.Cycles.{names_in, wanted}
use Rattle.fs_check_certificate.proofs.cycles.numbers.Given as goal

-- the numbers so far, and those of the names to come
abbrev pub invariant-loop-link : goal.invariant-loop-link
invariant-loop-link l =
    option_map (λ rest. l.found.items ++ rest) (numbers_of (names_in l.candidate) (wanted (drop l.link-index l.links))) ≡ numbers_of (names_in l.candidate) (wanted l.links)
