use Rattle.std.proofs.Common.{◌≡◌, ◌++◌, ◌∷◌, [], true, take, drop}
use Rattle.std.specs.List.{list_all, zip}
use Rattle.fs_cert_evidence.specs.Musts.{must}
use Rattle.fs_region_refutation.specs.Views.{region_of}
use Rattle.fs_region_refutation.proofs.walk.is_chain.Given as goal

abbrev pub invariant-loop-number : goal.invariant-loop-number
invariant-loop-number l =
    list_all (λ pair. must l.basis (region_of l.region) l.placement pair.0.cause pair.0.operation pair.1.operation)
    (take l.number (zip l.links (drop 1 l.links ++ l.last ∷ []))) ≡ true
