use Rattle.std.proofs.Common.{◌≡◌, ◌++◌, map, drop, string_bytes}
use Rattle.std.specs.List.{enumerate_from}
use Rattle.serde_json.specs.View.{view}
use Rattle.fs_app_sites.specs.Sites.{offer_of, offers_of}
use Rattle.fs_app_sites.proofs.question.offer_list.Given as goal

-- with the offers at the sites that are left they are those at all
abbrev pub invariant-loop-number : goal.invariant-loop-number
invariant-loop-number l =
    l.offers.items ++ map (offer_of (view l.prices)) (enumerate_from l.number (map string_bytes (drop l.number l.names)))
    ≡ offers_of (view l.prices) (map string_bytes l.names)
