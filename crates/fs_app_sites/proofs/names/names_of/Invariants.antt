use Rattle.std.proofs.Common.{◌≡◌, map, drop, fold, string_bytes}
use Rattle.fs_app_sites.specs.Sites.{names_of, with_copies}
use Rattle.fs_app_sites.proofs.names.names_of.Given as goal

-- with the names of the files that are left they are those of all
abbrev pub invariant-loop-content : goal.invariant-loop-content
invariant-loop-content l =
    fold (λ names c. with_copies names c.copies) (map string_bytes l.names.items) (drop l.content-index l.contents) ≡ names_of l.contents
