use Rattle.std.proofs.Common.{List, ◌++◌, take}
use Rattle.std.specs.List.{AllZip}
use Rattle.fs_cert_evidence.specs.Certificate.{Link as LinkValue}
use Rattle.fs_cert.specs.inner.Copies.{IsCopiedLink}
use Rattle.fs_cert.proofs.cycles.add_links.Given as goal

-- those so far are copied, after what was there
abbrev pub invariant-loop-link : goal.invariant-loop-link
invariant-loop-link l = (before : List LinkValue) → AllZip IsCopiedLink l.initial.copy.items before
    → AllZip IsCopiedLink l.copy.items (before ++ take l.link-index l.links)
