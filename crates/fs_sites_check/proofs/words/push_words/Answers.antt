use Rattle.std.proofs.Common.{drop, string_bytes}
use Rattle.fs_sites_check.proofs.SiteWords.{all-words}
use Rattle.fs_sites_check.proofs.words.push_words.Goals as goal

pub returns-in-None : goal.returns-in-None
returns-in-None c =
    all-words string_bytes (drop c.loop-entry.entry-index c.args.entries.now) c.loop-entry.names.now _ _ c.in-None.ensures.cases
    c.loop-entry.invariant
