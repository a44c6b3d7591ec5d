use Rattle.std.proofs.Common.{rules, ◌≡◌, ◌∙◌, ap, sym, List, map}
use Rattle.std.specs.List.{filter}
use Rattle.std.specs.Map.Iter.{deref_pair}
use Rattle.std.proofs.lemmas.Simd.{map-map}
use Rattle.std.proofs.lemmas.Map.Iter.{iter_end}
use Rattle.fs_app_states.specs.Compared.{is_lacking}
use Rattle.fs_app_states.specs.Tallies.{Counted, entries_of}
use Rattle.fs_app_states.proofs.Tallying.{Entry, view}
use Rattle.fs_app_states.proofs.finding.forbidden.Goals as goal

-- src/finding.rt:36:1
pub returns : goal.returns
returns c =
    let all : map deref_pair c.loop-words.yielded ≡ c.args.seen.now.entries = search (rules, iter_end) in
    c.loop-words.invariant
    ∙ ap (λ (es : List Counted). filter (λ row. is_lacking (entries_of c.args.allowed.now) row.0) es)
    (sym (map-map view deref_pair c.loop-words.yielded) ∙ ap (λ (es : List Entry). map view es) all)
