use Rattle.std.proofs.Common.{◌≢◌, ◌∙◌, [], ap, arith, below_more, map, string_bytes, sym}
use Rattle.std.specs.Prelude.{slice_index_or}
use Rattle.fs_kinds.specs.declared.kind.Kind.{Kind}
use Rattle.fs_app_sites.specs.Sited.{site_word}
use Rattle.fs_app_sites.proofs.SiteWords.{not-here, of-site}
use Rattle.fs_app_sites.proofs.words.read_word.Goals as goal

pub returns-in-Some-clause-some : goal.returns-in-Some-clause-some
returns-in-Some-clause-some c =
    let said = c.in-Some.ensures.some ∙ ap (λ name. site_word name c.in-Some.kind) c.as_str.ensures.value in
    of-site string_bytes c.args.names.now c.loop-number.number c.index-names-number.result (omega arith) c.index-names-number.is
    c.args.word.now c.key.result c.in-Some.kind said c.key.ensures

pub loop-number-preserved : goal.loop-number-preserved
loop-number-preserved c =
    let word = c.args.word.now in
    let names = c.args.names.now in
    let never : (kind : Kind) → word ≢ site_word (string_bytes c.index-names-number.result) kind =
    λ kind e. c.in_default.ensures.none kind (e ∙ ap (λ name. site_word name kind) (sym c.as_str.ensures.value)) in
    below_more (λ n. (kind : Kind) → word ≢ site_word (slice_index_or (map string_bytes names) n []) kind) c.loop-number.number c.loop-number.invariant
    (not-here string_bytes names c.loop-number.number c.index-names-number.result (omega arith) c.index-names-number.is word never)
