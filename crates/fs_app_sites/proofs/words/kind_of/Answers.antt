use Rattle.std.proofs.Common.{Some, None, arith}
use Rattle.std.proofs.lemmas.Str.Pattern.{strip_prefix_char}
use Rattle.fs_app_sites.proofs.SiteWords.{behind, known, strip_prefix_text, unbegun, unknown}
use Rattle.fs_app_sites.proofs.words.kind_of.Goals as goal

pub returns-in_err-rest-clause-none : goal.returns-in_err-rest-clause-none
returns-in_err-rest-clause-none c =
    let name = c.args.name.now in
    let word = c.args.word.now in
    rw c.from_residual.ensures (unbegun name word (strip_prefix_text name word None c.in_err-rest.ensures.cases))

pub returns-in_err-kind-clause-none : goal.returns-in_err-kind-clause-none
returns-in_err-kind-clause-none c =
    let name = c.args.name.now in
    let word = c.args.word.now in
    let rest = c.in_ok-rest.rest.now in
    let begins = strip_prefix_text name word (Some c.in_ok-rest.rest) c.in_ok-rest.ensures.cases in
    let lacking = strip_prefix_char 61 rest None c.in_err-kind.ensures.cases (omega arith) in
    rw c.from_residual-in_err-kind.ensures (λ kind e. lacking _ (behind name word rest begins kind e))

pub returns-clause-some : goal.returns-clause-some
returns-clause-some c =
    let name = c.args.name.now in
    let word = c.args.word.now in
    let rest = c.in_ok-rest.rest.now in
    let begins = strip_prefix_text name word (Some c.in_ok-rest.rest) c.in_ok-rest.ensures.cases in
    let there = strip_prefix_char 61 rest (Some c.in_ok-kind.kind) c.in_ok-kind.ensures.cases (omega arith) in
    known name word rest c.in_ok-kind.kind.now begins there c.of.result c.of.ensures.named

pub returns-clause-none : goal.returns-clause-none
returns-clause-none c =
    let name = c.args.name.now in
    let word = c.args.word.now in
    let rest = c.in_ok-rest.rest.now in
    let begins = strip_prefix_text name word (Some c.in_ok-rest.rest) c.in_ok-rest.ensures.cases in
    let there = strip_prefix_char 61 rest (Some c.in_ok-kind.kind) c.in_ok-kind.ensures.cases (omega arith) in
    unknown name word rest c.in_ok-kind.kind.now begins there c.of.result c.of.ensures.none
