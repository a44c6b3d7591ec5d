use Rattle.std.proofs.Common.{refl}
use Rattle.std.proofs.lemmas.Result.{IfOk-weaker, IfErr-weaker}
use Rattle.fs_litmus.specs.Reads.{HasTokens}
use Rattle.fs_litmus_tokens.specs.Tokens.{views}
use Rattle.fs_app_states.proofs.Tokens.{tokens_of}
use Rattle.fs_app_states.proofs.places.columns.Goals as goal

pub returns-clause-ok : goal.returns-clause-ok
returns-clause-ok c =
    let has : HasTokens c.args.bytes.now (views c.deref.result.now) c.in_ok-tokens._closed =
    tokens_of c.args.bytes.now c.from.result.now c.in-Some.start c.in-Some.line c.in-Some.ensures.value c.from.ensures c.in_ok-tokens.tokens.items c.deref.result.now c.in_ok-tokens._closed c.deref.ensures.value c.in_ok-tokens.ensures.are in
    IfOk-weaker c.shown_columns.result _ _ (λ columns shown. (views c.deref.result.now, c.in_ok-tokens._closed, has, shown)) c.shown_columns.ensures.ok

pub returns-clause-err : goal.returns-clause-err
returns-clause-err c =
    let has : HasTokens c.args.bytes.now (views c.deref.result.now) c.in_ok-tokens._closed =
    tokens_of c.args.bytes.now c.from.result.now c.in-Some.start c.in-Some.line c.in-Some.ensures.value c.from.ensures c.in_ok-tokens.tokens.items c.deref.result.now c.in_ok-tokens._closed c.deref.ensures.value c.in_ok-tokens.ensures.are in
    IfErr-weaker c.shown_columns.result _ _ (λ f fault known. (views c.deref.result.now, c.in_ok-tokens._closed, has, fault known)) c.shown_columns.ensures.err

pub unreachable-requires : goal.unreachable-requires
unreachable-requires c =
    let has = c.requires.reads.has_form.has_tokens in
    absurd (c.in_default.ensures.absent refl has.body has.line has.has_body)
