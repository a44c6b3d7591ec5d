use Rattle.std.proofs.Common.{subst, sym, refl, arith}
use Rattle.fs_litmus_tokens.specs.Tokens.{views}
use Rattle.fs_app_error_messages.specs.Points.{IsPoint, token, finish}
use Rattle.fs_app_error_messages.specs.declared.point.Point.TheVariants.{Byte}
use Rattle.fs_app_error_messages.proofs.Aims.{no_place_in_line, fault_of_these}
use Rattle.fs_app_error_messages.proofs.Pointing.{fault_of, token_at, tokens_of, within_text, past_tokens}
use Rattle.fs_app_error_messages.proofs.point.text_point.Goals as goal

pub returns-then-number-len : goal.returns-then-number-len
returns-then-number-len c =
    let fault = rw c.in-Some.is at c.in_ok-number.ensures.found in
    let of = fault_of c.args.bytes.now c.from-text.result.now c.args.start c.args.line c.requires.body c.from-text.ensures c.in_ok-tokens.tokens.items c.deref.result.now c.in_ok-tokens.closed c.args.fault c.in-Some.number c.deref.ensures.value c.in_ok-tokens.ensures.are c.requires.aim fault in
    let past = past_tokens c.args.bytes.now c.from-text.result.now c.args.start c.args.line c.requires.body c.from-text.ensures c.in_ok-tokens.tokens.items c.deref.result.now c.in_ok-tokens.closed c.in-Some.number c.deref.ensures.value c.in_ok-tokens.ensures.are (omega (arith, c.if-number-len.true, c.len.ensures)) in
    subst (λ n. IsPoint c.args.bytes.now c.args.fault (Byte n)) (sym c.end_of.ensures.value) (finish of past)

pub overflow_add-result : goal.overflow_add-result
overflow_add-result c = omega (arith, c.in-Some-token_start.ensures.within, within_text c.args.bytes.now c.from-text.result.now c.args.start c.from-text.ensures c.requires.within)

pub returns-in-Some-token_start : goal.returns-in-Some-token_start
returns-in-Some-token_start c =
    let fault = rw c.in-Some.is at c.in_ok-number.ensures.found in
    let of = fault_of c.args.bytes.now c.from-text.result.now c.args.start c.args.line c.requires.body c.from-text.ensures c.in_ok-tokens.tokens.items c.deref.result.now c.in_ok-tokens.closed c.args.fault c.in-Some.number c.deref.ensures.value c.in_ok-tokens.ensures.are c.requires.aim fault in
    token of (token_at c.args.bytes.now c.from-text.result.now c.args.start c.args.line c.requires.body c.from-text.ensures c.in-Some.number c.in-Some-token_start.at c.in-Some-token_start.ensures.begins)

pub returns-in_default : goal.returns-in_default
returns-in_default c =
    let absent = rw c.in_default.is at c.in_ok-number.ensures.absent in
    let all = tokens_of c.args.bytes.now c.from-text.result.now c.args.start c.args.line c.requires.body c.from-text.ensures c.in_ok-tokens.tokens.items c.deref.result.now c.in_ok-tokens.closed c.deref.ensures.value c.in_ok-tokens.ensures.are in
    no_place_in_line c.args.bytes.now c.args.fault c.requires.aim (λ n. fault_of_these c.args.bytes.now (views c.deref.result.now) c.in_ok-tokens.closed c.args.fault n all (absent refl n))
