use Rattle.std.proofs.Common.{refl, sym, subst, arith, drop}
use Rattle.fs_litmus.specs.Title.{HasBody}
use Rattle.fs_litmus.proofs.Tops.{body_ends, end_at, end_within}
use Rattle.fs_app_error_messages.proofs.title.body_start.Goals as goal

pub returns-clause-value : goal.returns-clause-value
returns-clause-value c =
    let bytes = c.args.bytes.now in
    let body = c.in_ok-body.body in
    let is_end = body_ends bytes body.text.now body.line c.in_ok-body.ensures.value in
    let there = subst (λ l. HasBody bytes l body.line) (end_at bytes body.text.now body.line is_end) c.in_ok-body.ensures.value in
    subst (λ n. HasBody bytes (drop n bytes) body.line) (sym c.start_of.ensures) there

pub returns-clause-within : goal.returns-clause-within
returns-clause-within c = omega (arith, c.start_of.ensures)

pub returns-clause-few : goal.returns-clause-few
returns-clause-few c =
    let bytes = c.args.bytes.now in
    let body = c.in_ok-body.body in
    let is_end = body_ends bytes body.text.now body.line c.in_ok-body.ensures.value in
    omega (arith, c.start_of.ensures, (end_within bytes body.text.now body.line is_end).1)

pub returns-in_err-body-clause-absent : goal.returns-in_err-body-clause-absent
returns-in_err-body-clause-absent c = λ _. c.in_err-body.ensures.absent refl
