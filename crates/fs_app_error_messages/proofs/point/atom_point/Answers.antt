use Rattle.std.proofs.Common.{subst, refl}
use Rattle.fs_litmus_tokens.specs.Tokens.{views}
use Rattle.fs_litmus.specs.Reads.{HasTokens}
use Rattle.fs_app_error_messages.specs.Atoms.{IsBadAtomOf}
use Rattle.fs_app_error_messages.specs.Points.{atom}
use Rattle.fs_app_error_messages.proofs.Aims.{atom_of_these, open_atom}
use Rattle.fs_app_error_messages.proofs.Pointing.{tokens_of, token_at}
use Rattle.fs_app_error_messages.proofs.point.atom_point.Goals as goal

pub returns-in-Some-token_start : goal.returns-in-Some-token_start
returns-in-Some-token_start c =
    let found = rw c.in-Some.is at c.in_ok-number.ensures.found in
    let all = tokens_of c.args.bytes.now c.from-text.result.now c.args.start c.args.line c.requires.body c.from-text.ensures c.in_ok-tokens.tokens.items c.deref.result.now c.in_ok-tokens.closed c.deref.ensures.value c.in_ok-tokens.ensures.are in
    let whole = subst (λ b. HasTokens c.args.bytes.now (views c.deref.result.now) b) c.if-not-closed.false all in
    let of : IsBadAtomOf c.args.bytes.now c.in-Some.number = record { tokens = views c.deref.result.now; has_tokens = whole; is_bad_atom = found } in
    atom of (token_at c.args.bytes.now c.from-text.result.now c.args.start c.args.line c.requires.body c.from-text.ensures c.in-Some.number c.in-Some-token_start.at c.in-Some-token_start.ensures.begins)

pub returns-then-not-closed : goal.returns-then-not-closed
returns-then-not-closed c =
    let all = tokens_of c.args.bytes.now c.from-text.result.now c.args.start c.args.line c.requires.body c.from-text.ensures c.in_ok-tokens.tokens.items c.in_ok-tokens.tokens.items c.in_ok-tokens.closed refl c.in_ok-tokens.ensures.are in
    let left_open = subst (λ b. HasTokens c.args.bytes.now (views c.in_ok-tokens.tokens.items) b) c.if-not-closed.true all in
    open_atom c.args.bytes.now (views c.in_ok-tokens.tokens.items) left_open

pub returns-in_default : goal.returns-in_default
returns-in_default c =
    let absent = rw c.in_default.is at c.in_ok-number.ensures.absent in
    let all = tokens_of c.args.bytes.now c.from-text.result.now c.args.start c.args.line c.requires.body c.from-text.ensures c.in_ok-tokens.tokens.items c.deref.result.now c.in_ok-tokens.closed c.deref.ensures.value c.in_ok-tokens.ensures.are in
    atom_of_these c.args.bytes.now (views c.deref.result.now) c.in_ok-tokens.closed all (absent refl)
