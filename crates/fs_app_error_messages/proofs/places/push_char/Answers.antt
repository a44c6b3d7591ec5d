use Rattle.std.proofs.Common.{◌≡◌, ◌<◌, ◌++◌, ap, ◌∙◌, arith, string_bytes}
use Rattle.fs_app_error_messages.proofs.Showing.{pushed}
use Rattle.fs_app_error_messages.proofs.places.push_char.Goals as goal

pub returns : goal.returns
returns c = λ rest.
    let grown = c.in_ok-push.ensures.bytes ∙ ap (λ l. string_bytes c.args.text.now ++ l) (c.in_ok-push.ensures.ascii c.shown_char.ensures.ascii) in
    let none : c.args.cut ≡ 0 = omega (arith, c.if-cut-gt0.false) in
    let some : 0 < c.args.room = omega (arith, c.if-room-eq0.false) in
    pushed (string_bytes c.args.text.now) (string_bytes c.push.new.self) c.shown_char.result c.args.room c.args.cut _ rest grown c.shown_char.ensures.value none some
