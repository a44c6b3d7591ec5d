use Rattle.std.proofs.Common.{◌≡◌, true, false, ◌∙◌, sym, arith}
use Rattle.fs_check_certificate.proofs.Judged.{bad_none, none_valid, none_refused}
use Rattle.fs_check_certificate.proofs.unforbidden.judge_none.Goals as goal

pub returns-then-not-is_bare-clause-ok : goal.returns-then-not-is_bare-clause-ok
returns-then-not-is_bare-clause-ok c said offers keeps is =
    let unlike : c.is_bare.result ≡ false = grind (arith, c.if-not-is_bare.true) in
    bad_none offers c.args.certificate.now said keeps is (sym c.is_bare.ensures ∙ unlike)

pub returns-then-is_shown-clause-ok : goal.returns-then-is_shown-clause-ok
returns-then-is_shown-clause-ok c said offers keeps is =
    let alike : c.is_bare.result ≡ true = grind (arith, c.if-not-is_bare.false) in
    none_valid c.args.test.now c.args.certificate.now said keeps is (sym c.is_bare.ensures ∙ alike)
    c.in_ok-is_shown.is_shown c.if-is_shown.true (c.in_ok-is_shown.ensures.ok said keeps)

pub returns-else-is_shown-clause-ok : goal.returns-else-is_shown-clause-ok
returns-else-is_shown-clause-ok c said offers keeps is =
    let alike : c.is_bare.result ≡ true = grind (arith, c.if-not-is_bare.false) in
    none_refused c.args.test.now offers c.args.certificate.now said keeps is (sym c.is_bare.ensures ∙ alike)
    c.in_ok-is_shown.is_shown c.if-is_shown.false (c.in_ok-is_shown.ensures.ok said keeps)
