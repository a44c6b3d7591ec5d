use Rattle.std.proofs.Common.{map, string_bytes, sym, subst}
use Rattle.std.specs.List.{AllByRecursion}
use Rattle.fs_kinds.specs.Slot.{IsSlot}
use Rattle.fs_cert_evidence.specs.Certificate.{Fenced}
use Rattle.fs_check_certificate.specs.Held.{test_in}
use Rattle.fs_check_certificate.proofs.Judged.{bad_answer, good_answer}
use Rattle.fs_check_certificate.proofs.Words.{small_slots}
use Rattle.fs_check_certificate.proofs.fenced.judge_fenced.Goals as goal

pub answered_placement-requires : goal.answered_placement-requires
answered_placement-requires c =
    subst (AllByRecursion IsSlot) (sym c.requires.slots) (small_slots (test_in c.args.held.now) c.requires.test)

pub returns-in_default-clause-ok : goal.returns-in_default-clause-ok
returns-in_default-clause-ok c said keeps holds is =
    let words = map string_bytes c.args.fences.now in
    bad_answer (test_in c.args.held.now) c.args.offers.now said c.args.cost words _ is c.in_default.is
    c.in_ok-placement.ensures.ok

pub returns-clause-ok : goal.returns-clause-ok
returns-clause-ok c said keeps holds is =
    let t = test_in c.args.held.now in
    let words = map string_bytes c.args.fences.now in
    let answer = Fenced c.args.cost words in
    let answered = good_answer c.args.offers.now said answer _ c.in-Some.placement is c.in-Some.is
    c.in_ok-placement.ensures.ok in
    c.judgement_of.ensures t c.args.offers.now said answered (c.in_ok-failure.ensures.ok said keeps holds)
