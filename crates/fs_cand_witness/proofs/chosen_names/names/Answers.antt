use Rattle.std.proofs.Common.{sym, ◌∙◌, ap, get_or}
use Rattle.std.proofs.lemmas.List.{get_or_default}
use Rattle.fs_cand_witness.specs.Naming.{name_at}
use Rattle.fs_cand_witness.proofs.Listing.{given, passed}
use Rattle.fs_cand_witness.proofs.chosen_names.names.Goals.{in-Some+in_ok-push, in_default}
use Rattle.fs_cand_witness.proofs.chosen_names.names.Goals as goal

pub loop-number-preserved : goal.loop-number-preserved
loop-number-preserved c =
    let numbers = c.args.numbers.now in
    let i = c.loop-number.number-index in
    let low = c.loop-number-test.true in
    let number = get_or numbers i 0 in
    elim c.match-operation_name.branch [
      | in-Some+in_ok-push w ↦ rw w.names-is (given (name_at c.args.candidate.now) numbers i number low (get_or_default numbers i 0 number low)
          w.in-Some.name c.loop-number.names.items _ (ap (name_at c.args.candidate.now) (sym c.from.ensures) ∙ sym c.operation_name.ensures.read ∙ w.in-Some.is) c.loop-number.invariant w.in_ok-push.ensures.items)
      | in_default w ↦ rw w.names-is (passed (name_at c.args.candidate.now) numbers i number low (get_or_default numbers i 0 number low)
          c.loop-number.names.items (ap (name_at c.args.candidate.now) (sym c.from.ensures) ∙ sym c.operation_name.ensures.read ∙ w.in_default.is) c.loop-number.invariant)
    ]
