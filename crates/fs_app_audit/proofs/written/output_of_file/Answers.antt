use Rattle.std.proofs.Common.{rules}
use Rattle.fs_app_place_and_order.proofs.Faults.{IfErr-handed}
use Rattle.std.specs.Arc.{arc_value}
use Rattle.fs_app_test.specs.declared.said.Kind.TheVariants.{Forbidden}
use Rattle.fs_app_audit.specs.Audit.{of_anew, of_file}
use Rattle.fs_app_audit.specs.declared.asked.Purpose.TheVariants.{Write}
use Rattle.fs_app_audit.proofs.Answered.{fault-in-place, forbidden}
use Rattle.fs_app_audit.proofs.FirstFaults.{audit-memory}
use Rattle.fs_app_audit.proofs.written.output_of_file.Goals as goal

pub find_in_place-requires-clause-forbidden : goal.find_in_place-requires-clause-forbidden
find_in_place-requires-clause-forbidden c = forbidden _ _ _ c.requires.tested.2

pub returns-in_err-in_place-clause-fault : goal.returns-in_err-in_place-clause-fault
returns-in_err-in_place-clause-fault c =
    IfErr-handed c.from_residual.result _ _ c.from_residual.ensures.1
    (λ file priced. fault-in-place Write c.args.bytes.now file c.args.limits.nodes c.args.prices.now priced c.args.own.now c.requires.reads
    (Forbidden, c.requires.tested.0, c.requires.tested.1, c.requires.tested.2) c.in_err-in_place.field-0.0 c.in_err-in_place.ensures.fault)

pub returns-in_err-text-clause-fault : goal.returns-in_err-text-clause-fault
returns-in_err-text-clause-fault c =
    IfErr-handed c.from_residual-in_err-text.result _ _ c.from_residual-in_err-text.ensures.1
    (λ file priced. of_anew (audit-memory Write _ file c.args.limits.nodes _ c.in_err-text.ensures.err))

pub returns-clause-answer : goal.returns-clause-answer
returns-clause-answer c = λ file priced.
    of_file (record {
      own = c.args.own.now;
      reads = c.requires.reads;
      table = c.args.prices.now;
      priced = priced;
      forbidden = forbidden _ _ _ c.requires.tested.2;
      empty = arc_value c.in_ok-in_place.in_place.empty;
      same = c.in_ok-in_place.ensures.same;
      advised = c.in_ok-in_place.in_place.advised;
      cheapest = c.in_ok-in_place.ensures.cheapest;
      shown = rw c.in-Some.is at c.in_ok-text.ensures.text;
      ends = search rules;
    })
