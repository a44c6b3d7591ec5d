use Rattle.std.specs.Arc.{arc_value}
use Rattle.std.proofs.lemmas.Result.{IfErr-weaker, IfOk-weaker}
use Rattle.fs_app_place_and_order.proofs.Faults.{IfErr-handed}
use Rattle.fs_app_test.specs.declared.said.Kind.TheVariants.{Forbidden}
use Rattle.fs_app_audit.specs.declared.asked.Purpose.TheVariants.{Advise}
use Rattle.fs_app_audit.proofs.Answered.{fault-in-place, forbidden}
use Rattle.fs_app_audit_json_and_why.specs.Why.{AreAdvised, of_audit}
use Rattle.fs_app_audit_json_and_why.proofs.AnsweredWhy.{why-advised}
use Rattle.fs_app_audit_json_and_why.proofs.why.in_place_text.Goals as goal

pub find_in_place-requires-clause-forbidden : goal.find_in_place-requires-clause-forbidden
find_in_place-requires-clause-forbidden c = forbidden _ _ _ c.requires.tested.2

pub returns-in_err-found-clause-fault : goal.returns-in_err-found-clause-fault
returns-in_err-found-clause-fault c =
    IfErr-handed c.from_residual.result _ _ c.from_residual.ensures.1
    (λ file priced. of_audit (fault-in-place Advise c.args.page.bytes.now file c.args.limits.nodes c.args.prices.now priced c.args.page.test.now
    c.requires.reads (Forbidden, c.requires.tested.0, c.requires.tested.1, c.requires.tested.2) c.in_err-found.field-0.0 c.in_err-found.ensures.fault))

pub advised_text-requires-clause-advised : goal.advised_text-requires-clause-advised
advised_text-requires-clause-advised c = (
  c.args.prices.now,
  record {
    empty = arc_value c.in_ok-found.found.empty;
    same = c.in_ok-found.ensures.same;
    cheapest = c.in_ok-found.ensures.cheapest;
  },
)

pub returns-clause-told : goal.returns-clause-told
returns-clause-told c =
    let are : AreAdvised c.args.page.test.now c.args.prices.now c.in_ok-found.found.advised =
    record {
      empty = arc_value c.in_ok-found.found.empty;
      same = c.in_ok-found.ensures.same;
      cheapest = c.in_ok-found.ensures.cheapest;
    } in
    IfOk-weaker c.advised_text.result _ _ (λ text told. (c.in_ok-found.found.advised, are, told)) c.advised_text.ensures.told

pub returns-clause-fault : goal.returns-clause-fault
returns-clause-fault c =
    let are : AreAdvised c.args.page.test.now c.args.prices.now c.in_ok-found.found.advised =
    record {
      empty = arc_value c.in_ok-found.found.empty;
      same = c.in_ok-found.ensures.same;
      cheapest = c.in_ok-found.ensures.cheapest;
    } in
    IfErr-weaker c.advised_text.result _ _
    (λ fault met file priced. why-advised c.args.page.bytes.now file c.args.limits.nodes c.args.prices.now c.args.page.test.now
    c.in_ok-found.found.advised fault priced c.requires.reads are met)
    c.advised_text.ensures.err
