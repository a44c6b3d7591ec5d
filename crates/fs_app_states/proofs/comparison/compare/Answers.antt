use Rattle.std.proofs.Common.{◌≡◌, ◌∙◌, ap, sym, subst, None, map, string_bytes}
use Rattle.std.specs.Arc.{arc_value}
use Rattle.fs_model.specs.Slots.{slots}
use Rattle.fs_model.specs.declared.test.Test.{Test}
use Rattle.fs_app_place_and_order.proofs.Placements.{slots_of-IsPlaced}
use Rattle.fs_app_states.specs.Compared.{states_seen, is_in_log, IsComparedTo, IsCompared}
use Rattle.fs_app_states.proofs.Results.{IfOk-both}
use Rattle.fs_app_states.proofs.comparison.compare.Goals as goal

pub compare_test-requires-clause-placement : goal.compare_test-requires-clause-placement
compare_test-requires-clause-placement c =
    slots_of-IsPlaced None (slots c.in_ok-test.test) (map string_bytes c.args.fences.now) c.in_ok-placement.placement c.in_ok-placement.ensures.ok
    ∙ ap slots (sym c.in_ok-test-2.ensures.ok)

pub returns : goal.returns
returns c =
    let t = c.in_ok-test.test in
    let shared = arc_value c.in_ok-test-2.test in
    let p = c.in_ok-placement.placement in
    let is : shared ≡ t = c.in_ok-test-2.ensures.ok in
    let log_is = c.as_slice.ensures in
    IfOk-both c.compare_test.result (λ made. string_bytes made.name ≡ shared.name)
    (λ made. IsComparedTo (is_in_log c.as_slice.result.now shared.name) shared p (states_seen c.as_slice.result.now shared.name) (string_bytes made.text) made.status)
    (λ made. IsCompared c.args.log.now c.args.bytes.now (map string_bytes c.args.fences.now) (string_bytes made.name) (string_bytes made.text) made.status)
    (λ made name said. record {
      the_test = t;
      reads = c.in_ok-test.ensures.ok;
      placement = p;
      placed = c.in_ok-placement.ensures.ok;
      the_name = name ∙ ap (λ (u : Test). u.name) is;
      said =
          subst (λ (u : Test). IsComparedTo (is_in_log c.args.log.now u.name) u p (states_seen c.args.log.now u.name) (string_bytes made.text) made.status) is
          (subst (λ log. IsComparedTo (is_in_log log shared.name) shared p (states_seen log shared.name) (string_bytes made.text) made.status) log_is said);
    })
    c.compare_test.ensures.name c.compare_test.ensures.said
