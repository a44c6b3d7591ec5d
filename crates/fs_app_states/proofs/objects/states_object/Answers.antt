use Rattle.std.proofs.Common.{◌≡◌, false, sym, subst}
use Rattle.serde_json.specs.Written.{has_float}
use Rattle.fs_app_states.proofs.Whole.{states_whole}
use Rattle.fs_app_states.proofs.objects.states_object.Goals as goal

pub json_line-requires : goal.json_line-requires
json_line-requires c =
    subst (λ d. has_float d ≡ false) (sym c.in_ok-value.ensures.ok)
    (states_whole c.args.test.now c.args.placement.now c.args.columns.now c.args.witnesses c.args.states.now)
