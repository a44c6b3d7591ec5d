use Rattle.std.proofs.Common.{◌≡◌, take, map}
use Rattle.std.specs.List.{enumerate_from}
use Rattle.fs_model_laws.specs.InPlace.{followed_code}
use Rattle.fs_app_audit_json_and_why.specs.Advised.{is_changed}
use Rattle.fs_app_audit_json_and_why.proofs.advised.advised_codes.Given as goal

-- the codes so far
abbrev pub invariant-loop-hart : goal.invariant-loop-hart
invariant-loop-hart l =
    l.made.items ≡ map (followed_code (is_changed l.test l.placement) l.placement) (take l.hart (enumerate_from 0 l.codes))
