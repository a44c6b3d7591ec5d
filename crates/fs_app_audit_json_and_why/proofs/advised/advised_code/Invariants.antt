use Rattle.std.proofs.Common.{◌≡◌, take, map}
use Rattle.std.specs.List.{enumerate_from}
use Rattle.fs_model_laws.specs.InPlace.{followed_instr}
use Rattle.fs_app_audit_json_and_why.specs.Advised.{is_changed}
use Rattle.fs_app_audit_json_and_why.proofs.advised.advised_code.Given as goal

-- the instructions so far
abbrev pub invariant-loop-at : goal.invariant-loop-at
invariant-loop-at l =
    l.made.items ≡ map (followed_instr (is_changed l.test l.placement) l.placement l.hart) (take l.at (enumerate_from 0 l.code))
