use Rattle.std.proofs.Common.{◌≡◌, take, string_bytes}
use Rattle.fs_app_audit_json_and_why.specs.Files.{objects_text}
use Rattle.fs_app_audit_json_and_why.proofs.files.objects_output.Given as goal

-- the objects so far
abbrev pub invariant-loop-block : goal.invariant-loop-block
invariant-loop-block l = string_bytes l.text ≡ objects_text (take l.block-index l.blocks)
