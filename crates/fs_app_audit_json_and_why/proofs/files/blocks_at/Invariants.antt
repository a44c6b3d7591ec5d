use Rattle.fs_app_audit_json_and_why.specs.Files.{AreObjectBlocks}
use Rattle.fs_app_audit_json_and_why.proofs.files.blocks_at.Given as goal

-- those so far
abbrev pub invariant-loop-one : goal.invariant-loop-one
invariant-loop-one l = AreObjectBlocks l.is_anew l.prices l.blocks.items
