use Rattle.std.proofs.Common.{◌∙◌, arith, ap, flat_map, map, string_bytes}
use Rattle.fs_model.proofs.Numbered.{numbered_end, numbered_flat}
use Rattle.fs_app_sites_check_and_audit.specs.Marks.{file_marks}
use Rattle.fs_app_sites_check_and_audit.proofs.marks.marks_of.Goals as goal

pub loop-file-preserved : goal.loop-file-preserved
loop-file-preserved c =
    numbered_flat (file_marks (map string_bytes c.args.names.now)) c.args.held.now c.loop-file.file c.index-held-file.result
    c.loop-file.marks.items _ (omega arith) c.index-held-file.is c.in_ok-push_file.ensures c.loop-file.invariant

pub returns : goal.returns
returns c =
    c.loop-file.invariant
    ∙ ap (flat_map (file_marks (map string_bytes c.args.names.now))) (numbered_end c.args.held.now c.loop-file.file (omega arith))
