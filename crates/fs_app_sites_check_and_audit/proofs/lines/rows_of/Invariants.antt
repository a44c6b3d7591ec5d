use Rattle.std.proofs.Common.{◌≡◌, drop, fold}
use Rattle.fs_app_sites_check_and_audit.specs.Lines.{rows_of, with_mark}
use Rattle.fs_app_sites_check_and_audit.proofs.lines.rows_of.Given as goal

-- with those of the copies that are left they are those of all
abbrev pub invariant-loop-mark : goal.invariant-loop-mark
invariant-loop-mark l = fold (with_mark l.site l.own) l.rows.items (drop l.mark-index l.marks) ≡ rows_of l.marks l.site l.own
