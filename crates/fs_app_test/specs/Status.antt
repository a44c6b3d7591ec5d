-- The exit status of `test`.
use Rattle.std.specs.Prelude.{Bool, not, Option, Some, List, if◌then◌else◌}
use Rattle.std.specs.List.{list_any}
use Rattle.fs_app_io.specs.declared.status.Status.{Status}
use Rattle.fs_app_io.specs.declared.status.Status.TheVariants as status
use Rattle.fs_app_test.specs.declared.said.Kind.{Kind}
use Rattle.fs_app_test.specs.declared.said.Kind.TheVariants as kind
use Rattle.fs_app_test.specs.declared.said.Line.{Line}
use Rattle.fs_app_test.specs.declared.said.Expected.{Expected}
use Rattle.fs_app_test.specs.declared.said.Expected.TheVariants as wanted

abbrev pub is_kind : Kind → Kind → Bool
is_kind kind.Forbidden kind.Forbidden = Bool.true
is_kind kind.Allowed kind.Allowed = Bool.true
is_kind kind.Vacuous kind.Vacuous = Bool.true
is_kind kind.Faulty kind.Faulty = Bool.true
is_kind _ _ = Bool.false

abbrev pub has : Kind → List Line → Bool
has k = list_any (λ line. is_kind k line.said.kind)

-- 1 where an outcome is possible; else 2 where a file has a fault; else 4 where an outcome is vacuous; else 0
abbrev pub verdict_status : List Line → Status
verdict_status lines =
    if has kind.Allowed lines then status.Denied else if has kind.Faulty lines then status.Failure
    else if has kind.Vacuous lines then status.Vacuous else status.Success

-- what is said is what was expected; where nothing was, or that isn't clear, it isn't
abbrev pub meets : Option Expected → Kind → Bool
meets (Some (wanted.Verdict k)) said = is_kind k said
meets _ said = Bool.false

abbrev pub is_met : Line → Bool
is_met line = meets line.expected line.said.kind

abbrev pub is_unmet : Line → Bool
is_unmet line = not (is_met line)

abbrev pub has_unmet : List Line → Bool
has_unmet = list_any is_unmet

-- where something is expected: 1 where a line isn't as expected, else 0
abbrev pub report_status : (expects : Bool) → List Line → Status
report_status Bool.false lines = verdict_status lines
report_status Bool.true lines = if has_unmet lines then status.Denied else status.Success
