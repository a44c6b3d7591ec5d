use Rattle.std.proofs.Common.{inl, inr, arith}
use Rattle.serde_json.specs.View.{view}
use Rattle.fs_cert_json.proofs.Parts.{bad_length}
use Rattle.fs_cert_json.proofs.read_cycles.link_values.Goals as goal
use Rattle.fs_cert_json.proofs.read_cycles.link_values.Goals.{then-count-eq0-via-then-count-eq0, then-count-eq0-via-else-count-eq0+then-count-gt-MOST_LINKS}

pub returns-then-count-eq0 : goal.returns-then-count-eq0
returns-then-count-eq0 c =
    elim c.then-count-eq0.branch [
      | then-count-eq0-via-then-count-eq0 w ↦ bad_length (view c.args.value.now) c.in_ok-items.items.now.items
          c.in_ok-items.ensures (inl (omega arith))
      | then-count-eq0-via-else-count-eq0+then-count-gt-MOST_LINKS w ↦ bad_length (view c.args.value.now)
          c.in_ok-items.items.now.items c.in_ok-items.ensures (inr (omega arith))
    ]
