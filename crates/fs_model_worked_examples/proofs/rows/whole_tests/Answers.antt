use Rattle.std.proofs.Common.{refl}
use Rattle.fs_kinds.specs.declared.kind.Kind.TheVariants.{WR, RwRw}
use Rattle.fs_verdict_laws.proofs.Stronger.{placed_refutes, unfenced_refutes}
use Rattle.fs_model_worked_examples.specs.Small.{sb, parted}
use Rattle.fs_model_worked_examples.specs.Refutations.{fences, sb_tree, parted_tree}
use Rattle.fs_model_worked_examples.proofs.AllRuns.{sb_refuted, parted_refuted}
use Rattle.fs_model_worked_examples.proofs.Listable.{sb_forbidden, parted_forbidden}
use Rattle.fs_model_worked_examples.proofs.rows.whole_tests.Goals as goal

pub returns-clause-store_buffering : goal.returns-clause-store_buffering
returns-clause-store_buffering c = sb_refuted

pub returns-clause-full_fences : goal.returns-clause-full_fences
returns-clause-full_fences c b =
    (placed_refutes (sb b) (fences WR WR) (fences RwRw RwRw) refl refl).refuted sb_tree (sb_refuted b)

pub returns-clause-between : goal.returns-clause-between
returns-clause-between c = parted_refuted

pub returns-clause-any_fences : goal.returns-clause-any_fences
returns-clause-any_fences c b p = (unfenced_refutes (parted b) p).refuted parted_tree (parted_refuted b)

pub returns-clause-forbidden : goal.returns-clause-forbidden
returns-clause-forbidden c = sb_forbidden

pub returns-clause-never_between : goal.returns-clause-never_between
returns-clause-never_between c = parted_forbidden
