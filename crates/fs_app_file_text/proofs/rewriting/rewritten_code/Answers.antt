use Rattle.std.proofs.Common.{ap, length, ◌∙◌, subst, sym, ◌≤◌}
use Rattle.fs_kinds.specs.Limits.{most_instructions}
use Rattle.fs_app_file_text.proofs.Marked.{marked_length}
use Rattle.fs_app_file_text.proofs.rewriting.rewritten_code.Goals as goal

pub left-requires : goal.left-requires
left-requires c =
    let same = ap length (c.deref.ensures.value ∙ c.in_ok-marked.ensures) ∙ marked_length c.args.placement.now c.args.hart c.args.code.now in
    subst (λ n. n ≤ most_instructions) (sym same) c.requires
