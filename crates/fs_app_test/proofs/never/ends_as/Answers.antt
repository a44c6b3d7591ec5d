use Rattle.std.proofs.Common.{[], ap, ◌∙◌}
use Rattle.std.specs.List.{list_any, slice_index_or}
use Rattle.fs_app_test.specs.inner.Parts.{ends_with}
use Rattle.fs_app_test.proofs.Texts.{ends_alike}
use Rattle.fs_app_test.proofs.never.ends_as.Goals as goal

pub returns : goal.returns
returns c =
    c.some_ends.ensures
    ∙ ap (list_any (ends_with c.args.register c.args.word)) c.runs_of.ensures
    ∙ ends_alike c.args.basis.now c.args.hart c.args.register c.args.word (slice_index_or c.args.listed.now c.args.hart [])
    (c.requires c.args.hart)
