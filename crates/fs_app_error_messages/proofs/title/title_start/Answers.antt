use Rattle.std.proofs.Common.{ap, ◌-◌, ◌∙◌, length}
use Rattle.fs_app_error_messages.proofs.title.title_start.Goals as goal

pub returns : goal.returns
returns c =
    c.start_of.ensures ∙ ap (λ x. length c.args.bytes.now - length x.0) c.skip_top.ensures.value
