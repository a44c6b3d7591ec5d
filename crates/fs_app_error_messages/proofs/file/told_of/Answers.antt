use Rattle.fs_app_error_messages.proofs.file.told_of.Goals as goal

pub returns : goal.returns
returns c = record { fault = c.args.fault; is_fault = c.requires; is_message = c.in_ok-text.ensures }
