use Rattle.fs_deps.proofs.Tracked.{tracked_none}
use Rattle.fs_deps.proofs.tracker.Tracker.new.Goals as goal

pub returns : goal.returns
returns c = tracked_none
