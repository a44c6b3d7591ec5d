use Rattle.std.specs.Option.{option_to_list}
use Rattle.fs_pool.proofs.Linked.{linked_front}
use Rattle.fs_tests.proofs.rings.without_last.Goals as goal

pub returns : goal.returns
returns c linked = linked_front c.args.hands.items c.pop-last.new.self.items (option_to_list c.pop-last.result) c.pop-last.ensures.items linked
