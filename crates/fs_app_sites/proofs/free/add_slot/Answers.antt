use Rattle.fs_app_sites.specs.Sites.{copy_value}
use Rattle.fs_app_sites.proofs.Added.{put-in}
use Rattle.fs_app_sites.proofs.free.add_slot.Goals as goal

pub returns-in_ok-insert : goal.returns-in_ok-insert
returns-in_ok-insert c =
    put-in copy_value c.args.prefix.now c.args.slot c.args.copies.now.items c.deref.result.now c.insert.new.self.items
    c.in-Some.at c.in_ok-own_copy.field-0 c.in_ok-insert.ensures.items c.in_ok-own_copy.ensures c.deref.ensures.value
    (c.in-Some.ensures.some c.args.prefix.now)
