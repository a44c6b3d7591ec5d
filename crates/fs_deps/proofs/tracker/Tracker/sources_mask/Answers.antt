use Rattle.std.proofs.Common.{rules, ◌≡◌, bit_or, ap, ◌∙◌}
use Rattle.fs_instr.specs.Instructions.{sources_of}
use Rattle.fs_deps.specs.Masks.{is_set}
use Rattle.fs_deps.proofs.Tracked.{either_mask, is_set-either}
use Rattle.fs_deps.proofs.tracker.Tracker.sources_mask.Goals as goal

pub returns : goal.returns
returns c i =
    let sources = sources_of c.args.instr.now in
    let e : bit_or c.read_mask.result c.read_mask-2.result ≡ either_mask c.args.self.now sources = search rules in
    ap (λ m. is_set m i) e ∙ is_set-either c.args.self.now i sources
