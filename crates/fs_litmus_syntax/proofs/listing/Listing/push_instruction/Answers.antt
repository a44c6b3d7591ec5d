use Rattle.std.proofs.Common.{rules, ◌≡◌, ◌∷◌, ◌++◌, [], ◌∙◌, ap, length, option_map}
use Rattle.fs_litmus_syntax.specs.Cells.{Instruction}
use Rattle.fs_litmus_syntax.proofs.ListingLemmas.{instruction_marked}
use Rattle.fs_litmus_syntax.proofs.listing.Listing.push_instruction.Goals as goal

pub returns : goal.returns
returns c =
    let number : c.len-number.result ≡ length c.self.inside.code.items = search rules in
    instruction_marked _ _ _ _ _ _ _ _ c.self.invariant number c.in_ok-push.ensures.items c.in_ok-push-2.ensures.items ∙ ap (λ l. l ++ Instruction c.args.instr (option_map (λ w. w.now) c.args.target) c.args.line ∷ []) c.self.view_is
