use Rattle.std.proofs.Common.{◌∙◌, sym, ap}
use Rattle.fs_kinds.specs.declared.fault.Fault.TheVariants.{Syntax}
use Rattle.fs_litmus.specs.Faults.{line_at}
use Rattle.fs_litmus_tokens.specs.Tokens.{views}
use Rattle.fs_app_states.specs.Names.{place_of}
use Rattle.fs_app_states.proofs.Tokens.{found_bad}
use Rattle.fs_app_states.proofs.listed.places_of.Goals as goal

pub returns-in-None-clause-err : goal.returns-in-None-clause-err
returns-in-None-clause-err c = λ known.
    let t = c.args.test.now in
    let item = c.item-item.result in
    let none = ap (λ xs. place_of t (views xs)) (sym c.as_slice.ensures) ∙ sym c.place_of.ensures ∙ c.in-None.is in (
      views item,
      sym c.loop-item.invariant.1 ∙ found_bad t c.args.items.now c.loop-item.item-index item c.loop-item-test.true c.item-item.is none,
      ap Syntax (c.line_of.ensures ∙ ap (λ xs. line_at (views xs) 0) c.as_slice-in-None.ensures),
    )
