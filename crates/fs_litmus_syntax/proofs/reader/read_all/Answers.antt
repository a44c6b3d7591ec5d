use Rattle.std.proofs.Common.{sym, ◌∙◌, ap, subst, ◌+◌, drop, map, option_map}
use Rattle.fs_litmus_tokens.specs.Tokens.{views}
use Rattle.fs_litmus_syntax.specs.Machine.{read}
use Rattle.fs_litmus_syntax.specs.Limited.{limited}
use Rattle.fs_litmus_syntax.specs.Views.{atom_of, reader_of}
use Rattle.fs_litmus_syntax.proofs.Below.{SmallOf, small_next}
use Rattle.fs_litmus_syntax.proofs.ConditionAnswering.{reads_on}
use Rattle.fs_litmus_syntax.proofs.reader.read_all.Goals as goal

pub loop-i-preserved : goal.loop-i-preserved
loop-i-preserved c =
    let i = c.loop-i.i in
    let tokens = c.args.tokens.now in
    let taken = sym c.in_ok-next.ensures.reader ∙ ap (option_map reader_of) c.in-Some.is in
    record {
      same = ap (λ found. read limited (reader_of c.in-Some.next) found (views (drop (i + 1) tokens))) c.in_ok-next.ensures.atoms
          ∙ sym (reads_on tokens i _ _ (map atom_of c.loop-i.atoms.items) _ c.loop-i-test.true taken)
          ∙ c.loop-i.invariant.same;
      small = subst (SmallOf (i + 1)) taken (small_next i _ _ c.loop-i.invariant.small);
    }
