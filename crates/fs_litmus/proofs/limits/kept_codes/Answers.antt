use Rattle.std.proofs.Common.{◌≡◌, ◌∙◌, sym, ap, subst, true, false, List, Option}
use Rattle.std.specs.Prelude.{MatchOption}
use Rattle.fs_instr.specs.declared.instr.Instr.{Instr}
use Rattle.fs_litmus.specs.inner.Kept.{instrs_of, is_short}
use Rattle.fs_litmus.proofs.Kept.{short_more, codes_more}
use Rattle.fs_litmus.proofs.limits.kept_codes.Goals as goal

pub loop-hart-preserved : goal.loop-hart-preserved
loop-hart-preserved c =
    let k = c.hart-item.result in
    let both = subst (λ (o : Option (List Instr)). MatchOption o (is_short k ≡ false) (λ x. (x ≡ instrs_of k) × (is_short k ≡ true))) c.in-Some.is c.in_ok-code.ensures in
    record {
      codes = codes_more c.args.kept.now c.loop-hart.hart-index k _ _ _ c.loop-hart-test.true c.in_ok-push-in-Some.ensures.items c.loop-hart.invariant.codes (both.0 ∙ ap instrs_of c.hart-item.is);
      short = short_more c.args.kept.now c.loop-hart.hart-index k c.loop-hart-test.true c.loop-hart.invariant.short (sym (ap is_short c.hart-item.is) ∙ both.1);
    }
