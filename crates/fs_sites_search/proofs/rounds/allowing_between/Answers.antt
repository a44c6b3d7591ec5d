use Rattle.std.proofs.Common.{◌<◌, ◌∙◌, length, set, refl, ap, subst, arith}
use Rattle.std.proofs.lemmas.List.{set-get_or}
use Rattle.std.proofs.lemmas.Option.{slice_get_read}
use Rattle.fs_judge.specs.Verdicts.{IsVerdict}
use Rattle.fs_sites.specs.Questions.{image}
use Rattle.fs_sites.proofs.Unbroken.{forbid-more}
use Rattle.fs_sites_search.proofs.rounds.allowing_between.Goals as goal

pub loop-number-preserved : goal.loop-number-preserved
loop-number-preserved c =
    let parts = c.args.parts.now in
    let p = c.args.placement.now in
    let number = c.loop-number.number in
    let test = c.loop-number-test.true in
    let most = c.requires.most in
    let low : number < length parts = omega (arith, test, most) in
    let part = c.index-parts-number.result in
    let forbids = subst (IsVerdict part.test (image part.places p)) c.in-Forbids.is c.in_ok-witness.ensures.ok in
    record {
      same = ap (set c.loop-number.judges number) c.verdict.ensures.value
          ∙ (set-get_or c.loop-number.judges number c.index-judges-number.result ∙ c.loop-number.invariant.same);
      forbid = forbid-more parts p c.args.from number part (slice_get_read parts (length parts) number part refl low c.index-parts-number.is) forbids.2
          c.loop-number.invariant.forbid;
    }
