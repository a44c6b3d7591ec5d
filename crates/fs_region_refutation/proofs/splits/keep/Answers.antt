use Rattle.std.proofs.Common.{◌∙◌, inl, inr, length, arith}
use Rattle.std.specs.Arc.{arc_value}
use Rattle.std.proofs.lemmas.Bool.{cases_lt}
use Rattle.std.proofs.lemmas.List.{length-map}
use Rattle.fs_region_refutation.proofs.Regions.{keep_is, keep_past, kept_of}
use Rattle.fs_region_refutation.proofs.splits.keep.Goals as goal

pub returns : goal.returns
returns c =
    let old = c.args.region.now in
    let hart = c.args.hart in
    let long = length-map old.runs.items arc_value in
    record {
      kept = λ test is. elim (cases_lt hart (length old.runs.items)) [
        | inl low ↦ c.in_ok-smaller.ensures.hart low ∙ keep_is old hart test c.args.kept is
        | inr high ↦ c.in_ok-smaller.ensures.past high ∙ keep_past old hart test (omega (arith, high, long))
      ];
      of = λ test is t of. c.in_ok-smaller.ensures.of t of (kept_of old hart test c.args.kept is t of);
      others = c.in_ok-smaller.ensures.others;
    }
