use Rattle.std.proofs.Common.{◌∙◌}
use Rattle.fs_litmus.proofs.Ranges.{one_more, mapped_push, one_more_taken}
use Rattle.fs_litmus.proofs.starts.locations_of.Goals as goal

pub loop-k-preserved : goal.loop-k-preserved
loop-k-preserved c =
    let pushed = c.in_ok-push.ensures.items in
    let name = c.new-name.ensures ∙ c.in_ok-from_str.ensures.ok in
    record {
      named = one_more_taken c.args.names.now c.loop-k.k _ _ _ _ (mapped_push (λ x. x.name) _ _ _ pushed) c.loop-k.invariant.named name c.get.ensures;
      words = one_more _ _ _ _ _ (mapped_push (λ x. x.word) _ _ _ pushed) c.loop-k.invariant.words c.location_word-word.ensures;
    }
