use Rattle.std.proofs.Common.{◌≡◌, ◌∙◌, ap}
use Rattle.fs_region_refutation.specs.declared.region.Region.{Region}
use Rattle.fs_region_refutation.specs.Views.{lists_in, Shares}
use Rattle.fs_region_refutation.proofs.Regions.{same_runs, same_of}
use Rattle.fs_region_refutation.proofs.region.Region.shared.Goals as goal

pub returns : goal.returns
returns c =
    let old = c.args.self.now in
    let new : Region = record {
      runs = c.in_ok-share.field-0;
      sources = c.in_ok-try_clone.field-0;
      orders = c.in_ok-try_clone-2.field-0;
      wanted = c.in_ok-try_clone-3.field-0;
    } in
    let shares : Shares old new = record {
      sources = c.in_ok-try_clone.ensures;
      orders = c.in_ok-try_clone-2.ensures;
      wanted = c.in_ok-try_clone-3.ensures;
    } in
    let lists : lists_in new.runs.items ≡ lists_in old.runs.items = c.in_ok-share.ensures ∙ ap lists_in c.deref.ensures.value in
    record {
      lists = lists;
      rest = shares;
      region = same_runs old new shares lists;
      of = λ t. same_of t old new lists;
    }
