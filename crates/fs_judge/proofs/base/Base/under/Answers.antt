use Rattle.std.proofs.Common.{◌≡◌, ◌||◌, Bool, true, false, refl, sym, ◌∙◌, ap}
use Rattle.std.specs.List.{list_any}
use Rattle.fs_cert_evidence.specs.Candidates.{runs_of}
use Rattle.fs_cand_witness.specs.Edges.{has_edge}
use Rattle.fs_cand_witness.specs.Fencing.{orders_at, is_fenced}
use Rattle.fs_cand_witness.proofs.Joined.{joined}
use Rattle.fs_judge.proofs.base.Base.under.Goals as goal

or_swap : (x y : Bool) → (x || y) ≡ (y || x)
or_swap true true = refl
or_swap true false = refl
or_swap false true = refl
or_swap false false = refl

pub returns : goal.returns
returns c = λ t candidate base a b.
    let p = c.args.placement.now in
    let x = runs_of t candidate in
    let fenced : has_edge c.fence_rows-rows.result a b ≡ is_fenced x p a b =
    c.fence_rows-rows.ensures a b ∙ (ap (λ sides. list_any (orders_at p a b) sides) c.as_slice.ensures ∙ base.sides p a b) in
    c.union.ensures a b
    ∙ (ap (λ d. d || has_edge c.args.self.now.rows a b) fenced
    ∙ (ap (λ d. is_fenced x p a b || d) (base.rows a b)
    ∙ (or_swap (is_fenced x p a b) _ ∙ sym (joined t p candidate a b))))
