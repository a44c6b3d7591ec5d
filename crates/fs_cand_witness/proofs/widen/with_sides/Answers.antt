use Rattle.fs_cand_witness.proofs.Widening.{tried_stays}
use Rattle.fs_cand_witness.proofs.widen.with_sides.Goals as goal

pub returns-clause-tried : goal.returns-clause-tried
returns-clause-tried c =
    let first = c.with_edges-wider.ensures in
    let second = c.with_edges-wider-2.ensures in
    let third = c.with_edges-wider-3.ensures in
    let fourth = c.with_edges.ensures in
    let last = c.with_edges.result in
    record {
      read_read = tried_stays c.args.n _ last (λ a b h. fourth.wider.kept a b (third.wider.kept a b (second.wider.kept a b h))) _ _ first.tried;
      read_write = tried_stays c.args.n _ last (λ a b h. fourth.wider.kept a b (third.wider.kept a b h)) _ _ second.tried;
      write_read = tried_stays c.args.n _ last fourth.wider.kept _ _ third.tried;
      write_write = fourth.tried;
    }

pub returns-clause-made : goal.returns-clause-made
returns-clause-made c =
    let first = c.with_edges-wider.ensures in
    let second = c.with_edges-wider-2.ensures in
    let third = c.with_edges-wider-3.ensures in
    let fourth = c.with_edges.ensures in
    λ edge more same.
    fourth.made edge
    (third.made edge
    (second.made edge
    (first.made edge more
    (λ each. same.read_read (λ a b h k. fourth.wider.kept a b (third.wider.kept a b (second.wider.kept a b (each a b h k))))))
    (λ each. same.read_write (λ a b h k. fourth.wider.kept a b (third.wider.kept a b (each a b h k)))))
    (λ each. same.write_read (λ a b h k. fourth.wider.kept a b (each a b h k))))
    same.write_write
