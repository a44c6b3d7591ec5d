-- A tree of store buffering that is one leaf, which witnesses are to bound.
use Rattle.std.specs.Prelude.{ℕ, Some, List, [], ◌∷◌, codes}
use Rattle.fs_kinds.specs.declared.kind.Kind.TheVariants.{WR}
use Rattle.fs_kinds.specs.declared.placement.Entry.{Entry}
use Rattle.fs_cert_evidence.specs.Certificate.{Certificate, Second, Fenced, Listed, Bounded}
use Rattle.fs_model_worked_examples.specs.StoreBuffering.{fences}
use Rattle.fs_model_worked_examples.specs.Rows.{loads_first}

-- w,r before each load, which costs 18
abbrev pub both_fences : List Entry
both_fences = fences (Some WR) (Some WR)

-- The witnesses of these numbers are to bound the root. Witness 0 has both loads first, and there is no other.
abbrev pub bounded_by : List ℕ → Certificate
bounded_by js = record {
  version = Second;
  answer = Fenced 18 (codes "P0:2=w,r" ∷ codes "P1:2=w,r" ∷ []);
  cycles = Listed [];
  tree = Bounded js ∷ [];
  witnesses = loads_first ∷ [];
}
