-- The pairs that an execution's order keeps, by what it shows with a fence of one pair.
use Rattle.std.proofs.Common.{◌≡◌, Bool, true, false, Some, [], refl, sym, ap, subst, ◌∙◌}
use Rattle.std.proofs.lemmas.Bool.{and_from, and_parts}
use Rattle.fs_kinds.specs.declared.slot.Slot.{Slot}
use Rattle.fs_kinds.specs.Kind.{Pair, ReadRead, ReadWrite, WriteRead, WriteWrite, is_subset}
use Rattle.fs_kinds.specs.Placement.{pairs_kept}
use Rattle.fs_model.specs.declared.test.Test.{Test}
use Rattle.fs_model.specs.Execution.{Execution, IsExecution}
use Rattle.fs_model.specs.Test.{IsBounded}
use Rattle.fs_model.specs.Witness.{Witness}
use Rattle.fs_model_laws.proofs.PlacedPairs.{subset_from, subset_at}
use Rattle.fs_model_laws.proofs.ExactWidths.{exact}
use Rattle.fs_cert_evidence.specs.declared.evidence.Pairs.{Pairs}
use Rattle.fs_cert_evidence.specs.Evidence.{pairs_at}
use Rattle.fs_cert_evidence.specs.Shown.{IsShownBy, ShowsAs}
use Rattle.fs_cert_evidence.specs.Widths.{Width, kind_of_pair, single, width}
use Rattle.fs_sites_check.specs.Valid.{IsShownAs}
use Rattle.fs_sites_check.proofs.OneExecution.{one_execution}

itself : (pair : Pair) → pairs_kept (Some (kind_of_pair pair)) pair ≡ true
itself ReadRead = refl
itself ReadWrite = refl
itself WriteRead = refl
itself WriteWrite = refl

-- a test of pairs that has this one has each pair of the fence
only : (has : Pair → Bool) (pair other : Pair) → has pair ≡ true → pairs_kept (Some (kind_of_pair pair)) other ≡ true → has other ≡ true
only has ReadRead ReadRead h one = h
only has ReadWrite ReadWrite h one = h
only has WriteRead WriteRead h one = h
only has WriteWrite WriteWrite h one = h
only has ReadRead ReadWrite h one = absurd (cc)
only has ReadRead WriteRead h one = absurd (cc)
only has ReadRead WriteWrite h one = absurd (cc)
only has ReadWrite ReadRead h one = absurd (cc)
only has ReadWrite WriteRead h one = absurd (cc)
only has ReadWrite WriteWrite h one = absurd (cc)
only has WriteRead ReadRead h one = absurd (cc)
only has WriteRead ReadWrite h one = absurd (cc)
only has WriteRead WriteWrite h one = absurd (cc)
only has WriteWrite ReadRead h one = absurd (cc)
only has WriteWrite ReadWrite h one = absurd (cc)
only has WriteWrite WriteRead h one = absurd (cc)

not-true : (b : Bool) → (b ≡ true → ⊥) → false ≡ b
not-true true never = absurd (never refl)
not-true false never = refl

module _ (t : Test) (slot : Slot) (pair : Pair) (w : Witness) (e : Execution) (bounded : IsBounded t) (bare : ShowsAs t [] w e) where
  within : IsExecution t (single slot pair) e → width t e slot pair ≡ true
  within full =
      let inside = (exact t e bare.1.execution (single slot pair) refl).1 full in
      subset_at (pairs_kept (Some (kind_of_pair pair))) (width t e slot)
      (and_parts (is_subset (pairs_kept (Some (kind_of_pair pair))) (width t e slot)) true inside).0 pair (itself pair)

  outside : width t e slot pair ≡ true → IsShownBy t (single slot pair) w
  outside has =
      let inside = and_from _ true
      (subset_from (pairs_kept (Some (kind_of_pair pair))) (width t e slot) (λ other one. only (width t e slot) pair other has one)) refl in
      (e, (bare.0, record { execution = (exact t e bare.1.execution (single slot pair) refl).0 inside; outcome = bare.1.outcome }))

  pub kept-pair : (kept : Bool) → IsShownAs t (single slot pair) w kept → kept ≡ width t e slot pair
  kept-pair true shown =
      let same = one_execution t w shown.0 e bounded shown.1.0 bare.0 in
      sym (within (subst (IsExecution t (single slot pair)) same shown.1.1.execution))
  kept-pair false none = not-true (width t e slot pair) (λ has. none (outside has))

abbrev pub made_of : Bool → Bool → Bool → Bool → Pairs
made_of a b c d = record { read_read = a; read_write = b; write_read = c; write_write = d }

pub same-pairs : (w : Width) (slot : Slot) (a b c d : Bool) → a ≡ w slot ReadRead → b ≡ w slot ReadWrite → c ≡ w slot WriteRead
    → d ≡ w slot WriteWrite → made_of a b c d ≡ pairs_at w slot
same-pairs w slot a b c d e f g h =
    ap (λ x. made_of x b c d) e
    ∙ (ap (λ x. made_of (w slot ReadRead) x c d) f
    ∙ (ap (λ x. made_of (w slot ReadRead) (w slot ReadWrite) x d) g
    ∙ ap (λ x. made_of (w slot ReadRead) (w slot ReadWrite) (w slot WriteRead) x) h))
