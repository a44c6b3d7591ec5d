-- What the reader answers of the printed form.
use Rattle.std.proofs.Common.{◌≡◌, ◌≢◌, ◌⊎◌, inl, inr, ℕ, List, Result, Ok, Err, IfOk, IfErr, refl, sym, ap, subst, arith}
use Rattle.std.specs.Result.{IsErrAnd}
use Rattle.fs_kinds.specs.FaultLine.{number}
use Rattle.fs_kinds.specs.declared.fault.Fault.TheVariants.{Memory, BadFence}
use Rattle.fs_kinds.specs.Placement.{slots_of}
use Rattle.fs_model.specs.Slots.{slots}
use Rattle.fs_litmus.specs.Fence.{IsFenceFault, other_slots}
use Rattle.fs_kinds.specs.declared.fault.Fault.{Fault}
use Rattle.fs_kinds.specs.declared.placement.Entry.{Entry}
use Rattle.fs_model.specs.Fenced.{fenced}
use Rattle.fs_model.specs.Printed.{printed}
use Rattle.fs_model.specs.Test.{IsTest, IsSame}
use Rattle.fs_model.specs.declared.test.Test.{Test}
use Rattle.fs_litmus.specs.Reads.{MeanTest, Reads}
use Rattle.fs_litmus.proofs.Once.{title_once, parts_once}
use Rattle.fs_litmus.proofs.ReadsOnce.{means_once}
use Rattle.fs_litmus.specs.inner.Printable.{IsPrintable}
use Rattle.fs_litmus.proofs.PrintedBytesWhole.{printed_title}
use Rattle.fs_litmus.proofs.PrintedReads.{syntax_in, is_printed}
use Rattle.fs_litmus.proofs.FencedPrintable.{fenced_printable}

-- what reads from the printed form is the test that was printed
same : (u r : Test) → IsPrintable u → Reads (printed u) r → IsSame r u
same u r h k =
    let p = is_printed u h in
    let parts = parts_once (printed u) k.form p.form k.syntax_of (syntax_in u) k.has_form p.has_form in
    let means = subst (λ s. MeanTest k.form s u) (sym parts.condition) (subst (λ f. MeanTest f (syntax_in u) u) (sym parts.form) p.means) in
    means_once k.form k.syntax_of r u (title_once (printed u) r.name u.name k.title (printed_title u h)) k.means means

pub read_back : (t : Test) (p : List Entry) (bytes : List ℕ) (r : Result Test Fault) → IsTest t → bytes ≡ printed (fenced t p) → IfOk r (Reads bytes) → IfOk r (λ u. IsSame u (fenced t p))
read_back t p bytes (Ok u) h e k = same (fenced t p) u (fenced_printable t p h) (subst (λ b. Reads b u) e k)
read_back t p bytes (Err f) h e k = tt

-- ---- faults

is_bad_fence : (f : Fault) → (f ≡ BadFence) ⊎ (f ≢ BadFence)
is_bad_fence BadFence = inl refl
is_bad_fence f = inr (λ e. let n : number f ≡ 12 = ap number e in absurd (omega (arith, n)))

-- what holds of the error handed on holds of the result
pub handed : {T : Type 0} (r : Result T Fault) (fault : Fault) (P : Fault → Type 0) → IsErrAnd r (λ f. f ≡ fault) → P fault → IfErr r P
handed (Ok x) fault P h p = tt
handed (Err f) fault P h p = subst P (sym h) p

pub not_written : (t : Test) (p : List Entry) (f : Fault) → (f ≡ BadFence → slots_of p ≢ slots t) → (f ≢ BadFence → f ≡ Memory) → f ≢ Memory → IsFenceFault t p f
not_written t p f bad other n =
    elim (is_bad_fence f) [
      | inl e ↦ subst (IsFenceFault t p) (sym e) (other_slots (bad e))
      | inr m ↦ absurd (n (other m))
    ]
