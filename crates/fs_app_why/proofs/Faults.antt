-- Which fault is answered.
use Rattle.std.proofs.Common.{◌≡◌, ◌≢◌, ◌⊎◌, inl, inr, ℕ, List, None, Result, Ok, Err, IfErr, sym, subst}
use Rattle.std.specs.Prelude.{IsOkUnless}
use Rattle.fs_kinds.specs.declared.fault.Fault.{Fault}
use Rattle.fs_kinds.specs.declared.fault.Fault.TheVariants.{BadCertificate, BadFence, Memory, TooManyCandidates}
use Rattle.fs_model.specs.declared.test.Test.{Test}
use Rattle.fs_litmus.specs.Reads.{Reads}
use Rattle.fs_litmus.specs.Faults.{IsBroken, IsTestFault}
use Rattle.fs_litmus.proofs.FrontFaults.{unbroken}
use Rattle.fs_cert_evidence.specs.CandidateFaults.{IsCandidateFault}
use Rattle.fs_cert_evidence.specs.Certificate.{Answer, Certificate, Fenced}
use Rattle.fs_cert_evidence.specs.CertificateFile.{IsCertificateFile}
use Rattle.fs_app_place_and_order.specs.Place.{IsBadFences}
use Rattle.fs_app_place_and_order.proofs.Faults.{is_memory}
use Rattle.fs_model.specs.TooMany.{IsRunFault}
use Rattle.fs_app_why.specs.Why.{HasRunFault, IsBadAnswer, IsWhyFault, of_certificate, of_test, of_fences, of_runs, of_memory}

-- bytes that read as a test are of the form
of_form : (bytes : List ℕ) (t : Test) (f : Fault) → Reads bytes t → (f ≢ Memory → (line : ℕ) × IsBroken bytes line) → f ≡ Memory
of_form bytes t f reads broken = elim (is_memory f) [
  | inl e ↦ e
  | inr n ↦ (let there = broken n in absurd (unbroken bytes reads.form reads.syntax_of there.0 reads.has_form there.1))
]

pub memory_only : {T : Type 0} (bytes : List ℕ) (t : Test) (r : Result T Fault) → Reads bytes t
    → IfErr r (λ f. f ≢ Memory → (line : ℕ) × IsBroken bytes line) → IsOkUnless r Memory
memory_only bytes t (Ok x) reads broken = tt
memory_only bytes t (Err f) reads broken = of_form bytes t f reads broken

-- want of memory meets what is said of all other faults
pub memory_or : {T : Type 0} (r : Result T Fault) (P : Fault → Type 0) → IsOkUnless r Memory → IfErr r (λ f. f ≢ Memory → P f)
memory_or (Ok x) P e = tt
memory_or (Err f) P e = λ n. absurd (n e)

pub memory_is : {T : Type 0} (r : Result T Fault) (P : Fault → Type 0) → P Memory → IsOkUnless r Memory → IfErr r P
memory_is (Ok x) P is e = tt
memory_is (Err f) P is e = subst P (sym e) is

-- a fault of the test's runs is one of its candidates
pub run_is_candidate : (t : Test) (f : Fault) → IsRunFault t f → IsCandidateFault t f
run_is_candidate t TooManyCandidates h = absurd h.met
run_is_candidate t f h = h

-- ---- of words

pub of_words : (bytes : List ℕ) (t : Test) (words : List (List ℕ)) (f : Fault) → Reads bytes t → (f ≡ BadFence → IsBadFences None t words)
    → (f ≡ BadFence) ⊎ (f ≡ Memory) → f ≢ Memory
    → IsTestFault bytes f ⊎ ((f ≡ BadFence) × ((u : Test) × Reads bytes u × IsBadFences None u words))
of_words bytes t words f reads bad other known = elim other [ inl e ↦ inr (e, (t, reads, bad e)) | inr e ↦ absurd (known e) ]

-- ---- of certificates

pub of_answer_or : {T : Type 0} (bytes : List ℕ) (P : Fault → Type 0) (r : Result T Fault) (a : Answer) (cost : ℕ) (words : List (List ℕ))
    → a ≡ Fenced cost words
    → IfErr r (λ f. f ≢ Memory → P f ⊎ (IsTestFault bytes f ⊎ ((f ≡ BadFence) × ((t : Test) × Reads bytes t × IsBadFences None t words))))
    → IfErr r (λ f. f ≢ Memory → P f ⊎ (IsTestFault bytes f ⊎ ((f ≡ BadFence) × IsBadAnswer bytes a)))
of_answer_or bytes P (Ok x) a cost words is fault = tt
of_answer_or bytes P (Err f) a cost words is fault = λ known. elim (fault known) [
  | inl e ↦ inl e
  | inr rest ↦ inr (elim rest [
    | inl e ↦ inl e
    | inr bad ↦ inr (bad.0, subst (IsBadAnswer bytes) (sym is) bad.1)
  ])
]

pub of_runs_or : {T : Type 0} (bytes : List ℕ) (t : Test) (r : Result T Fault) (Q : Fault → Type 0) → Reads bytes t
    → IfErr r (λ f. f ≢ Memory → IsRunFault t f) → IfErr r (λ f. f ≢ Memory → HasRunFault bytes f ⊎ Q f)
of_runs_or bytes t (Ok x) Q reads fault = tt
of_runs_or bytes t (Err f) Q reads fault = λ known. inl (t, reads, fault known)

module _ (test certificate : List ℕ) where
  pub why_certificate : (f : Fault) → (f ≡ BadCertificate → (c : Certificate) → IsCertificateFile certificate c → ⊥)
      → (f ≡ BadCertificate) ⊎ (f ≡ Memory) → IsWhyFault test certificate f
  why_certificate f bad other = elim other [
    | inl e ↦ subst (IsWhyFault test certificate) (sym e) (of_certificate (bad e))
    | inr e ↦ subst (IsWhyFault test certificate) (sym e) of_memory
  ]

  pub why_answered : (c : Certificate) (f : Fault) → IsCertificateFile certificate c
      → (f ≢ Memory → HasRunFault test f ⊎ (IsTestFault test f ⊎ ((f ≡ BadFence) × IsBadAnswer test c.answer)))
      → IsWhyFault test certificate f
  why_answered c f is h = elim (is_memory f) [
    | inl e ↦ subst (IsWhyFault test certificate) (sym e) of_memory
    | inr n ↦ elim (h n) [
      | inl runs ↦ of_runs c is runs
      | inr rest ↦ elim rest [
        | inl fault ↦ of_test c is fault
        | inr bad ↦ subst (IsWhyFault test certificate) (sym bad.0) (of_fences c is bad.1)
      ]
    ]
  ]
