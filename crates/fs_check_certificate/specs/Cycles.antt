-- How a cycle is judged: by the numbers of the operations that it names.
use Rattle.std.specs.Prelude.{ℕ, nat_le, Bool, false, ◌&&◌, Option, None, Some, List, ◌++◌, map, length, take, drop, slice_get, unwrap_or, option_and_then, option_map}
use Rattle.std.specs.List.{AllZip}
use Rattle.fs_kinds.specs.declared.placement.Entry.{Entry}
use Rattle.fs_kinds.specs.declared.reason.OperationName.{OperationName as Name}
use Rattle.fs_kinds.specs.declared.reason.Reason.{Reason}
use Rattle.fs_model.specs.declared.test.Test.{Test}
use Rattle.fs_model.specs.Operations.{PreExecution, operations}
use Rattle.fs_hart.specs.Steps.{steps_in}
use Rattle.fs_cert_evidence.specs.Candidates.{Candidate, runs_of}
use Rattle.fs_cert_evidence.specs.Certificate.{Cycles, Link}
use Rattle.fs_cert_evidence.specs.Refusals.{IsListRefusal, IsCyclesRefusal}
use Rattle.fs_cert_evidence.specs.Cycles.{IsCycle, around, are_edges, most_links}
use Rattle.fs_cert_evidence.specs.Valid.{Forbid}
use Rattle.fs_cert_evidence.specs.Evidence.{cause_of}
use Rattle.fs_cand.specs.inner.NamedOrder.{name_in, numbers_of}
use Rattle.fs_cand.specs.declared.candidate.Candidate.{Candidate as Made}
use Rattle.fs_cert_json.specs.declared.certificate.CertificateLink.{CertificateLink}
use Rattle.fs_cert_json.specs.declared.certificate.CertifiedCycles.{CertifiedCycles}
use Rattle.fs_cert_json.specs.declared.certificate.CertifiedCycles.TheVariants.{Listed, Inferred}

-- the names of the candidate's operations, by their numbers
abbrev pub names_in : Made → List (Option Name)
names_in c = map (name_in (steps_in c.traces)) c.operations

abbrev pub names_of : PreExecution → List (Option Name)
names_of x = map (name_in x.traces) (operations x)

abbrev pub wanted : List CertificateLink → List (Option Name)
wanted links = map (λ link. link.operation) links

-- for each number the next one, and the first for the last
abbrev pub followers : List ℕ → List ℕ
followers numbers = drop 1 numbers ++ take 1 numbers

-- between the operations of these numbers, each and the next one, there are edges for the links' causes
abbrev pub have_edges : PreExecution → List Entry → Candidate → List CertificateLink → List ℕ → Bool
have_edges x p c links numbers = are_edges x p c (around numbers) (map (λ link. cause_of link.cause) links)

abbrev pub are_linked : PreExecution → List Entry → Candidate → List CertificateLink → Option (List ℕ) → Bool
are_linked x p c links None = false
are_linked x p c links (Some numbers) = have_edges x p c links numbers

-- the links are a cycle of the candidate's judged relation under the placement
abbrev pub is_cycle : PreExecution → List Entry → Candidate → List CertificateLink → Bool
is_cycle x p c links =
    nat_le 1 (length links) && (nat_le (length links) most_links && are_linked x p c links (numbers_of (names_of x) (wanted links)))

-- so it is for the candidate and the cycle of this number; false where there is none
abbrev pub is_cycle_at : Test → List Entry → List Candidate → List (List CertificateLink) → ℕ → Bool
is_cycle_at t p cs cycles k =
    unwrap_or (option_and_then (λ c. option_map (is_cycle (runs_of t c) p c) (slice_get cycles k)) (slice_get cs k)) false

-- how many cycles or inferences there are
abbrev pub count_in : CertifiedCycles → ℕ
count_in (Listed cycles) = length cycles
count_in (Inferred inferences) = length inferences

-- what is said of a list of cycles: nothing against them, or the first reason
abbrev pub IsListVerdict : Test → List Entry → List Candidate → List (List Link) → Option Reason → Type 0
IsListVerdict t p cs cycles None = AllZip (IsCycle t p) cs cycles
IsListVerdict t p cs cycles (Some why) = IsListRefusal t p cs cycles why

-- and so of either form of cycles
abbrev pub IsCyclesVerdict : Test → List Entry → Cycles → Option Reason → Type 0
IsCyclesVerdict t p cycles None = Forbid t p cycles
IsCyclesVerdict t p cycles (Some why) = IsCyclesRefusal t p cycles why
