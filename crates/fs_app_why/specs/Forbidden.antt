-- What `--why` prints of an answer with fences: why the outcome is ruled out with them.
use Rattle.std.specs.Prelude.{◌≡◌, ℕ, List, [], map}
use Rattle.fs_instr.specs.Writing.{instr_text}
use Rattle.fs_kinds.specs.declared.placement.Entry.{Entry}
use Rattle.fs_model.specs.declared.step.Step.{Step}
use Rattle.fs_model.specs.declared.test.Test.{Test}
use Rattle.fs_cert_evidence.specs.Certificate.{Cycles, Inferred, Listed}
use Rattle.fs_cert_evidence.specs.Trees.{AreItsRuns, roots}
use Rattle.fs_app_why.specs.Chains.{chains_of}
use Rattle.fs_app_why.specs.Ends.{ends}
use Rattle.fs_app_why.specs.Kinds.{ChainKind, kinds_of}
use Rattle.fs_app_why.specs.declared.telling.Telling.{Telling}
use Rattle.fs_app_why.specs.Contradictions.{contradictions_text}

-- the instructions in print, hart by hart
abbrev pub texts_of : Test → List (List (List ℕ))
texts_of t = map (map instr_text) t.codes

-- the kinds of the ends to which these inferences come, over all runs of the test
abbrev pub AreKinds : Test → List Entry → Cycles → List ChainKind → Type 0
AreKinds t p (Listed cycles) kinds = kinds ≡ []
AreKinds t p (Inferred inferences) kinds =
    (runs : ℕ → List (List Step)) × AreItsRuns t runs
    × (kinds ≡ kinds_of (texts_of t) (chains_of t p (ends t (roots t runs) inferences)))

-- a list of cycles isn't told
abbrev pub cycles_text : Test → (lines : List (List ℕ)) → Telling → Cycles → List ChainKind → List ℕ
cycles_text t lines telling (Listed cycles) kinds = []
cycles_text t lines telling (Inferred inferences) kinds = contradictions_text t lines telling kinds
