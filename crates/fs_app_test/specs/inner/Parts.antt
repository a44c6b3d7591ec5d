-- What is asked of one run.
use Rattle.std.specs.Prelude.{ℕ, ◌==◌, Bool}
use Rattle.fs_model.specs.Shows.{final_register}
use Rattle.fs_region_refutation.specs.Alone.{RunOf}
use Rattle.fs_cert_evidence.specs.Musts.{traces_of}

-- the run ends with the word in the register of its hart
abbrev pub ends_with : (reg word : ℕ) → RunOf → Bool
ends_with reg word run = final_register run.test (traces_of run.test run.hart run.steps) run.hart reg == word
