-- What an operation does in each run of its hart that is left in a region, as far as these agree.
use Rattle.std.specs.Prelude.{ℕ, Option, None, Some, option_and_then, List, [], ◌∷◌, if◌then◌else◌}
use Rattle.std.specs.List.{list_all}
use Rattle.fs_kinds.specs.declared.reason.OperationName.{OperationName as Name}
use Rattle.fs_model.specs.declared.step.Step.{Step}
use Rattle.fs_model.specs.Numbers.{is_same}
use Rattle.fs_cert_evidence.specs.Musts.{has_source}
use Rattle.fs_cert_evidence.specs.Regions.{Region, Initial, address_at, loaded_at, stored_at}
use Rattle.fs_app_why.specs.declared.known.Which.{Which}
use Rattle.fs_app_why.specs.declared.known.Which.TheVariants as which
use Rattle.fs_app_why.specs.declared.known.Known.{Known}

-- the word on which all of the runs agree
abbrev pub agreed_on : (List Step → Option ℕ) → List (List Step) → ℕ → Option ℕ
agreed_on asked runs word = if list_all (λ run. is_same (asked run) (Some word)) runs then Some word else None

abbrev pub agreed : (List Step → Option ℕ) → List (List Step) → Option ℕ
agreed asked [] = None
agreed asked (run ∷ runs) = option_and_then (agreed_on asked (run ∷ runs)) (asked run)

-- what a run says of the operation at a position
abbrev pub word_of : Which → ℕ → List Step → Option ℕ
word_of which.Address at run = address_at run at
word_of which.Loaded at run = loaded_at run at
word_of which.Stored at run = stored_at run at

abbrev pub known_of : Region → Name → Known
known_of region name = record {
  address = agreed (word_of which.Address name.at) (region.runs name.hart);
  loaded = agreed (word_of which.Loaded name.at) (region.runs name.hart);
  stored = agreed (word_of which.Stored name.at) (region.runs name.hart);
  is_initial = has_source (region.source name) Initial;
}
