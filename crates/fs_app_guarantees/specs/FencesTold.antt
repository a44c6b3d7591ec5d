-- That `--why` tells an execution without each fence of an answer.
use Rattle.std.specs.Prelude.{◌≡◌, ◌⊎◌, ℕ, List, ◌++◌}
use Rattle.fs_kinds.specs.declared.placement.Entry.{Entry}
use Rattle.fs_model.specs.declared.test.Test.{Test}
use Rattle.fs_model.specs.Witness.{Witness}
use Rattle.fs_litmus.specs.Lines.{StandIn}
use Rattle.fs_litmus.specs.Reads.{Reads}
use Rattle.fs_cert_evidence.specs.Texts.{fenced_lines, none_lines}
use Rattle.fs_app_why.specs.Kinds.{ChainKind}
use Rattle.fs_app_why.specs.declared.telling.Telling.{Telling}
use Rattle.fs_app_why.specs.declared.telling.Telling.TheVariants.{Few, All, One}
use Rattle.fs_app_why.specs.Why.{TellsFences}

-- it isn't one fence that is asked for
abbrev pub AsksForAll : Telling → Type 0
AsksForAll Few = Unit {0}
AsksForAll All = Unit {0}
AsksForAll (One hart at) = ⊥

-- below what else is told of each fence of the placement an execution without it, of the first of these witnesses that
-- shows the outcome so
pub record EachIsTold (telling : Telling) (test : List ℕ) (p : List Entry) (ws : List Witness) (text : List ℕ) : Type 0 where
  pub the_test : Test
  pub lines : List (List ℕ)
  pub kinds : List ChainKind
  pub above : List ℕ
  pub fences : List ℕ
  pub reads : Reads test the_test
  pub stand : StandIn test lines
  pub told : TellsFences the_test lines telling kinds ws (λ q. ⊥) p p fences
  pub is_text : text ≡ above ++ fences

-- the lines of an answer say fences, of each of which that is told, or `none`
abbrev pub FencesAreTold : Telling → (test lines text : List ℕ) → Type 0
FencesAreTold telling test lines text =
    ((cost : ℕ) × (p : List Entry) × (ws : List Witness) × (lines ≡ fenced_lines cost p) × EachIsTold telling test p ws text)
    ⊎ ((w : Witness) × (lines ≡ none_lines w))
