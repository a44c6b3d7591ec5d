-- What is explained above the contradictions, where one that is told has it.
use Rattle.std.specs.Prelude.{ℕ, ◌==◌, nat_lt, Bool, true, false, ◌&&◌, ◌||◌, not, is_some, Option, None, Some, List}
use Rattle.std.specs.Prelude.{length}
use Rattle.std.specs.List.{list_any}
use Rattle.fs_instr.specs.declared.instr.Instr.{Instr}
use Rattle.fs_model.specs.declared.test.Test.{Test}
use Rattle.fs_model.specs.Forms.{is_loading, is_storing}
use Rattle.fs_model.specs.Numbers.{numbers_below}
use Rattle.fs_app_why.specs.declared.chain.Chain.{Chain}
use Rattle.fs_app_why.specs.declared.chain.ChainLink.{ChainLink}
use Rattle.fs_app_why.specs.declared.chain.Shape.{Shape}
use Rattle.fs_app_why.specs.declared.chain.Shape.TheVariants as shape
use Rattle.fs_app_why.specs.declared.fences.Fence.{Fence}
use Rattle.fs_app_why.specs.declared.known.Known.{Known}
use Rattle.fs_app_why.specs.Kinds.{ChainKind}
use Rattle.fs_app_why.specs.Arrows.{counts_before, counts_behind, if_amo}
use Rattle.fs_app_why.specs.declared.telling.Telling.{Telling}
use Rattle.fs_app_why.specs.Told.{is_told, kind_at, told_chain}
use Rattle.fs_app_why.specs.InstructionWords.{instr_named}
use Rattle.fs_app_why.specs.declared.signs.Sign.{Sign}
use Rattle.fs_app_why.specs.declared.signs.Sign.TheVariants as sign

abbrev pub is_cycle : Shape → Bool
is_cycle shape.Cycle = true
is_cycle shape.Stale = false
is_cycle shape.NotAtomic = false

-- ---- its location isn't known, or a word that it loads or stores

abbrev pub lacks_known : Known → Instr → Bool
lacks_known known instr =
    not (is_some known.address)
    || (is_loading instr && not (is_some known.loaded) || is_storing instr && not (is_some known.stored))

abbrev pub lacks_by : Known → Option Instr → Bool
lacks_by known None = false
lacks_by known (Some instr) = lacks_known known instr

abbrev pub lacks_word : Test → Chain → Bool
lacks_word t chain = list_any (λ link. lacks_by link.known (instr_named t link.name)) chain.links

-- ---- a fence of the chain orders an AMO by one of its halves

abbrev pub halves_by : Test → ChainLink → Option Fence → Bool
halves_by t link None = false
halves_by t link (Some fence) =
    not (length (if_amo (instr_named t link.name) (counts_before t fence)) == 0)
    || not (length (if_amo (instr_named t link.next) (counts_behind t fence)) == 0)

abbrev pub halves_amo : Test → Chain → Bool
halves_amo t chain = list_any (λ link. halves_by t link link.fence) chain.links

-- ---- all

abbrev pub has_sign : Test → Sign → Chain → Bool
has_sign t sign.Cycle chain = is_cycle chain.shape
has_sign t sign.Unsaid chain = lacks_word t chain
has_sign t sign.Halves chain = halves_amo t chain

abbrev pub has_sign_there : Test → Sign → Option Chain → Bool
has_sign_there t asked None = false
has_sign_there t asked (Some chain) = has_sign t asked chain

-- the kind of this number is told, and its chain has it
abbrev pub is_told_with : Test → Telling → List ChainKind → Sign → ℕ → Bool
is_told_with t telling kinds asked number =
    nat_lt number (length kinds)
    && (is_told telling kinds number && has_sign_there t asked (told_chain telling (kind_at kinds number)))

-- one that is told has it
abbrev pub some_told : Test → Telling → List ChainKind → Sign → Bool
some_told t telling kinds asked = list_any (is_told_with t telling kinds asked) (numbers_below (length kinds))
