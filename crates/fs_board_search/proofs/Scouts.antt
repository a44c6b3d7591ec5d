-- What scouts keep of what they are told.
use Rattle.std.proofs.Common.{◌≡◌, ◌∙◌, ℕ, List, Option, map, IfSome, sym, subst}
use Rattle.std.specs.Arc.{arc_value}
use Rattle.std.specs.declared.sync.Arc.{Arc}
use Rattle.fs_kinds.specs.declared.slot.Slot.{Slot}
use Rattle.fs_model.specs.declared.test.Test.{Test}
use Rattle.fs_model.specs.Execution.{Execution}
use Rattle.fs_cert_evidence.specs.Evidence.{Refuted, Shown, IsWitnessAt}
use Rattle.fs_board_offers.specs.Offers.{slots}
use Rattle.fs_board_offers.specs.Questions.{Question}
use Rattle.fs_board.specs.declared.event.Reply.{Reply}
use Rattle.fs_board.specs.declared.event.Reply.TheVariants as reply
use Rattle.fs_board.specs.Growth.{AreWitnesses}
use Rattle.fs_board.specs.Asking.{Tells}
use Rattle.fs_board_search.specs.Tries.{IsPostable}

pub told-witnesses : (q p : Question) (r : Reply) (bound : _) (count : ℕ) (ws : _) → p ≡ q → r ≡ reply.Seen bound count ws → Tells q r
    → AreWitnesses p.test (slots p.offers) (map arc_value ws)
told-witnesses q p r bound count ws same is told =
    subst (λ (x : Question). AreWitnesses x.test (slots x.offers) (map arc_value ws)) (sym same) (subst (Tells q) is told).witnesses

-- the witnesses of a scout, whose judge judges the question's test, are witnesses at the slots of what is offered
pub known-at : (t : Test) (ss : List Slot) (q : Question) (store : List Shown) → t ≡ q.test → ss ≡ slots q.offers
    → AreWitnesses q.test (slots q.offers) store → AreWitnesses t ss store
known-at t ss q store same over known =
    subst (λ (x : Test). AreWitnesses x ss store) (sym same) (subst (λ (us : List Slot). AreWitnesses q.test us store) (sym over) known)

-- what a scout knows, where its judge judges the same test as before
pub known-still : {A : Type 0} (new old : Test) (ss : List Slot) (q : Question) (store : List Shown) (planned : Option (Arc Refuted A))
    → new ≡ old → old ≡ q.test → ss ≡ slots q.offers → AreWitnesses old ss store → IfSome planned (λ f. IsPostable q.test (arc_value f))
    → (new ≡ q.test) × AreWitnesses q.test (slots q.offers) store × IfSome planned (λ f. IsPostable q.test (arc_value f))
known-still new old ss q store planned still same over known plan = (
  still ∙ same,
  subst (λ (us : List Slot). AreWitnesses q.test us store) over (subst (λ (x : Test). AreWitnesses x ss store) same known),
  plan,
)

-- a witness that its judge has found is one of the question
pub found-for : (t : Test) (ss : List Slot) (q : Question) (w : Shown) → t ≡ q.test → ss ≡ slots q.offers
    → (e : Execution) × IsWitnessAt t ss w e → (e : Execution) × IsWitnessAt q.test (slots q.offers) w e
found-for t ss q w same over found =
    subst (λ (us : List Slot). (e : Execution) × IsWitnessAt q.test us w e) over
    (subst (λ (x : Test). (e : Execution) × IsWitnessAt x ss w e) same found)
