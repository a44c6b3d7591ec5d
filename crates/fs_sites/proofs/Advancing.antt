-- A cursor that moves right behind all that begins with it.
use Rattle.std.proofs.Common.{◌≡◌, ℕ, ◌+◌, ◌<◌, Some, List, [], ◌∷◌, ◌++◌, length, get_or, sym, ap, subst, ◌∙◌, arith}
use Rattle.std.specs.Prelude.{slice_get}
use Rattle.std.proofs.lemmas.Option.{slice_get-get_or}
use Rattle.fs_kinds.specs.declared.kind.Kind.{Kind}
use Rattle.fs_kinds.specs.declared.placement.Entry.{Entry}
use Rattle.fs_kinds.specs.Placement.{precedes}
use Rattle.fs_model_laws.proofs.Ranked.{entry_of}
use Rattle.fs_board_offers.specs.Offers.{Offer, Offers}
use Rattle.fs_sites.specs.Sinking.{Fills, Begins}
use Rattle.fs_sites.specs.Walks.{is_reached, IsNext, IsLast, Follows}
use Rattle.fs_sites.proofs.Placed.{begins-less, begins-more, begins-slot}
use Rattle.fs_sites.proofs.Reaching.{before-next, reached-last}

pub its-offer : (offers : Offers) (i : ℕ) (o : Offer) → i < length offers → o ≡ get_or offers i o → slice_get offers i ≡ Some o
its-offer offers i o low is = slice_get-get_or offers i o low ∙ ap (λ u. Some u) (sym is)

pub one-longer : (p : List Entry) (e : Entry) → length (p ++ (e ∷ [])) ≡ length p + 1
one-longer [] e = omega arith
one-longer (f ∷ p) e = let more = one-longer p e in omega (arith, more)

module _ (offers : Offers) (first old cursor : List Entry) (e : Entry) (o : Offer) where
  pub begins-before : old ≡ cursor ++ (e ∷ []) → Begins offers old → Begins offers cursor
  begins-before is begins = begins-less offers cursor e (subst (Begins offers) is begins)

  -- what begins with the cursor is what begins with it and one more kind, where no kind is behind that
  pub same-before : old ≡ cursor ++ (e ∷ []) → slice_get offers (length cursor) ≡ Some o → IsLast o e.kind
      → ((q : List Entry) → Fills offers q → is_reached q first ≡ is_reached q old)
      → (q : List Entry) → Fills offers q → is_reached q first ≡ is_reached q cursor
  same-before is at last same q fills =
      same q fills ∙ (ap (is_reached q) is ∙ reached-last offers cursor q o e at fills last)

  pub follows-next : (next : Kind) (new : List Entry) → old ≡ cursor ++ (e ∷ []) → Begins offers old
      → slice_get offers (length cursor) ≡ Some o → IsNext o e.kind next
      → ((q : List Entry) → Fills offers q → is_reached q first ≡ is_reached q old)
      → new ≡ cursor ++ (entry_of e.slot (Some next) ∷ []) → Follows offers first new
  follows-next next new is begins at behind same moved =
      let here : Begins offers (cursor ++ (e ∷ [])) = subst (Begins offers) is begins in record {
        begins =
            subst (Begins offers) (sym moved)
            (begins-more offers cursor o (entry_of e.slot (Some next)) (begins-less offers cursor e here) at
            (begins-slot offers cursor e o here at) behind.offered);
        same = λ q fills.
            ap (precedes q) moved
            ∙ (before-next offers cursor q o e next at fills behind
            ∙ sym (same q fills ∙ ap (is_reached q) is));
      }
