-- Leaves of store buffering that witnesses bound, or don't.
use Rattle.std.proofs.Common.{◌≡◌, ℕ, true, None, Some, List, [], ◌∷◌, map, inl, inr, refl, subst, lit<, Box}
use Rattle.std.specs.List.{AllZip}
use Rattle.std.specs.declared.alloc.Global.{Global}
use Rattle.std.proofs.lemmas.Bool.{false≢true}
use Rattle.fs_kinds.specs.declared.reason.Reason.TheVariants as reason
use Rattle.fs_model.proofs.Tested.{All-nil, All-cons}
use Rattle.fs_model.specs.declared.test.Test.{Test}
use Rattle.fs_model.specs.Execution.{Execution}
use Rattle.fs_model.specs.Witness.{Witness, IsOfWitness}
use Rattle.fs_cert_evidence.specs.Certificate.{Bounded}
use Rattle.fs_board_offers.specs.Parts.{undecided}
use Rattle.fs_board_offers.specs.Pruning.{is_pruned}
use Rattle.fs_board_offers.specs.Refusals.{Fails}
use Rattle.fs_board_offers.specs.Valid.{Refutes, RefutesBy}
use Rattle.fs_cert_evidence.specs.Widths.{width}
use Rattle.fs_model_worked_examples.specs.StoreBuffering.{sb, fences}
use Rattle.fs_model_worked_examples.specs.Rows.{offers, part, loads_first}
use Rattle.fs_model_worked_examples.specs.Bounded.{both_fences, bounded_by}
use Rattle.fs_model_worked_examples.proofs.Witnesses.{unfenced}
use Rattle.fs_model_worked_examples.proofs.Witnessed.{only}

same_witness : {v w : Witness} → Some v ≡ Some w → w ≡ v
same_witness e = cc

module _ (p q : Box (Unit {0}) Global) where
  abbrev t : Test
  t = sb p q

  abbrev shown_by : ℕ → Type 0
  shown_by j = Refutes t (loads_first ∷ []) (fences None None) j

  first_shows : shown_by 0
  first_shows =
      let yes = unfenced p q in
      (yes.0, (loads_first, refl, (yes.1, record { execution = yes.2; outcome = yes.3 })))

  no_second : shown_by 1 → ⊥
  no_second refutes = let none = refutes.1.1 in cc

  pub missing : Fails t offers (bounded_by (0 ∷ 1 ∷ [])) both_fences (undecided offers ∷ []) (Bounded (0 ∷ 1 ∷ []) ∷ []) 0 (reason.Witness 1)
  missing = inl (1, (0 ∷ [], [], refl, All-cons shown_by 0 [] first_shows (All-nil shown_by), no_second), refl)

  pub before_node : Fails t offers (bounded_by (0 ∷ 1 ∷ [])) both_fences (undecided offers ∷ []) (Bounded (0 ∷ 1 ∷ []) ∷ []) 0 (reason.Node 0) → ⊥
  before_node (inl witness) = let e = witness.2 in cc
  before_node (inr (inl bad)) = no_second (bad.0 1 0 (lit< tt))
  before_node (inr (inr whole)) = whole.1

  -- with the one execution of the witness, the least cost of a break is 9, and less than 18
  abbrev is_bounded : List Execution → Type 0
  is_bounded es = is_pruned offers (Some both_fences) (part None None) (map (width t) es) ≡ true

  one_break : (e : Execution) → IsOfWitness t loads_first e → is_bounded (e ∷ []) → ⊥
  one_break e w pruned = false≢true (subst (λ e. is_bounded (e ∷ [])) (only p q e w) pruned)

  too_little : (es : List Execution) → AllZip (RefutesBy t (loads_first ∷ []) (fences None None)) (0 ∷ []) es → is_bounded es → ⊥
  too_little [] zip pruned = zip
  too_little (e ∷ []) ((w, there, shows), rest) pruned =
      one_break e (subst (λ v. IsOfWitness t v e) (same_witness there) shows.0) pruned
  too_little (e ∷ f ∷ es) (first, rest) pruned = rest

  pub cheap : Fails t offers (bounded_by (0 ∷ [])) both_fences (undecided offers ∷ []) (Bounded (0 ∷ []) ∷ []) 0 (reason.Node 0)
  cheap = inr (inl (All-cons shown_by 0 [] first_shows (All-nil shown_by), (λ bounds. too_little bounds.0 bounds.1 bounds.2), refl))
