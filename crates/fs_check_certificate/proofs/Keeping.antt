-- What is kept of witnesses, one after the other.
use Rattle.std.proofs.Common.{◌≡◌, ℕ, zero, suc, ◌+◌, ◌<◌, ◌≤◌, Option, List, [], ◌∷◌, ◌++◌, take, length, subst, arith}
use Rattle.std.specs.Prelude.{get_or}
use Rattle.std.specs.List.{AllZip}
use Rattle.std.proofs.lemmas.List.{take_all}
use Rattle.std.proofs.lemmas.Slice.Zip.{AllZip-long}
use Rattle.fs_model.specs.declared.test.Test.{Test}
use Rattle.fs_model.specs.Witness.{Witness}
use Rattle.fs_cert_evidence.specs.declared.witness.WitnessFile.{WitnessFile}
use Rattle.fs_cert_evidence.specs.WitnessFile.{KeepsWitness}
use Rattle.fs_cert_evidence.specs.declared.evidence.Pairs.{Pairs}
use Rattle.fs_check_certificate.specs.Leaves.{ShowsWidths, AreShown}

module _ (t : Test) where
  pub none_shown : (ws : List Witness) → AreShown t (take 0 ws) []
  none_shown [] = tt
  none_shown (w ∷ ws) = tt

  pub one_more : (files : List WitnessFile) (ws : List Witness) (shown : List (Option (List Pairs))) (i : ℕ) (d : WitnessFile) (kept : Option (List Pairs))
      → i < length files → AllZip KeepsWitness files ws → AreShown t (take i ws) shown
      → ((w : Witness) → KeepsWitness (get_or files i d) w → ShowsWidths t w kept) → AreShown t (take (i + 1) ws) (shown ++ kept ∷ [])
  one_more [] ws shown i d kept low keeps are shows = absurd (omega (arith, low))
  one_more (f ∷ fs) [] shown i d kept low keeps are shows = absurd keeps
  one_more (f ∷ fs) (w ∷ ws) [] zero d kept low keeps are shows = (shows w keeps.0, none_shown ws)
  one_more (f ∷ fs) (w ∷ ws) (s ∷ ss) zero d kept low keeps are shows = absurd are
  one_more (f ∷ fs) (w ∷ ws) [] (suc i) d kept low keeps are shows = absurd are
  one_more (f ∷ fs) (w ∷ ws) (s ∷ ss) (suc i) d kept low keeps are shows =
      let e : suc i + 1 ≡ suc (i + 1) = omega arith in
      rw e ((are.0, one_more fs ws ss i d kept (omega (arith, low)) keeps.1 are.1 shows))

  pub all_kept : (files : List WitnessFile) (ws : List Witness) (shown : List (Option (List Pairs))) (i : ℕ) → length files ≤ i
      → AllZip KeepsWitness files ws → AreShown t (take i ws) shown → AreShown t ws shown
  all_kept files ws shown i past keeps are =
      let long = AllZip-long KeepsWitness files ws keeps in
      subst (λ vs. AreShown t vs shown) (take_all i ws (omega (arith, past, long))) are
