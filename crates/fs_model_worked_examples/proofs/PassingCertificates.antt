-- Certificates of message passing.
use Rattle.std.proofs.Common.{◌≡◌, ℕ, Option, None, Some, List, [], ◌∷◌, length, true, inl, inr, refl, ◌∙◌, ap, subst, arith, lit<, lit≤, Box, codes}
use Rattle.std.specs.Fmt.{digits}
use Rattle.std.specs.Str.{bytes_eq}
use Rattle.std.specs.declared.alloc.Global.{Global}
use Rattle.std.proofs.lemmas.Bool.{false≢true}
use Rattle.fs_kinds.specs.declared.kind.Kind.{Kind}
use Rattle.fs_kinds.specs.declared.kind.Kind.TheVariants.{RR, RW, RRw, WR, WW, WRw, RwR, RwW, RwRw, Tso}
use Rattle.fs_kinds.specs.declared.placement.Entry.{Entry}
use Rattle.fs_kinds.specs.declared.reason.Reason.TheVariants as reason
use Rattle.fs_kinds.specs.Placement.{all_with}
use Rattle.fs_kinds.specs.Slot.{fence_word}
use Rattle.fs_model.specs.declared.test.Test.{Test}
use Rattle.fs_model.specs.Condition.{condition_of}
use Rattle.fs_model.specs.Slots.{slots, slot_at}
use Rattle.fs_model.specs.declared.step.Choice.TheVariants.{Word}
use Rattle.fs_model.specs.Operations.{steps_of}
use Rattle.fs_model.specs.Execution.{Execution, code_of, registers_of, pre_execution}
use Rattle.fs_model.specs.Shows.{holds, final_register, final_word}
use Rattle.fs_model.specs.Witness.{Witness, IsOfWitness}
use Rattle.fs_model.proofs.Runs.{run_once}
use Rattle.fs_cert_evidence.specs.Certificate.{Fenced, Filter, Costly, fence_words}
use Rattle.fs_cert_evidence.specs.Shown.{ShowsAs}
use Rattle.fs_cert_evidence.specs.Cycles.{IsCycle}
use Rattle.fs_board_offers.specs.Offers.{cost}
use Rattle.fs_board_offers.specs.Priced.{IsRefusal}
use Rattle.fs_board_offers.specs.Refusals.{IsBadAnswer}
use Rattle.fs_board_offers.specs.Valid.{Refutes, IsAnswered, IsValidForNone}
use Rattle.fs_model_worked_examples.specs.Rows.{prices}
use Rattle.fs_model_worked_examples.specs.MessagePassing.{mp, mp11, two_stores, two_loads, overtaken, passed, passes, passing_offers, passing_fences}
use Rattle.fs_model_worked_examples.specs.PassingCertificates.{two_fences, fence_texts, fenced_circle, fenced, seven_leaves, nothing_helps, nothing_inferred}
use Rattle.fs_model_worked_examples.proofs.Inversion.{two_runs}
use Rattle.fs_model_worked_examples.proofs.MessagePassing.{given, shows, chosen}
use Rattle.fs_model_worked_examples.proofs.PassingListing.{listing}

same_witness : {v w : Witness} → Some v ≡ Some w → w ≡ v
same_witness e = cc

texts : {m n : ℕ} {xs ys : List (List ℕ)} → Fenced m xs ≡ Fenced n ys → xs ≡ ys
texts e = cc

costs : {m n : ℕ} {xs ys : List (List ℕ)} → Fenced m xs ≡ Fenced n ys → m ≡ n
costs e = cc

-- texts that are the same have the same tests
store_test : {text : List ℕ} → text ≡ codes "P0:3=w,w" → bytes_eq text (codes "P0:3=w,w") ≡ true
store_test e = ap (λ text. bytes_eq text (codes "P0:3=w,w")) e

load_test : {text : List ℕ} → text ≡ codes "P1:1=r,r" → bytes_eq text (codes "P1:1=r,r") ≡ true
load_test e = ap (λ text. bytes_eq text (codes "P1:1=r,r")) e

placed : (one two : Entry) → one.slot ∷ two.slot ∷ [] ≡ slot_at 0 3 ∷ slot_at 1 1 ∷ [] → one ∷ two ∷ [] ≡ passing_fences one.kind two.kind
placed one two e =
    let first : record { slot = one.slot; kind = one.kind } ≡ record { slot = slot_at 0 3; kind = one.kind } = cc in
    let second : record { slot = two.slot; kind = two.kind } ≡ record { slot = slot_at 1 1; kind = two.kind } = cc in
    two_entries one two _ _ first second
  where
    two_entries : (a b c d : Entry) → a ≡ c → b ≡ d → a ∷ b ∷ [] ≡ c ∷ d ∷ []
    two_entries a b c d e f = cc

module _ (p q : Box (Unit {0}) Global) where
  abbrev t : Test
  t = mp p q

  cycle : IsCycle t two_fences overtaken fenced_circle
  cycle = record { some = lit≤ tt; most = lit≤ tt; operations = 0 ∷ 1 ∷ 2 ∷ 3 ∷ []; names = refl; edges = refl }

  answered : IsAnswered passing_offers (Fenced 5 fence_texts) two_fences
  unfolding digits
  answered = record { placement = record { slots = refl; offered = refl }; answered = refl }

  pub root_leaf : IsRefusal t prices (fenced 5 (Costly ∷ [])) (reason.Node 0)
  root_leaf = (two_fences, answered, ((overtaken ∷ [], listing p q, (cycle, tt)), inl (refl, refl)))

  pub first_leaf : IsRefusal t prices (fenced 5 seven_leaves) (reason.Node 1)
  first_leaf = (two_fences, answered, ((overtaken ∷ [], listing p q, (cycle, tt)), inr (slot_at 0 3, refl, refl, inl (refl, refl))))

  -- ---- certificates of none

  pub valid : IsValidForNone (mp11 p q) (nothing_helps [] (passes ∷ []))
  valid = record {
    answered = refl;
    cycles = refl;
    tree = refl;
    witness = passes;
    only = refl;
    execution = passed;
    given = given 1 p q;
    refutes = shows p q;
  }

  pub inferred : IsValidForNone (mp11 p q) (nothing_inferred [])
  inferred = record {
    answered = refl;
    cycles = refl;
    tree = refl;
    witness = passes;
    only = refl;
    execution = passed;
    given = given 1 p q;
    refutes = shows p q;
  }

  pub one_inference : IsRefusal (mp11 p q) prices (nothing_inferred (Filter 0 ∷ [])) reason.Answer
  one_inference = inl (λ (e : (Filter 0 ∷ []) ≡ []). cc)

  pub no_witnesses : IsRefusal (mp11 p q) prices (nothing_helps [] []) reason.Answer
  no_witnesses = inr (inr (λ (e : 0 ≡ 1). omega (arith, e)))

  pub with_tree : IsRefusal (mp11 p q) prices (nothing_helps (Costly ∷ []) (passes ∷ [])) reason.Answer
  with_tree = inr (inl (λ (e : (Costly ∷ []) ≡ []). cc))

  -- the witness gives loads of 1, and the condition asks for 0
  traces_of : (e : Execution) → IsOfWitness t passes e → e.traces ≡ passed.traces
  traces_of e w =
      let one = run_once 2 (code_of t 0) (registers_of t 0) [] (steps_of e.traces 0) two_stores (w.runs 0 (lit< tt)) (chosen 0 p q 0 (lit< tt)) in
      let other = run_once 2 (code_of t 1) (registers_of t 1) (Word 1 ∷ Word 1 ∷ []) (steps_of e.traces 1) (two_loads 1 1) (w.runs 1 (lit< tt)) (chosen 0 p q 1 (lit< tt)) in
      two_runs e.traces w.harts ∙ (let a = one in let b = other in cc)

  idle : (e : Execution) → ShowsAs t (all_with (Some RwRw) (slots t)) passes e → ⊥
  idle e (w, seen) =
      false≢true (subst (λ runs. holds (final_register t runs) (final_word (pre_execution t e.traces) e.order) (condition_of t.condition) ≡ true) (traces_of e w) seen.outcome)

  good : IsBadAnswer passing_offers (nothing_helps [] (passes ∷ [])) → ⊥
  good (inl cycles) = cycles refl
  good (inr (inl tree)) = tree refl
  good (inr (inr length)) = length refl

  no_use : Refutes t (passes ∷ []) (all_with (Some RwRw) (slots t)) 0 → ⊥
  no_use (e, (w, there, seen)) = idle e (subst (λ v. ShowsAs t (all_with (Some RwRw) (slots t)) v e) (same_witness there) seen)

  pub other_test : IsRefusal t prices (nothing_helps [] (passes ∷ [])) (reason.Witness 0)
  other_test = (good, no_use, refl)

  -- ---- a wrong cost

  store_word : (kind : Kind) → fence_word (slot_at 0 3) kind ≡ codes "P0:3=w,w" → kind ≡ WW
  unfolding digits
  store_word WW e = refl
  store_word RR e = absurd (false≢true (store_test e))
  store_word RW e = absurd (false≢true (store_test e))
  store_word RRw e = absurd (false≢true (store_test e))
  store_word WR e = absurd (false≢true (store_test e))
  store_word WRw e = absurd (false≢true (store_test e))
  store_word RwR e = absurd (false≢true (store_test e))
  store_word RwW e = absurd (false≢true (store_test e))
  store_word RwRw e = absurd (false≢true (store_test e))
  store_word Tso e = absurd (false≢true (store_test e))

  load_word : (kind : Kind) → fence_word (slot_at 1 1) kind ≡ codes "P1:1=r,r" → kind ≡ RR
  unfolding digits
  load_word RR e = refl
  load_word WW e = absurd (false≢true (load_test e))
  load_word RW e = absurd (false≢true (load_test e))
  load_word RRw e = absurd (false≢true (load_test e))
  load_word WR e = absurd (false≢true (load_test e))
  load_word WRw e = absurd (false≢true (load_test e))
  load_word RwR e = absurd (false≢true (load_test e))
  load_word RwW e = absurd (false≢true (load_test e))
  load_word RwRw e = absurd (false≢true (load_test e))
  load_word Tso e = absurd (false≢true (load_test e))

  costs_five : (first second : Option Kind) → Fenced 6 fence_texts ≡ Fenced (cost passing_offers (passing_fences first second)) (fence_words (passing_fences first second)) → ⊥
  costs_five None None e = let f = texts e in cc
  costs_five None (Some b) e = let f = texts e in cc
  costs_five (Some a) None e = let f = texts e in cc
  costs_five (Some a) (Some b) e =
      let f = texts e in
      let first = store_word a (let g = f in cc) in
      let second = load_word b (let g = f in cc) in
      let price : 6 ≡ cost passing_offers (passing_fences (Some a) (Some b)) = costs e in
      let price : 6 ≡ cost passing_offers (passing_fences (Some WW) (Some b)) = subst (λ k. 6 ≡ cost passing_offers (passing_fences (Some k) (Some b))) first price in
      let price : 6 ≡ 5 = subst (λ k. 6 ≡ cost passing_offers (passing_fences (Some WW) (Some k))) second price in
      omega (arith, price)

  bad_answer : (r : List Entry) → IsAnswered passing_offers (Fenced 6 fence_texts) r → ⊥
  bad_answer [] a = let e = a.placement.slots in cc
  bad_answer (entry ∷ []) a = let e = a.placement.slots in cc
  bad_answer (one ∷ two ∷ []) a =
      let e = a.placement.slots in
      let same : one ∷ two ∷ [] ≡ passing_fences one.kind two.kind = placed one two e in
      costs_five one.kind two.kind (subst (λ r. Fenced 6 fence_texts ≡ Fenced (cost passing_offers r) (fence_words r)) same a.answered)
  bad_answer (one ∷ two ∷ three ∷ r) a = let e = a.placement.slots in cc

  pub dear : IsRefusal t prices (fenced 6 (Costly ∷ [])) reason.Answer
  dear = bad_answer
