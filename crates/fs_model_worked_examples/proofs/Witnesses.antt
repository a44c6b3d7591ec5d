-- What is said of the witnesses of store buffering.
use Rattle.std.proofs.Common.{◌≡◌, ℕ, zero, suc, ◌<◌, ◌==◌, inl, inr, Bool, true, false, ◌&&◌, not, Option, None, Some, option_map, unwrap_or, List, [], length, slice_get, refl, arith, lit<, Box, pos, take}
use Rattle.std.specs.List.{list_all}
use Rattle.std.specs.declared.alloc.Global.{Global}
use Rattle.std.proofs.lemmas.Bool.{and_parts, or_cases, ltb-true, eqb-true, not-true, false≢true}
use Rattle.fs_kinds.specs.declared.placement.Entry.{Entry}
use Rattle.fs_kinds.specs.declared.kind.Kind.TheVariants.{WR}
use Rattle.fs_kinds.specs.declared.reason.Reason.TheVariants.{Choices}
use Rattle.fs_instr.specs.Names.{plain}
use Rattle.fs_instr.specs.declared.instr.Instr.TheVariants.{Lw}
use Rattle.fs_model.specs.declared.step.Step.{Step}
use Rattle.fs_model.specs.declared.step.Stop.TheVariants.{Short}
use Rattle.fs_model.specs.Numbers.{numbers_below}
use Rattle.fs_model.specs.Operations.{PreExecution, operations, steps_of, po}
use Rattle.fs_model.specs.Source.{source_in}
use Rattle.fs_model.specs.Preserved.{Rule as RuleOf, case_of, all_rules}
use Rattle.fs_model.specs.Witness.{Chooses}
use Rattle.fs_model.specs.Reasons.{IsYes, IsReason, IsOrder, IsFirstBrokenRule, is_earlier, is_against_rule, choices_for}
use Rattle.fs_model_worked_examples.specs.StoreBuffering.{sb, fences, buffered, steps}
use Rattle.fs_model_worked_examples.specs.Rows.{named, loads_first, against_rule_4, one_choice}
use Rattle.fs_model.proofs.Ranges.{each_two_below, po_in_range}
use Rattle.fs_model_worked_examples.proofs.StoreBuffering.{x, order, values, first, second, execution}

-- a rule speaks of operations in program order only
asked : (c : Bool) (f : RuleOf → Bool) (o : Option RuleOf) (d : Bool)
    → (unwrap_or (option_map (λ r. c && f r) o) false && d) ≡ true → c ≡ true
asked c f None d h = absurd (false≢true h)
asked c f (Some r) d h = (and_parts c (f r) (and_parts (c && f r) d h).0).0

rule_in_po : (y : PreExecution) (p : List Entry) (ns : List ℕ) (n a b : ℕ) → is_against_rule y p ns n a b ≡ true → po y a b ≡ true
rule_in_po y p ns zero a b h = absurd (false≢true h)
rule_in_po y p ns (suc n) a b h = asked (po y a b) (case_of y p (source_in y ns) a b) (slice_get all_rules n) _ h

false_unless : (b : Bool) → (b ≡ true → b ≡ false) → b ≡ false
false_unless true f = f refl
false_unless false f = refl

abbrev is_kept : PreExecution → List Entry → List ℕ → ℕ → ℕ → ℕ → Bool
is_kept y p ns n a b = not (is_against_rule y p ns n a b)

-- a rule that the order keeps wherever there are operations is kept everywhere
abbrev numbers : PreExecution → List ℕ
numbers y = numbers_below (length (operations y))

kept : (y : PreExecution) (p : List Entry) (ns : List ℕ) (n : ℕ)
    → list_all (λ a. list_all (is_kept y p ns n a) (numbers y)) (numbers y) ≡ true
    → (a b : ℕ) → is_against_rule y p ns n a b ≡ false
kept y p ns n h a b = false_unless _ (λ e.
    let there = po_in_range y a b (rule_in_po y p ns n a b e) in
    not-true _ (each_two_below (is_kept y p ns n) (length (operations y)) a b h there.0 there.1))

module _ (p q : Box (Unit {0}) Global) where
  chosen : (hart : ℕ) → hart < 2 → Chooses (sb p q) hart (choices_for loads_first hart) (steps_of buffered.traces hart)
  chosen zero h = (first p q, refl)
  chosen (suc zero) h = (second p q, refl)
  chosen (suc (suc hart)) h = absurd (omega arith)

  pub unfenced : IsYes (sb p q) (fences None None) loads_first
  unfenced = (buffered, record { lists = refl; harts = refl; runs = chosen; order = refl }, execution p q, refl)

  in_order : IsOrder (sb p q) loads_first buffered
  in_order = record { runs = record { harts = refl; whole = chosen }; names = refl; once = refl }

  abbrev against : ℕ → ℕ → ℕ → Bool
  against = is_against_rule x (fences (Some WR) None) order

  below : (m : ℕ) → m < 4 → (a b : ℕ) → against m a b ≡ false
  below zero low = kept x (fences (Some WR) None) order 0 refl
  below (suc zero) low = kept x (fences (Some WR) None) order 1 refl
  below (suc (suc zero)) low = kept x (fences (Some WR) None) order 2 refl
  below (suc (suc (suc zero))) low = kept x (fences (Some WR) None) order 3 refl
  below (suc (suc (suc (suc m)))) low = absurd (omega arith)

  earlier : (c d : ℕ) → is_earlier c d 0 1 ≡ true → against 4 c d ≡ false
  earlier zero zero h = refl
  earlier zero (suc d) h = absurd (omega (arith, ltb-true (suc d) 1 h))
  earlier (suc c) d h = elim (or_cases _ _ h) [
    | inl less ↦ absurd (omega (arith, ltb-true (suc c) 0 less))
    | inr same ↦ absurd (omega (arith, eqb-true (suc c) 0 (and_parts (suc c == 0) _ same).0))
  ]

  first_broken : IsFirstBrokenRule x (fences (Some WR) None) order 4 (named 0 1) (named 0 2)
  first_broken = record { kept = below; a = 0; b = 1; first_named = refl; second_named = refl; least = (refl, earlier) }

  pub fenced : IsReason (sb p q) (fences (Some WR) None) loads_first against_rule_4
  fenced = (buffered, in_order, (values, first_broken))

  pub short : IsReason (sb p q) (fences None None) one_choice (Choices 1)
  short = (
    Short,
    refl,
    record {
      hart_of_test = lit< tt;
      steps = take 2 (steps 4112 4096);
      stopped = (
        ((refl, refl, (refl, refl, refl)), ((refl, refl, ((refl, (1, lit< tt, refl)), refl, refl)), tt)),
        ([], refl, (Lw plain 7 8 (pos 0), refl, ((λ astray. astray.1 (0, lit< tt, refl)), refl, refl))),
      );
      earlier = only_first;
    },
  )
    where
      only_first : (h : ℕ) → h < 1 → (ss : List Step) × Chooses (sb p q) h (choices_for one_choice h) ss
      only_first zero low = (steps 4096 4112, (first p q, refl))
      only_first (suc h) low = absurd (omega arith)
