-- An operation of a hart is a step of its run, and what the rules ask of two such operations they ask of the run.
use Rattle.std.proofs.Common.{◌≡◌, ℕ, nat_lt, ◌==◌, Bool, true, ◌&&◌, ◌||◌, Option, Some, option_map, option_and_then, unwrap_or, List, refl, sym, ◌∙◌, ap}
use Rattle.std.proofs.lemmas.Bool.{false≢true, eq-eqb}
use Rattle.fs_kinds.specs.declared.placement.Entry.{Entry}
use Rattle.fs_model.specs.declared.step.Step.{Step}
use Rattle.fs_instr.specs.Instructions.{nop}
use Rattle.fs_model.specs.Forms.{annotation}
use Rattle.fs_model.specs.Operations.{PreExecution, operation, place, steps_of, is_rcsc, po}
use Rattle.fs_model.specs.Preserved.{Rule, Rule1, Rule2, Rule3, Rule4, Rule5, Rule6, Rule7, Rule8, Rule9, Rule10, Rule11, Rule12, Rule13, case_of, rule}
use Rattle.fs_model.proofs.WhichOperation.{of_hart}
use Rattle.fs_verdict_laws.specs.Local.{acquires, releases, access_at, local_case, local_rule, is_local}

pub at_place : (x : PreExecution) (a h : ℕ) → (operation x a).hart ≡ Some h → operation x a ≡ access_at h (steps_of x.traces h) (place x a)
at_place x a h e =
    let of = of_hart x a h e in
    of.is ∙ ap (λ (o : Option Step). record {
      hart = Some h;
      place = place x a;
      instr = unwrap_or (option_map (λ s. s.instr) o) nop;
      address = option_and_then (λ s. s.address) o;
      loaded = option_and_then (λ s. s.loaded) o;
      stored = option_and_then (λ s. s.stored) o;
    }) (sym of.there)

same_number : (h : ℕ) (b : Bool) → ((h == h) && b) ≡ b
same_number h b = rw (eq-eqb h h refl) refl

module _ (x : PreExecution) (p : List Entry) (rf : ℕ → Option ℕ) (h a b : ℕ) (ea : (operation x a).hart ≡ Some h) (eb : (operation x b).hart ≡ Some h) where
  pub before : po x a b ≡ nat_lt (place x a) (place x b)
  before = rw (ea, eb) (same_number h (nat_lt (place x a) (place x b)))

  pub first : operation x a ≡ access_at h (steps_of x.traces h) (place x a)
  first = at_place x a h ea

  pub second : operation x b ≡ access_at h (steps_of x.traces h) (place x b)
  second = at_place x b h eb

  case_local : (r : Rule) → is_local r ≡ true → case_of x p rf a b r ≡ local_case h (steps_of x.traces h) p (place x a) (place x b) r
  case_local Rule1 l = rw (first, second) refl
  case_local Rule2 l = absurd (false≢true l)
  case_local Rule3 l = absurd (false≢true l)
  case_local Rule4 l = rw (first, second) refl
  case_local Rule5 l = ap (λ o. (annotation o.instr).acquire) first
  case_local Rule6 l = ap (λ o. (annotation o.instr).release) second
  case_local Rule7 l =
      ap (λ o. ((annotation o.instr).acquire || (annotation o.instr).release) && is_rcsc x b) first
      ∙ ap (λ o. (acquires (steps_of x.traces h) (place x a) || releases (steps_of x.traces h) (place x a)) && ((annotation o.instr).acquire || (annotation o.instr).release)) second
  case_local Rule8 l = rw first refl
  case_local Rule9 l = rw first refl
  case_local Rule10 l = rw first refl
  case_local Rule11 l = rw (first, second) refl
  case_local Rule12 l = absurd (false≢true l)
  case_local Rule13 l = rw (first, second) refl

  pub rule_local : (r : Rule) → is_local r ≡ true → rule x p rf a b r ≡ local_rule h (steps_of x.traces h) p (place x a) (place x b) r
  rule_local r l = cc (before, case_local r l)

-- two that have the same run of the hart agree
pub rule_alike : (x y : PreExecution) (p : List Entry) (rf src : ℕ → Option ℕ) (h a b i j : ℕ) → steps_of x.traces h ≡ steps_of y.traces h
    → (operation x a).hart ≡ Some h → (operation x b).hart ≡ Some h → (operation y i).hart ≡ Some h → (operation y j).hart ≡ Some h
    → place x a ≡ place y i → place x b ≡ place y j → (r : Rule) → is_local r ≡ true → rule x p rf a b r ≡ rule y p src i j r
rule_alike x y p rf src h a b i j same ea eb ei ej first second r l =
    rule_local x p rf h a b ea eb r l
    ∙ ap (λ (steps : List Step). local_rule h steps p (place x a) (place x b) r) same
    ∙ ap (λ (k : ℕ). local_rule h (steps_of y.traces h) p k (place x b) r) first
    ∙ ap (λ (k : ℕ). local_rule h (steps_of y.traces h) p (place y i) k r) second
    ∙ sym (rule_local y p src h i j ei ej r l)
