-- The run of a hart by itself: its operations are those of the hart in the candidate, by their names, and rules hold of
-- both alike.
use Rattle.std.proofs.Common.{◌≡◌, ℕ, ◌+◌, ◌<◌, ◌≤◌, ◌==◌, Bool, true, false, not, None, Some, Option, is_some, option_map, option_and_then, unwrap_or, List, [], length, inl, inr, refl, sym, ◌∙◌, ap, subst, arith}
use Rattle.std.specs.Prelude.{All, if◌then◌else◌}
use Rattle.std.specs.List.{position_or_len}
use Rattle.std.proofs.lemmas.Bool.{cases_Bool, false≢true, and_parts, and_from, eq-eqb, eqb-true}
use Rattle.std.proofs.lemmas.List.Elements.{All-get_or}
use Rattle.std.proofs.lemmas.List.FromFn.{get_or-map-range_with_len, length-map-range_with_len}
use Rattle.fs_kinds.specs.declared.placement.Entry.{Entry}
use Rattle.fs_kinds.specs.declared.reason.OperationName.{OperationName as Name}
use Rattle.fs_model.specs.declared.test.Test.{Test}
use Rattle.fs_model.specs.Test.{GoesForward}
use Rattle.fs_model.specs.declared.step.Step.{Step}
use Rattle.fs_model.specs.Numbers.{is_same, numbers_below}
use Rattle.fs_model.specs.Operations.{PreExecution, accesses, operations, operation, place, steps_of, same_hart}
use Rattle.fs_model.specs.Preserved.{Rule, Rule1, Rule2, Rule3, Rule4, Rule5, Rule6, Rule7, Rule8, Rule9, Rule10, Rule11, Rule12, Rule13, rule}
use Rattle.fs_model.specs.Execution.{code_of, registers_of}
use Rattle.fs_model.specs.Trace.{AreSteps, start_with}
use Rattle.fs_model.specs.Witness.{name_of}
use Rattle.fs_model.proofs.OptionalNumbers.{same_parts, same_from, same_is, one_value}
use Rattle.fs_model.proofs.WhichOperation.{hart_access, no_hart_past, length_operations}
use Rattle.fs_cert_evidence.specs.Candidates.{Candidate, IsRaw, runs_of, rf}
use Rattle.fs_cand.proofs.Distinct.{named}
use Rattle.fs_cand.proofs.Distinct as distinct
use Rattle.fs_verdict_laws.specs.Local.{accesses_at, place_of, is_local, local_rule, through}
use Rattle.fs_verdict_laws.proofs.Places.{rule_alike}
use Rattle.fs_verdict_laws.proofs.Sources.{rule_two, rule_three, rule_twelve, not_twelve, none_twelve}
use Rattle.fs_verdict_laws.proofs.Named.{place_named, accessing}
use Rattle.fs_verdict_laws.proofs.Links.{numbered}
use Rattle.fs_cert_evidence.specs.Regions.{Region, Source, Initial, From, In, same_name, name_in, names}
use Rattle.fs_cert_evidence.specs.Musts.{traces_of, alone, has_name, number_of, holds_of, source_number, known_source, knows_enough, is_rule}
use Rattle.fs_verdict_laws.proofs.Lists.{found}
use Rattle.fs_verdict_laws.proofs.Names.{name_is, runs_forward, once}

-- ---- numbers by names

named_is : (o : Option Name) (n : Name) → has_name o n ≡ true → o ≡ Some n
named_is None n e = absurd (false≢true e)
named_is (Some m) n e = ap Some (name_is m n e)

pub number_named : (x : PreExecution) (n : Name) (i : ℕ) → number_of x n ≡ Some i → name_of x i ≡ Some n
number_named x n i e = named_is (name_of x i) n (found (λ a. has_name (name_of x a) n) (numbers_below (length (accesses x))) i e).holds

pub record HasBoth (x : PreExecution) (test : ℕ → ℕ → Bool) (n m : Name) : Type 0 where
  pub i : ℕ
  pub j : ℕ
  pub one : name_of x i ≡ Some n
  pub two : name_of x j ≡ Some m
  pub holds : test i j ≡ true

pub both_of : (x : PreExecution) (test : ℕ → ℕ → Bool) (n m : Name) → holds_of test (number_of x n) (number_of x m) ≡ true → HasBoth x test n m
both_of x test n m h = by_number (number_of x n) (number_of x m) refl refl h
  where
    by_number : (o u : Option ℕ) → number_of x n ≡ o → number_of x m ≡ u → holds_of test o u ≡ true → HasBoth x test n m
    by_number None u e k h = absurd (false≢true h)
    by_number (Some i) None e k h = absurd (false≢true h)
    by_number (Some i) (Some j) e k h = record { i = i; j = j; one = number_named x n i e; two = number_named x m j k; holds = h }

-- ---- the run by itself

module _ (t : Test) (hart : ℕ) (run : List Step) (low : hart < length t.codes) where
  pub own_steps : steps_of (traces_of t hart run) hart ≡ run
  own_steps =
      get_or-map-range_with_len (λ h. if h == hart then run else []) 0 (length t.codes) hart hart [] low (omega arith)
      ∙ rw (eq-eqb hart hart refl) refl

module _ (t : Test) (c : Candidate) (forward : All GoesForward t.codes) (raw : IsRaw t c) (hart : ℕ) (low : hart < length t.codes) where
  abbrev crun : List Step
  crun = steps_of c.traces hart

  abbrev cy : PreExecution
  cy = alone t hart crun

  abbrev cx : PreExecution
  cx = runs_of t c

  same_run : steps_of c.traces hart ≡ steps_of cy.traces hart
  same_run = sym (own_steps t hart crun low)

  -- the run of each hart here is the candidate's or empty
  steps_here : (h : ℕ) → h < length t.codes → steps_of cy.traces h ≡ (if h == hart then crun else [])
  steps_here h less = get_or-map-range_with_len (λ k. if k == hart then crun else []) 0 (length t.codes) h h [] less (omega arith)

  forward_here : distinct.AreRuns cy.traces
  forward_here h less =
      let long = length-map-range_with_len (λ k. if k == hart then crun else []) 0 (length t.codes) in
      let small : h < length t.codes = omega (arith, less, long) in (
        length t.locations,
        registers_of t h,
        code_of t h,
        All-get_or GoesForward t.codes h [] small forward,
        subst (λ (ss : List Step). AreSteps (length t.locations) (code_of t h) (start_with (registers_of t h)) ss) (sym (steps_here h small)) (by_hart (h == hart) refl small),
      )
    where
      by_hart : (b : Bool) → (h == hart) ≡ b → h < length t.codes → AreSteps (length t.locations) (code_of t h) (start_with (registers_of t h)) (if b then crun else [])
      by_hart true e small = subst (λ k. AreSteps (length t.locations) (code_of t h) (start_with (registers_of t h)) (steps_of c.traces k)) (eqb-true h hart e) (raw.runs.runs h small).0
      by_hart false e small = tt

  -- an operation here is one of the candidate
  pub record IsMoved (i : ℕ) (n : Name) : Type 0 where
    pub number : ℕ
    pub name : name_of cx number ≡ Some n
    pub place_is : place cx number ≡ place cy i

  pub moved : (i : ℕ) (n : Name) → name_of cy i ≡ Some n → n.hart ≡ hart → IsMoved i n
  moved i n e own =
      let here = place_named cy forward_here i n e in
      let steps : steps_of cy.traces n.hart ≡ steps_of c.traces n.hart = subst (λ (h : ℕ). steps_of cy.traces h ≡ steps_of c.traces h) (sym own) (sym same_run) in
      let there = accessing cy i n.hart (named cy i n e).hart in
      let at = ap (λ (ss : List Step). place_of ss n.at) (sym steps) ∙ here in
      let number = numbered cx n.hart n.at (place cy i) at (ap (λ (ss : List Step). accesses_at ss (place cy i)) (sym steps) ∙ there) in
      let again = place_named cx (runs_forward t c forward raw) number.number n number.name in
      record {
        number = number.number;
        name = number.name;
        place_is = (let both : Some (place cx number.number) ≡ Some (place cy i) = sym again ∙ at in cc);
      }

  -- what a load returns from, where the region says it
  pub returns_at : (region : Region) → In t c region → (n : Name) (source : Source) → region.source n ≡ Some source → (a : ℕ) → name_of cx a ≡ Some n
      → (s : ℕ) × (rf c a ≡ Some s) × (name_of cx s ≡ name_in source)
  returns_at region inside n source e a name =
      let is = inside.sources n source e in
      (is.1, subst (λ (z : ℕ). rf c z ≡ Some is.1) (once t c forward raw is.0 a n is.2 name) is.3, is.4)

-- ---- rules

pub name_in_once : (s u : Source) → name_in s ≡ name_in u → s ≡ u
name_in_once Initial Initial e = refl
name_in_once Initial (From b) e = absurd (let none : None ≡ Some b = e in cc)
name_in_once (From a) Initial e = absurd (let none : Some a ≡ None = e in cc)
name_in_once (From a) (From b) e = ap From (let both : Some a ≡ Some b = e in cc)

-- a source whose number is that of an operation of the run
own_store : (t : Test) (region : Region) (x : PreExecution) (source : Source) (i : ℕ) → source_number t region x source ≡ i → i < length (accesses x)
    → (k : Name) × (source ≡ From k) × (number_of x k ≡ Some i)
own_store t region x Initial i e low = absurd (let long = length_operations x in omega (arith, e, low, long))
own_store t region x (From k) i e low = by_number (number_of x k) refl e
  where
    by_number : (o : Option ℕ) → number_of x k ≡ o → unwrap_or o (length (operations x) + 1 + position_or_len (same_name k) (names t)) ≡ i
        → (k' : Name) × (From k ≡ From k') × (number_of x k' ≡ Some i)
    by_number (Some z) f g = (k, refl, f ∙ ap Some g)
    by_number None f g = absurd (let long = length_operations x in omega (arith, g, low, long))

source_of : (f : Source → ℕ) (o : Option Source) (i : ℕ) → option_map f o ≡ Some i → (s : Source) × (o ≡ Some s) × (f s ≡ i)
source_of f None i e = absurd (let none : None ≡ Some i = e in cc)
source_of f (Some s) i e = (s, refl, let both : Some (f s) ≡ Some i = e in cc)

some_source : (o : Option Source) → is_some o ≡ true → (s : Source) × (o ≡ Some s)
some_source None e = absurd (false≢true e)
some_source (Some s) e = (s, refl)

pub not_true : (b : Bool) → (b ≡ true → ⊥) → not b ≡ true
not_true true no_such = absurd (no_such refl)
not_true false no_such = refl

module _ (t : Test) (c : Candidate) (forward : All GoesForward t.codes) (raw : IsRaw t c) (region : Region) (inside : In t c region) (p : List Entry)
    (n m : Name) (low : n.hart < length t.codes) (other : m.hart ≡ n.hart) where
  abbrev x : PreExecution
  x = runs_of t c

  abbrev y : PreExecution
  y = alone t n.hart (steps_of c.traces n.hart)

  abbrev rho : ℕ → Option ℕ
  rho = known_source t region y

  pub record HasRule (r : Rule) : Type 0 where
    pub a : ℕ
    pub b : ℕ
    pub one : name_of x a ≡ Some n
    pub two : name_of x b ≡ Some m
    pub holds : rule x p (rf c) a b r ≡ true

  module _ (i j : ℕ) (ei : name_of y i ≡ Some n) (ej : name_of y j ≡ Some m) where
    first : IsMoved t c forward raw n.hart low i n
    first = moved t c forward raw n.hart low i n ei refl

    second : IsMoved t c forward raw n.hart low j m
    second = moved t c forward raw n.hart low j m ej other

    abbrev a : ℕ
    a = first.number

    abbrev b : ℕ
    b = second.number

    ha : (operation x a).hart ≡ Some n.hart
    ha = (named x a n first.name).hart

    hb : (operation x b).hart ≡ Some n.hart
    hb = (named x b m second.name).hart ∙ ap Some other

    hi : (operation y i).hart ≡ Some n.hart
    hi = (named y i n ei).hart

    hj : (operation y j).hart ≡ Some n.hart
    hj = (named y j m ej).hart ∙ ap Some other

    same : steps_of c.traces n.hart ≡ steps_of y.traces n.hart
    same = sym (own_steps t n.hart (steps_of c.traces n.hart) low)

    local : (r : Rule) → is_local r ≡ true → rule y p rho i j r ≡ true → rule x p (rf c) a b r ≡ true
    local r l h = rule_alike x y p (rf c) rho n.hart a b i j same ha hb hi hj first.place_is second.place_is r l ∙ h

    part : (r : Rule) → local_rule n.hart (steps_of y.traces n.hart) p (place y i) (place y j) r ≡ true
        → local_rule n.hart (steps_of c.traces n.hart) p (place x a) (place x b) r ≡ true
    part r h =
        ap (λ (ss : List Step). local_rule n.hart ss p (place x a) (place x b) r) same
        ∙ ap (λ (k : ℕ). local_rule n.hart (steps_of y.traces n.hart) p k (place x b) r) first.place_is
        ∙ ap (λ (k : ℕ). local_rule n.hart (steps_of y.traces n.hart) p (place y i) k r) second.place_is
        ∙ h

    rho_i : rho i ≡ option_map (source_number t region y) (region.source n)
    rho_i = ap (λ (o : Option Name). option_map (source_number t region y) (option_and_then region.source o)) ei

    rho_j : rho j ≡ option_map (source_number t region y) (region.source m)
    rho_j = ap (λ (o : Option Name). option_map (source_number t region y) (option_and_then region.source o)) ej

    returns_first : (source : Source) → region.source n ≡ Some source → (s : ℕ) × (rf c a ≡ Some s) × (name_of x s ≡ name_in source)
    returns_first source e = returns_at t c forward raw n.hart low region inside n source e a first.name

    returns_second : (source : Source) → region.source m ≡ Some source → (s : ℕ) × (rf c b ≡ Some s) × (name_of x s ≡ name_in source)
    returns_second source e = returns_at t c forward raw n.hart low region inside m source e b second.name

    two_holds : knows_enough t region Rule2 n m ≡ true → rule y p rho i j Rule2 ≡ true → rule x p (rf c) a b Rule2 ≡ true
    two_holds knows h =
        let known = and_parts (is_some (region.source n)) (is_some (region.source m)) knows in
        let s = some_source (region.source n) known.0 in
        let u = some_source (region.source m) known.1 in
        let parts = and_parts _ (not (is_same (rho i) (rho j))) (sym (rule_two y n.hart i j hi hj p rho) ∙ h) in
        let from = returns_first s.0 s.1 in
        let from' = returns_second u.0 u.1 in
        let apart : is_same (rf c a) (rf c b) ≡ true → ⊥ = λ e.
        (let both = same_parts (rf c a) (rf c b) e in
        let here : from.0 ≡ both.0 = one_value (rf c a) from.0 both.0 from.1 both.1 in
        let there : from'.0 ≡ both.0 = one_value (rf c b) from'.0 both.0 from'.1 both.2 in
        let names_are : name_in s.0 ≡ name_in u.0 = sym from.2 ∙ ap (name_of x) (here ∙ sym there) ∙ from'.2 in
        let one : s.0 ≡ u.0 = name_in_once s.0 u.0 names_are in
        let left : rho i ≡ Some (source_number t region y u.0) = rho_i ∙ ap (option_map (source_number t region y)) (s.1 ∙ ap Some one) in
        let right : rho j ≡ Some (source_number t region y u.0) = rho_j ∙ ap (option_map (source_number t region y)) u.1 in
        let is : is_same (rho i) (rho j) ≡ true = same_from (rho i) (rho j) (source_number t region y u.0) left right in
        false≢true (sym (ap not is) ∙ parts.1)) in
        rule_two x n.hart a b ha hb p (rf c) ∙ and_from _ _ (part Rule2 parts.0) (not_true (is_same (rf c a) (rf c b)) apart)

    three_holds : rule y p rho i j Rule3 ≡ true → rule x p (rf c) a b Rule3 ≡ true
    three_holds h =
        let parts = and_parts _ (is_same (rho j) (Some i)) (sym (rule_three y n.hart i j hi hj p rho) ∙ h) in
        let known : option_map (source_number t region y) (region.source m) ≡ Some i = sym rho_j ∙ same_is (rho j) (Some i) parts.1 in
        let s = source_of (source_number t region y) (region.source m) i known in
        let own = own_store t region y s.0 i s.2 (hart_access y i n.hart hi) in
        let is : own.0 ≡ n = (let both : Some own.0 ≡ Some n = sym (number_named y own.0 i own.2) ∙ ei in cc) in
        let from = returns_second s.0 s.1 in
        let name : name_of x from.0 ≡ Some n = from.2 ∙ ap name_in own.1 ∙ ap Some is in
        let at : from.0 ≡ a = once t c forward raw from.0 a n name first.name in
        rule_three x n.hart a b ha hb p (rf c) ∙ and_from _ _ (part Rule3 parts.0) (same_from (rf c b) (Some a) a (from.1 ∙ ap Some at) refl)

    twelve_holds : rule y p rho i j Rule12 ≡ true → rule x p (rf c) a b Rule12 ≡ true
    twelve_holds h = by_source (region.source m) refl
      where
        none_of : rule y p rho i j Rule12 ≡ false → rule x p (rf c) a b Rule12 ≡ true
        none_of e = absurd (false≢true (sym e ∙ h))

        far : (s : Source) → region.source m ≡ Some s → length (accesses y) ≤ source_number t region y s → rule x p (rf c) a b Rule12 ≡ true
        far s e past =
            let apart = ap (λ (o : Option ℕ). is_same o (operation y j).hart) (no_hart_past y (source_number t region y s) past) in
            none_of (not_twelve y n.hart i j hi hj p rho (source_number t region y s) (rho_j ∙ ap (option_map (source_number t region y)) e) apart)

        near : (k : Name) (z : ℕ) → region.source m ≡ Some (From k) → number_of y k ≡ Some z → source_number t region y (From k) ≡ z → rule x p (rf c) a b Rule12 ≡ true
        near k z e number is = elim (cases_Bool (same_hart y z j)) [
          | inr away ↦ none_of (not_twelve y n.hart i j hi hj p rho z here away)
          | inl one ↦ (
              let harts = same_parts (operation y z).hart (operation y j).hart one in
              let hart : harts.0 ≡ n.hart = one_value (operation y j).hart harts.0 n.hart harts.2 hj in
              let hz : (operation y z).hart ≡ Some n.hart = harts.1 ∙ ap Some hart in
              let ez = number_named y k z number in
              let own : k.hart ≡ n.hart = one_value (operation y z).hart k.hart n.hart (named y z k ez).hart hz in
              let middle = moved t c forward raw n.hart low z k ez own in
              let from = returns_second (From k) e in
              let at : middle.number ≡ from.0 = once t c forward raw middle.number from.0 k middle.name from.2 in
              let hs : (operation x from.0).hart ≡ Some n.hart = (named x from.0 k from.2).hart ∙ ap Some own in
              let place_is : place x from.0 ≡ place y z = sym (ap (place x) at) ∙ middle.place_is in
              rule_twelve x n.hart a b ha hb p (rf c) from.0 from.1 hs
              ∙ ap (λ (ss : List Step). through ss (place x a) (place x from.0) (place x b)) same
              ∙ ap (λ (q : ℕ). through (steps_of y.traces n.hart) q (place x from.0) (place x b)) first.place_is
              ∙ ap (λ (q : ℕ). through (steps_of y.traces n.hart) (place y i) q (place x b)) place_is
              ∙ ap (λ (q : ℕ). through (steps_of y.traces n.hart) (place y i) (place y z) q) second.place_is
              ∙ sym (rule_twelve y n.hart i j hi hj p rho z here hz) ∙ h)
        ]
          where
            here : rho j ≡ Some z
            here = rho_j ∙ ap (option_map (source_number t region y)) e ∙ ap Some is

        by_number : (k : Name) (o : Option ℕ) → region.source m ≡ Some (From k) → number_of y k ≡ o → rule x p (rf c) a b Rule12 ≡ true
        by_number k (Some z) e number = near k z e number (ap (λ (o : Option ℕ). unwrap_or o (length (operations y) + 1 + position_or_len (same_name k) (names t))) number)
        by_number k None e number =
            let is : source_number t region y (From k) ≡ length (operations y) + 1 + position_or_len (same_name k) (names t) =
            ap (λ (o : Option ℕ). unwrap_or o (length (operations y) + 1 + position_or_len (same_name k) (names t))) number in
            let long = length_operations y in
            far (From k) e (omega (arith, is, long))

        by_source : (o : Option Source) → region.source m ≡ o → rule x p (rf c) a b Rule12 ≡ true
        by_source None e = none_of (none_twelve y n.hart i j hi hj p rho (rho_j ∙ ap (option_map (source_number t region y)) e))
        by_source (Some Initial) e = far Initial e (let long = length_operations y in omega (arith, long))
        by_source (Some (From k)) e = by_number k (number_of y k) e refl

    by_rule : (r : Rule) → knows_enough t region r n m ≡ true → rule y p rho i j r ≡ true → rule x p (rf c) a b r ≡ true
    by_rule Rule1 knows h = local Rule1 refl h
    by_rule Rule2 knows h = two_holds knows h
    by_rule Rule3 knows h = three_holds h
    by_rule Rule4 knows h = local Rule4 refl h
    by_rule Rule5 knows h = local Rule5 refl h
    by_rule Rule6 knows h = local Rule6 refl h
    by_rule Rule7 knows h = local Rule7 refl h
    by_rule Rule8 knows h = local Rule8 refl h
    by_rule Rule9 knows h = local Rule9 refl h
    by_rule Rule10 knows h = local Rule10 refl h
    by_rule Rule11 knows h = local Rule11 refl h
    by_rule Rule12 knows h = twelve_holds h
    by_rule Rule13 knows h = local Rule13 refl h

  -- a rule that holds in the run by itself holds in the candidate
  pub rule_there : (r : Rule) → knows_enough t region r n m ≡ true → is_rule t region p r n m y ≡ true → HasRule r
  rule_there r knows h =
      let both = both_of y (λ i j. rule y p rho i j r) n m h in
      record {
        a = (first both.i both.j both.one both.two).number;
        b = (second both.i both.j both.one both.two).number;
        one = (first both.i both.j both.one both.two).name;
        two = (second both.i both.j both.one both.two).name;
        holds = by_rule both.i both.j both.one both.two r knows both.holds;
      }
