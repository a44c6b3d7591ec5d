-- A showing candidate that is in a region is in one of those that the region splits into.
use Rattle.std.proofs.Common.{◌≡◌, ℕ, ◌+◌, ◌<◌, ◌==◌, Bool, true, false, ◌&&◌, not, Option, None, Some, is_some, option_map, option_and_then, unwrap_or, List, [], ◌∷◌, ◌++◌, length, map, filter, get_or, inl, inr, refl, sym, ◌∙◌, ap, subst, arith}
use Rattle.std.specs.Prelude.{All, nat_lt, slice_get, take, drop, if◌then◌else◌}
use Rattle.std.specs.List.{Contains, enumerate_from, list_all, list_any}
use Rattle.std.proofs.lemmas.Bool.{cases_Bool, false≢true, and_parts, and_from, and_cases, or_cases, or_left, or_right, or_parts, eqb-true, eq-eqb, lt-ltb}
use Rattle.std.proofs.lemmas.List.Elements.{Contains-append_cases}
use Rattle.fs_kinds.specs.declared.reason.OperationName.{OperationName as Name}
use Rattle.fs_instr.specs.declared.instr.Instr.{Instr}
use Rattle.fs_instr.specs.Instructions.{is_memory}
use Rattle.fs_model.specs.declared.test.Test.{Test}
use Rattle.fs_model.specs.Condition.{Condition, Always, Never, RegisterIs, LocationIs, Deny, Both, Either, SpeaksOf}
use Rattle.fs_model.specs.Test.{GoesForward, address_of}
use Rattle.fs_model.specs.declared.step.Step.{Step}
use Rattle.fs_model.specs.Numbers.{is_same, numbers_below}
use Rattle.fs_model.specs.Operations.{initial_store, operation, is_load, place, steps_of, trace_of}
use Rattle.fs_model.specs.Execution.{code_of, initial_words}
use Rattle.fs_model.specs.Trace.{start_with}
use Rattle.fs_model.specs.Witness.{name_of, step_name}
use Rattle.fs_model.proofs.HartOperations.{has_name, in_list}
use Rattle.fs_model.proofs.OptionalNumbers.{same_parts, same_from, some_parts, none_there, one_value}
use Rattle.fs_model.proofs.ProgramOrder.{po_place}
use Rattle.fs_model.proofs.WhichOperation.{Access, Initial, Past, which}
use Rattle.fs_cert_evidence.specs.Candidates.{Candidate, IsRaw, IsShowing, runs_of, rf}
use Rattle.fs_verdict_laws.proofs.Sourced.{IsSource, source_is, load_sourced, co_total}
use Rattle.fs_cand.proofs.Distinct.{named, rises}
use Rattle.fs_values.proofs.Contained.{none_in, later_in, in_map}
use Rattle.fs_cert_evidence.specs.Regions.{Region, Source, From, In, Returns, IsStoredBefore, same_name, same_source, name_in, names, truth, address_at, loaded_at, stored_at, loads_at}
use Rattle.fs_cert_evidence.specs.Regions as regions
use Rattle.fs_cert_evidence.specs.Musts.{must_be, must_meet, may}
use Rattle.fs_cert_evidence.specs.Splits.{keep, with_source, with_order, with_wanted, with_run, chosen_at, insert, rising, by_choice, agree, agrees_initially, can_be_source, from_store, from_initial, from_nothing, from_source, is_left, sources_for, by_source, by_order, ways, ways_of, by_cases, by_outcome}
use Rattle.fs_cert_evidence.specs.Trees.{is_name}
use Rattle.fs_verdict_laws.proofs.Lists.{from_take, from_drop, get_in, first_in, in_cases, in_filter, in_numbered, any_in, any_from, all_of}
use Rattle.fs_verdict_laws.proofs.Names.{name_is, is_itself, name_there, hart_low, named_or_none, runs_forward, once, names_differ}
use Rattle.fs_verdict_laws.proofs.Runs.{done, at_load}
use Rattle.fs_verdict_laws.proofs.Alone.{name_in_once, not_true}
use Rattle.fs_verdict_laws.proofs.Edges.{accesses_there, stores_there, differ}
use Rattle.fs_verdict_laws.proofs.Outcomes.{may_be, not_is}

-- ---- lists of numbers that rise

in_insert : (n : ℕ) (ms : List ℕ) → Contains (insert n ms) n
in_insert n [] = first_in n n [] refl
in_insert n (m ∷ ms) = by_case (nat_lt n m) (n == m) refl (in_insert n ms)
  where
    by_case : (b d : Bool) → (n == m) ≡ d → Contains (insert n ms) n → Contains (if b then n ∷ m ∷ ms else if d then m ∷ ms else m ∷ insert n ms) n
    by_case true d e rest = first_in n n (m ∷ ms) refl
    by_case false true e rest = first_in n m ms (sym (eqb-true n m e))
    by_case false false e rest = later_in m (insert n ms) n rest

kept_in : (n : ℕ) (ms : List ℕ) (k : ℕ) → Contains ms k → Contains (insert n ms) k
kept_in n [] k has = absurd (none_in k has)
kept_in n (m ∷ ms) k has = by_case (nat_lt n m) (n == m) (kept_in n ms k)
  where
    by_case : (b d : Bool) → (Contains ms k → Contains (insert n ms) k) → Contains (if b then n ∷ m ∷ ms else if d then m ∷ ms else m ∷ insert n ms) k
    by_case true d rest = later_in n (m ∷ ms) k has
    by_case false true rest = has
    by_case false false rest = elim (in_cases m ms k has) [
      | inl same ↦ first_in k m (insert n ms) same
      | inr later ↦ later_in m (insert n ms) k (rest later)
    ]

in_rising : (ns : List ℕ) (k : ℕ) → Contains ns k → Contains (rising ns) k
in_rising [] k has = absurd (none_in k has)
in_rising (n ∷ ns) k has = elim (in_cases n ns k has) [
  | inl same ↦ subst (Contains (insert n (rising ns))) same (in_insert n (rising ns))
  | inr later ↦ kept_in n (rising ns) k (in_rising ns k later)
]

-- ---- names

memory_there : (code : List Instr) (at : ℕ) (o : Option Instr) → slice_get code at ≡ o → unwrap_or (option_map is_memory o) false ≡ true → (i : Instr) × (slice_get code at ≡ Some i)
memory_there code at None e h = absurd (false≢true h)
memory_there code at (Some i) e h = (i, e)

pub name_low : (t : Test) (name : Name) → is_name t name ≡ true → name.hart < length t.codes
name_low t name h =
    let there = memory_there (code_of t name.hart) name.at (slice_get (code_of t name.hart) name.at) refl h in
    in_list t.codes name.hart name.at there.0 there.1

is_same_source : (source : Source) → same_source source source ≡ true
is_same_source regions.Initial = refl
is_same_source (From store) = is_itself store store refl

-- ---- members

module _ (t : Test) (c : Candidate) where
  -- the candidate is in the region, whose wanted conditions speak of what is there
  pub record IsMember (region : Region) : Type 0 where
    pub inside : In t c region
    pub spoken : (condition : Condition) (v : Bool) → Contains region.wanted (condition, v) → SpeaksOf (length t.codes) (length t.locations) condition

  -- it is in one of these regions
  pub record Goes (left : List Region) : Type 0 where
    pub region : Region
    pub there : Contains left region
    pub member : IsMember region

  abbrev pub own_run : ℕ → List Step
  own_run hart = steps_of c.traces hart

  pub in_keep : (hart : ℕ) (test : List Step → Bool) (region : Region) → test (own_run hart) ≡ true → IsMember region → IsMember (keep hart test region)
  in_keep hart test region holds member = record {
    inside = record {
      runs = λ h low. by_hart h (h == hart) refl low;
      sources = member.inside.sources;
      orders = member.inside.orders;
      wanted = member.inside.wanted;
    };
    spoken = member.spoken;
  }
    where
      by_hart : (h : ℕ) (b : Bool) → (h == hart) ≡ b → h < length t.codes → Contains (if b then filter test (region.runs h) else region.runs h) (own_run h)
      by_hart h true e low = in_filter test (region.runs h) (own_run h) (member.inside.runs h low) (subst (λ k. test (own_run k) ≡ true) (sym (eqb-true h hart e)) holds)
      by_hart h false e low = member.inside.runs h low

  in_with_run : (hart : ℕ) (region : Region) → In t c region → In t c (with_run hart (own_run hart) region)
  in_with_run hart region inside = record {
    runs = λ h low. by_hart h (h == hart) refl low;
    sources = inside.sources;
    orders = inside.orders;
    wanted = inside.wanted;
  }
    where
      by_hart : (h : ℕ) (b : Bool) → (h == hart) ≡ b → h < length t.codes → Contains (if b then own_run hart ∷ [] else region.runs h) (own_run h)
      by_hart h true e low = first_in (own_run h) (own_run hart) [] (ap own_run (sym (eqb-true h hart e)))
      by_hart h false e low = inside.runs h low

  in_with_source : (load : Name) (source : Source) (region : Region) → Returns t c load source → IsMember region → IsMember (with_source load source region)
  in_with_source load source region returns member = record {
    inside = record {
      runs = member.inside.runs;
      sources = λ name other e. by_name name other (same_name name load) refl e;
      orders = member.inside.orders;
      wanted = member.inside.wanted;
    };
    spoken = member.spoken;
  }
    where
      by_name : (name : Name) (other : Source) (b : Bool) → same_name name load ≡ b → (if b then Some source else region.source name) ≡ Some other → Returns t c name other
      by_name name other true e k =
          let one : source ≡ other = (let both : Some source ≡ Some other = k in cc) in
          subst (λ (n : Name). Returns t c n other) (sym (name_is name load e)) (subst (λ (s : Source). Returns t c load s) one returns)
      by_name name other false e k = member.inside.sources name other k

  in_with_order : (first second : Name) (region : Region) → IsStoredBefore t c first second → IsMember region → IsMember (with_order first second region)
  in_with_order first second region before member = record {
    inside = record {
      runs = member.inside.runs;
      sources = member.inside.sources;
      orders = λ a b e. elim (or_cases (same_name a first && same_name b second) (region.before a b) e) [
        | inl new ↦ (
            let parts = and_parts (same_name a first) (same_name b second) new in
            subst (λ (n : Name). IsStoredBefore t c n b) (sym (name_is a first parts.0))
            (subst (λ (n : Name). IsStoredBefore t c first n) (sym (name_is b second parts.1)) before))
        | inr had ↦ member.inside.orders a b had
      ];
      wanted = member.inside.wanted;
    };
    spoken = member.spoken;
  }

  -- ---- by choice

  pub goes_by_choice : (name : Name) (region : Region) → is_name t name ≡ true → IsMember region → Goes (by_choice name region)
  goes_by_choice name region h member =
      let n = chosen_at name.at (own_run name.hart) in
      let there = in_map (chosen_at name.at) (region.runs name.hart) (own_run name.hart) (member.inside.runs name.hart (name_low t name h)) in
      record {
        region = keep name.hart (λ run. chosen_at name.at run == n) region;
        there = in_map (λ k. keep name.hart (λ run. chosen_at name.at run == k) region) (rising (map (chosen_at name.at) (region.runs name.hart))) n
            (in_rising (map (chosen_at name.at) (region.runs name.hart)) n there);
        member = in_keep name.hart (λ run. chosen_at name.at run == n) region (eq-eqb n n refl) member;
      }

  module _ (forward : All GoesForward t.codes) (shows : IsShowing t c) where
    raw : IsRaw t c
    raw = shows.raw

    -- ---- by source

    module _ (load : Name) (region : Region) (member : IsMember region) (a : ℕ) (name : name_of (runs_of t c) a ≡ Some load) where
      module _ (s : ℕ) (from : rf c a ≡ Some s) where
        is : IsSource t c raw a s
        is = source_is t c raw a s from

        -- the word that is loaded and stored
        word : (w : ℕ) × ((operation (runs_of t c) a).loaded ≡ Some w)
        word = some_parts (operation (runs_of t c) a).loaded is.load

        agrees : (store : Name) → name_of (runs_of t c) s ≡ Some store → agree (own_run load.hart) load (own_run store.hart) store ≡ true
        agrees store other =
            let first = done t c forward raw a load name in
            let second = done t c forward raw s store other in
            let same = same_parts (operation (runs_of t c) s).address (operation (runs_of t c) a).address is.same in
            and_from _ _ (same_from _ _ same.0 (first.address ∙ same.2) (second.address ∙ same.1))
            (same_from _ _ word.0 (first.loaded ∙ word.1) (second.stored ∙ is.word ∙ word.1))

        earlier : (store : Name) → name_of (runs_of t c) s ≡ Some store → store.hart ≡ load.hart → store.at < load.at
        earlier store other own =
            let x = runs_of t c in
            let first = named x a load name in
            let second = named x s store other in
            let before = po_place x s a (shows.own a s from (same_from (operation x s).hart (operation x a).hart load.hart (second.hart ∙ ap Some own) first.hart)) in
            let u = first.step in
            let v = second.step in
            let here : slice_get (steps_of c.traces load.hart) (place x s) ≡ Some v.0 = subst (λ (h : ℕ). slice_get (steps_of c.traces h) (place x s) ≡ Some v.0) own v.1 in
            let of = runs_forward t c forward raw load.hart (in_list c.traces load.hart (place x a) u.0 u.1) in
            let less = rises of.0 of.2 (start_with of.1) (steps_of c.traces load.hart) (place x s) (place x a) v.0 u.0 of.3 of.4 before here u.1 in
            omega (arith, less, u.2, v.2)

        can_be : (store : Name) → name_of (runs_of t c) s ≡ Some store → can_be_source load store ≡ true
        can_be store other = elim (cases_Bool (store.hart == load.hart)) [
          | inl own ↦ or_right _ _ (lt-ltb store.at load.at (earlier store other (eqb-true store.hart load.hart own)))
          | inr away ↦ or_left _ _ (ap not away)
        ]

        returns_store : (store : Name) → name_of (runs_of t c) s ≡ Some store → Returns t c load (From store)
        returns_store store other = (a, s, name, from, other)

        narrowed : (store : Name) → name_of (runs_of t c) s ≡ Some store → (b : Bool) → (store.hart == load.hart) ≡ b
            → IsMember (if b
            then keep load.hart (λ run. agree run load run store) region
            else keep load.hart (λ run. list_any (λ other. agree run load other store) (region.runs store.hart))
            (keep store.hart (λ other. list_any (λ run. agree run load other store) (region.runs load.hart)) region))
        narrowed store other true e =
            in_keep load.hart (λ run. agree run load run store) region
            (subst (λ (h : ℕ). agree (own_run load.hart) load (own_run h) store ≡ true) (eqb-true store.hart load.hart e) (agrees store other)) member
        narrowed store other false e =
            let first = hart_low t c raw a load name in
            let second = hart_low t c raw s store other in
            in_keep load.hart (λ run. list_any (λ q. agree run load q store) (region.runs store.hart)) _
            (any_in (λ q. agree (own_run load.hart) load q store) (region.runs store.hart) (own_run store.hart) (member.inside.runs store.hart second) (agrees store other))
            (in_keep store.hart (λ q. list_any (λ run. agree run load q store) (region.runs load.hart)) region
            (any_in (λ run. agree run load (own_run store.hart) store) (region.runs load.hart) (own_run load.hart) (member.inside.runs load.hart first) (agrees store other)) member)

        -- it is the one that is known, if one is
        left : (source : Source) → name_of (runs_of t c) s ≡ name_in source → is_left (region.source load) source ≡ true
        left source other = by_known (region.source load) refl
          where
            returns_at : (known : Source) → region.source load ≡ Some known → (r : ℕ) × (rf c a ≡ Some r) × (name_of (runs_of t c) r ≡ name_in known)
            returns_at known e =
                let it = member.inside.sources load known e in
                (it.1, subst (λ (z : ℕ). rf c z ≡ Some it.1) (once t c forward raw it.0 a load it.2 name) it.3, it.4)

            by_known : (o : Option Source) → region.source load ≡ o → is_left o source ≡ true
            by_known None e = refl
            by_known (Some known) e =
                let from' = returns_at known e in
                let same : from'.0 ≡ s = one_value (rf c a) from'.0 s from'.1 from in
                let one : known ≡ source = name_in_once known source (sym from'.2 ∙ ap (name_of (runs_of t c)) same ∙ other) in
                subst (λ (z : Source). same_source known z ≡ true) one (is_same_source known)

        there_is : (source : Source) → name_of (runs_of t c) s ≡ name_in source → Contains (regions.Initial ∷ map From (filter (can_be_source load) (names t))) source
            → Contains (by_source t load region) (from_source t load region source)
        there_is source other has =
            later_in (from_nothing load region) (map (from_source t load region) (sources_for t load region)) (from_source t load region source)
            (in_map (from_source t load region) (sources_for t load region) source
            (in_filter (is_left (region.source load)) (regions.Initial ∷ map From (filter (can_be_source load) (names t))) source has (left source other)))

        goes_store : (store : Name) → name_of (runs_of t c) s ≡ Some store → Goes (by_source t load region)
        goes_store store other = record {
          region = from_store load region store;
          there = there_is (From store) other (later_in regions.Initial (map From (filter (can_be_source load) (names t))) (From store)
              (in_map From (filter (can_be_source load) (names t)) store
              (in_filter (can_be_source load) (names t) store (name_there t c raw s store other) (can_be store other))));
          member = in_with_source load (From store) _ (returns_store store other) (narrowed store other (store.hart == load.hart) refl);
        }

        goes_initial : (k : ℕ) → k < length (initial_words t) → operation (runs_of t c) s ≡ initial_store (k, get_or (initial_words t) k 0) → Goes (by_source t load region)
        goes_initial k low it =
            let first = done t c forward raw a load name in
            let same = same_parts (operation (runs_of t c) s).address (operation (runs_of t c) a).address is.same in
            let address : (operation (runs_of t c) a).address ≡ Some (address_of k) = same.2 ∙ sym same.1 ∙ ap (λ o. o.address) it in
            let loaded : (operation (runs_of t c) a).loaded ≡ Some (get_or (initial_words t) k 0) = sym is.word ∙ ap (λ o. o.stored) it in
            let none : name_of (runs_of t c) s ≡ None =
            ap (λ (h : Option ℕ). option_and_then (λ hart. option_map (step_name hart) (slice_get (trace_of (runs_of t c) s) (place (runs_of t c) s))) h) (ap (λ o. o.hart) it) in
            let agrees_there : agrees_initially t load (own_run load.hart) ≡ true =
            any_in (λ numbered. is_same (address_at (own_run load.hart) load.at) (Some (address_of numbered.0)) && is_same (loaded_at (own_run load.hart) load.at) (Some numbered.1))
            (enumerate_from 0 (initial_words t)) (0 + k, get_or (initial_words t) k 0) (in_numbered 0 (initial_words t) k 0 low)
            (and_from _ _ (same_from _ _ (address_of k) (first.address ∙ address) (ap (λ m. Some (address_of m)) (omega arith)))
            (same_from _ _ (get_or (initial_words t) k 0) (first.loaded ∙ loaded) refl)) in
            record {
              region = from_initial t load region;
              there = there_is regions.Initial none (first_in regions.Initial regions.Initial (map From (filter (can_be_source load) (names t))) refl);
              member = in_with_source load regions.Initial _ (a, s, name, from, none) (in_keep load.hart (agrees_initially t load) region agrees_there member);
            }

        goes_source : Goes (by_source t load region)
        goes_source = elim (which (runs_of t c) s) [
          | Access few ↦ (let n = has_name (runs_of t c) s few in goes_store n.0 n.1)
          | Initial k low at it ↦ goes_initial k low it
          | Past far it ↦ absurd (none_there (operation (runs_of t c) s).stored (ap (λ o. o.stored) it) is.store)
        ]

    goes_nothing : (load : Name) (region : Region) → IsMember region → not (loads_at (own_run load.hart) load.at) ≡ true → Goes (by_source t load region)
    goes_nothing load region member holds = record {
      region = from_nothing load region;
      there = first_in (from_nothing load region) (from_nothing load region) (map (from_source t load region) (sources_for t load region)) refl;
      member = in_keep load.hart (λ run. not (loads_at run load.at)) region holds member;
    }

    pub goes_by_source : (load : Name) (region : Region) → is_name t load ≡ true → IsMember region → Goes (by_source t load region)
    goes_by_source load region h member = elim (named_or_none (runs_of t c) load) [
      | inl there ↦ elim (cases_Bool (is_load (runs_of t c) there.0)) [
        | inl loads ↦ (
            let source = load_sourced t c raw there.0 loads in
            goes_source load region member there.0 there.1 source.0 source.1)
        | inr quiet ↦ goes_nothing load region member (ap not (ap is_some (done t c forward raw there.0 load there.1).loaded ∙ quiet))
      ]
      | inr none ↦ goes_nothing load region member (not_true (loads_at (own_run load.hart) load.at) (λ loads.
          let there = at_load t c forward raw load (name_low t load h) loads in none there.0 there.1))
    ]

    -- ---- by order

    pub goes_by_order : (first second : Name) (region : Region) → must_meet t region stored_at stored_at first second ≡ true → not (same_name first second) ≡ true
        → IsMember region → Goes (by_order first second region)
    goes_by_order first second region h other member =
        let x = runs_of t c in
        let at = any_from (λ location. must_be t region stored_at first location && must_be t region stored_at second location) (numbers_below (length t.locations)) h in
        let parts = and_parts (must_be t region stored_at first at.0) (must_be t region stored_at second at.0) at.2 in
        let one = accesses_there t c forward raw region member.inside stored_at first at.0 parts.0 in
        let two = accesses_there t c forward raw region member.inside stored_at second at.0 parts.1 in
        elim (co_total t c raw one.a two.a (stores_there t c forward raw region member.inside first at.0 one.a parts.0 one.name)
        (stores_there t c forward raw region member.inside second at.0 two.a parts.1 two.name)
        (same_from (operation x one.a).address (operation x two.a).address (address_of at.0) one.address two.address)) [
          | inl same ↦ absurd (names_differ x one.a two.a first second one.name two.name (differ first second other) same)
          | inr (inl forth) ↦ record {
            region = with_order first second region;
            there = first_in (with_order first second region) (with_order first second region) (with_order second first region ∷ []) refl;
            member = in_with_order first second region (one.a, two.a, one.name, two.name, forth) member;
          }
          | inr (inr back) ↦ record {
            region = with_order second first region;
            there = later_in (with_order first second region) (with_order second first region ∷ []) (with_order second first region)
                (first_in (with_order second first region) (with_order second first region) [] refl);
            member = in_with_order second first region (two.a, one.a, two.name, one.name, back) member;
          }
        ]

    -- ---- by cases

    Holds : List (Condition × Bool) → Type 0
    Holds way = (d : Condition) (u : Bool) → Contains way (d, u) → (truth t c d ≡ u) × SpeaksOf (length t.codes) (length t.locations) d

    one_holds : (d : Condition) (u : Bool) → truth t c d ≡ u → SpeaksOf (length t.codes) (length t.locations) d → Holds ((d, u) ∷ [])
    unfolding Holds
    one_holds d u e spoken d' u' has = elim (in_cases (d, u) [] (d', u') has) [
      | inl same ↦ subst (λ (w : Condition × Bool). (truth t c w.0 ≡ w.1) × SpeaksOf (length t.codes) (length t.locations) w.0) same (e, spoken)
      | inr none ↦ absurd (none_in (d', u') none)
    ]

    two_hold : (d : Condition) (u : Bool) (way : List (Condition × Bool)) → truth t c d ≡ u → SpeaksOf (length t.codes) (length t.locations) d → Holds way → Holds ((d, u) ∷ way)
    unfolding Holds
    two_hold d u way e spoken rest d' u' has = elim (in_cases (d, u) way (d', u') has) [
      | inl same ↦ subst (λ (w : Condition × Bool). (truth t c w.0 ≡ w.1) × SpeaksOf (length t.codes) (length t.locations) w.0) same (e, spoken)
      | inr later ↦ rest d' u' later
    ]

    record HasWay (left : List (List (Condition × Bool))) : Type 0 where
      way : List (Condition × Bool)
      there : Contains left way
      holds : Holds way

    way_of : (condition : Condition) (v : Bool) → truth t c condition ≡ v → SpeaksOf (length t.codes) (length t.locations) condition
        → nat_lt 0 (length (ways condition v)) ≡ true → HasWay (ways condition v)
    way_of Always v e spoken some = absurd (false≢true some)
    way_of Never v e spoken some = absurd (false≢true some)
    way_of (RegisterIs hart reg w) v e spoken some = absurd (false≢true some)
    way_of (LocationIs location w) v e spoken some = absurd (false≢true some)
    way_of (Deny d) v e spoken some = record { way = (d, not v) ∷ []; there = first_in ((d, not v) ∷ []) ((d, not v) ∷ []) [] refl; holds = one_holds d (not v) (not_is (truth t c d) v e) spoken }
    way_of (Both d f) true e spoken some =
        let parts = and_parts (truth t c d) (truth t c f) e in
        record { way = (d, true) ∷ (f, true) ∷ []; there = first_in ((d, true) ∷ (f, true) ∷ []) ((d, true) ∷ (f, true) ∷ []) [] refl; holds = two_hold d true ((f, true) ∷ []) parts.0 spoken.0 (one_holds f true parts.1 spoken.1) }
    way_of (Both d f) false e spoken some = elim (and_cases (truth t c d) (truth t c f) e) [
      | inl one ↦ record { way = (d, false) ∷ []; there = first_in ((d, false) ∷ []) ((d, false) ∷ []) (((f, false) ∷ []) ∷ []) refl; holds = one_holds d false one spoken.0 }
      | inr other ↦ record { way = (f, false) ∷ []; there = later_in ((d, false) ∷ []) (((f, false) ∷ []) ∷ []) ((f, false) ∷ []) (first_in ((f, false) ∷ []) ((f, false) ∷ []) [] refl); holds = one_holds f false other spoken.1 }
    ]
    way_of (Either d f) true e spoken some = elim (or_cases (truth t c d) (truth t c f) e) [
      | inl one ↦ record { way = (d, true) ∷ []; there = first_in ((d, true) ∷ []) ((d, true) ∷ []) (((f, true) ∷ []) ∷ []) refl; holds = one_holds d true one spoken.0 }
      | inr other ↦ record { way = (f, true) ∷ []; there = later_in ((d, true) ∷ []) (((f, true) ∷ []) ∷ []) ((f, true) ∷ []) (first_in ((f, true) ∷ []) ((f, true) ∷ []) [] refl); holds = one_holds f true other spoken.1 }
    ]
    way_of (Either d f) false e spoken some =
        let parts = or_parts (truth t c d) (truth t c f) e in
        record { way = (d, false) ∷ (f, false) ∷ []; there = first_in ((d, false) ∷ (f, false) ∷ []) ((d, false) ∷ (f, false) ∷ []) [] refl; holds = two_hold d false ((f, false) ∷ []) parts.0 spoken.0 (one_holds f false parts.1 spoken.1) }

    in_with_wanted : (region : Region) (wanted : List (Condition × Bool)) → Holds wanted → IsMember region → IsMember (with_wanted wanted region)
    unfolding Holds
    in_with_wanted region wanted holds member = record {
      inside = record {
        runs = member.inside.runs;
        sources = member.inside.sources;
        orders = member.inside.orders;
        wanted = λ condition v has. (holds condition v has).0;
      };
      spoken = λ condition v has. (holds condition v has).1;
    }

    pub goes_by_cases : (k : ℕ) (region : Region) → nat_lt 0 (length (ways_of (slice_get region.wanted k))) ≡ true → IsMember region → Goes (by_cases k region)
    unfolding Holds
    goes_by_cases k region some member = by_wanted (slice_get region.wanted k) refl some
      where
        by_wanted : (o : Option (Condition × Bool)) → slice_get region.wanted k ≡ o → nat_lt 0 (length (ways_of o)) ≡ true → Goes (by_cases k region)
        by_wanted None e some = absurd (false≢true some)
        by_wanted (Some (condition, v)) e some =
            let had : (d : Condition) (u : Bool) → Contains region.wanted (d, u) → (truth t c d ≡ u) × SpeaksOf (length t.codes) (length t.locations) d =
            λ d u has. (member.inside.wanted d u has, member.spoken d u has) in
            let there = get_in k region.wanted (condition, v) e in
            let found = way_of condition v (member.inside.wanted condition v there) (member.spoken condition v there) some in
            record {
              region = with_wanted (take k region.wanted ++ found.way ++ drop (k + 1) region.wanted) region;
              there = in_map (λ way. with_wanted (take k region.wanted ++ way ++ drop (k + 1) region.wanted) region) (ways_of (slice_get region.wanted k)) found.way
                  (subst (λ (o : Option (Condition × Bool)). Contains (ways_of o) found.way) (sym e) found.there);
              member = in_with_wanted region _ (λ d u has. elim (Contains-append_cases (take k region.wanted ++ found.way) (drop (k + 1) region.wanted) (d, u) has) [
                | inl front ↦ elim (Contains-append_cases (take k region.wanted) found.way (d, u) front) [
                  | inl before ↦ had d u (from_take k region.wanted (d, u) before)
                  | inr new ↦ found.holds d u new
                ]
                | inr after ↦ had d u (from_drop (k + 1) region.wanted (d, u) after)
              ]) member;
            }

    -- ---- by the outcome

    pub goes_by_outcome : (hart : ℕ) (region : Region) → IsMember region → Goes (by_outcome t hart region)
    goes_by_outcome hart region member =
        let test = λ (run : List Step). list_all (λ wanted. may t (with_run hart run region) wanted.0 wanted.1) region.wanted in
        record {
          region = keep hart test region;
          there = first_in (keep hart test region) (keep hart test region) [] refl;
          member = in_keep hart test region
              (all_of (λ wanted. may t (with_run hart (own_run hart) region) wanted.0 wanted.1) region.wanted (λ wanted has.
              may_be t c forward raw (with_run hart (own_run hart) region) (in_with_run hart region member.inside) wanted.0 wanted.1
              (member.spoken wanted.0 wanted.1 has) (member.inside.wanted wanted.0 wanted.1 has)))
              member;
        }
