-- A tree that refutes regions: a showing candidate that is in one of them has a cycle of the tree.
use Rattle.std.proofs.Common.{◌≡◌, ℕ, ◌<◌, ◌==◌, ◌⊎◌, Bool, true, ◌&&◌, not, Option, None, Some, List, [], ◌∷◌, ◌++◌, length, filter, inl, inr, refl, sym, ◌∙◌, ap, subst, arith}
use Rattle.std.specs.Prelude.{All, nat_lt, nat_le, slice_get, take, drop}
use Rattle.std.specs.List.{AllZip, Contains, list_all, zip}
use Rattle.std.proofs.lemmas.Bool.{false≢true, and_parts, ltb-true, leb-true, eqb-true}
use Rattle.std.proofs.lemmas.List.{length-append}
use Rattle.std.proofs.lemmas.List.Concat.{flat_map-cons}
use Rattle.std.proofs.lemmas.List.Elements.{Contains-append_left, Contains-append_right}
use Rattle.fs_kinds.specs.declared.placement.Entry.{Entry}
use Rattle.fs_kinds.specs.declared.reason.OperationName.{OperationName as Name}
use Rattle.fs_model.specs.declared.test.Test.{Test}
use Rattle.fs_model.specs.Test.{GoesForward}
use Rattle.fs_model.specs.Test.{address_of}
use Rattle.fs_model.specs.Trace.{start_with}
use Rattle.fs_model.specs.Operations.{PreExecution, operation, place, same_word, steps_of, po, paired}
use Rattle.fs_model.specs.Preserved.{Rule8}
use Rattle.fs_model.specs.Witness.{name_of}
use Rattle.fs_model.proofs.OptionalNumbers.{same_from, same_parts}
use Rattle.fs_model.proofs.HartOperations.{in_list}
use Rattle.fs_model.proofs.ProgramOrder.{po_place, po_total}
use Rattle.fs_model.proofs.RangeTests.{all_below}
use Rattle.fs_cert_evidence.specs.Candidates.{Candidate, IsShowing, IsRaw, runs_of, rf, co}
use Rattle.fs_cert_evidence.specs.Certificate.{Link}
use Rattle.fs_cert_evidence.specs.Judged.{Preserved}
use Rattle.fs_cert_evidence.specs.Cycles.{IsCycle, most_links}
use Rattle.fs_verdict_laws.proofs.Sourced.{source_is, co_is, store_to_parts}
use Rattle.fs_cand.proofs.Distinct.{named, rises}
use Rattle.fs_verdict_laws.specs.Local.{HasLink}
use Rattle.fs_verdict_laws.proofs.Cycles.{cycle_by_links}
use Rattle.fs_values.proofs.Contained.{none_in}
use Rattle.fs_cert_evidence.specs.Regions.{Region, Source, Initial, From, same_name, stored_at}
use Rattle.fs_cert_evidence.specs.Musts.{must, must_meet, must_pair, is_before, overwrites}
use Rattle.fs_cert_evidence.specs.Certificate.{Inference, ByChoice, BySource, ByOrder, ByCases, Filter, Cycle, Stale, Reversed, Parted}
use Rattle.fs_cert_evidence.specs.Trees.{is_open, must_be_cycle, follows, left_after, refutes, cycle_in, cycles_in, HasCycleOf}
use Rattle.fs_verdict_laws.proofs.Lists.{first_in, in_cases, in_filter, some_in}
use Rattle.fs_verdict_laws.proofs.Names.{once, names_differ, runs_forward}
use Rattle.fs_verdict_laws.proofs.Coherent.{harts_differ, co_not_both}
use Rattle.fs_verdict_laws.proofs.Edges.{later, edge_there, other_harts}
use Rattle.fs_verdict_laws.proofs.Splits.{IsMember, Goes, own_run, goes_by_choice, goes_by_source, goes_by_order, goes_by_cases, goes_by_outcome}

-- each element beside the one of the other list
zipped : {X : Type 0} (f : X × X → Bool) (R : X → X → Type 0) (xs ys : List X) → length xs ≡ length ys → ((x y : X) → f (x, y) ≡ true → R x y)
    → list_all f (zip xs ys) ≡ true → AllZip R xs ys
zipped f R [] [] long each all = tt
zipped f R [] (y ∷ ys) long each all = absurd (omega (arith, long))
zipped f R (x ∷ xs) [] long each all = absurd (omega (arith, long))
zipped f R (x ∷ xs) (y ∷ ys) long each all =
    let parts = and_parts (f (x, y)) (list_all f (zip xs ys)) all in
    (each x y parts.0, zipped f R xs ys (omega (arith, long)) each parts.1)

turned_long : (links : List Link) → length links ≡ length (drop 1 links ++ take 1 links)
turned_long [] = refl
turned_long (l ∷ ls) = let long = length-append ls (l ∷ []) in omega (arith, long)

module _ (t : Test) (p : List Entry) (c : Candidate) (forward : All GoesForward t.codes) (shows : IsShowing t c) where
  abbrev raw : IsRaw t c
  raw = shows.raw

  abbrev x : PreExecution
  x = runs_of t c

  -- ---- what ends a region

  module _ (region : Region) (member : IsMember t c region) where
    cycle_there : (links : List Link) → must_be_cycle t p region links ≡ true → IsCycle t p c links
    cycle_there links h =
        let parts = and_parts _ _ h in
        let sizes = and_parts (nat_lt 0 (length links)) (nat_le (length links) most_links) parts.0 in
        let some = ltb-true 0 (length links) sizes.0 in
        let most = leb-true (length links) most_links sizes.1 in
        cycle_by_links t p c forward raw links (omega (arith, some)) most
        (zipped (λ pair. must t region p pair.0.cause pair.0.operation pair.1.operation) (λ link next. HasLink t p c link.operation next.operation link.cause)
        links (drop 1 links ++ take 1 links) (turned_long links)
        (λ link next holds. edge_there t c forward raw region member.inside p link.cause link.operation next.operation holds) parts.1)

    -- what is earlier in the code is earlier in program order
    in_program : (m a : ℕ) (store load : Name) → name_of x m ≡ Some store → name_of x a ≡ Some load → store.hart ≡ load.hart → store.at < load.at → po x m a ≡ true
    in_program m a store load first second own low =
        let fm = named x m store first in
        let fa = named x a load second in
        let same = same_from (operation x m).hart (operation x a).hart load.hart (fm.hart ∙ ap Some own) fa.hart in
        elim (po_total x m a same (names_differ x m a store load first second (λ e. let at = ap (λ (n : Name). n.at) e in omega (arith, low, at)))) [
          | inl before ↦ before
          | inr after ↦ absurd (
              let u = fm.step in
              let v = fa.step in
              let here : slice_get (steps_of c.traces load.hart) (place x m) ≡ Some u.0 = subst (λ (h : ℕ). slice_get (steps_of c.traces h) (place x m) ≡ Some u.0) own u.1 in
              let of = runs_forward t c forward raw load.hart (in_list c.traces load.hart (place x a) v.0 v.1) in
              let less = rises of.0 of.2 (start_with of.1) (steps_of c.traces load.hart) (place x a) (place x m) v.0 u.0 of.3 of.4 (po_place x a m after) v.1 here in
              omega (arith, less, low, u.2, v.2))
        ]

    never_stale : (load store : Name) → ((store.hart == load.hart) && (nat_lt store.at load.at && overwrites t region store load)) ≡ true → ⊥
    never_stale load store h =
        let parts = and_parts (store.hart == load.hart) _ h in
        let rest = and_parts (nat_lt store.at load.at) _ parts.1 in
        let is = later t c forward raw region member.inside store load rest.1 in
        let order = co_is t c raw is.s is.b is.later in
        let from = source_is t c raw is.a is.s is.source in
        let second = store_to_parts x order.location is.b order.second in
        let first = store_to_parts x order.location is.s order.first in
        let word = same_parts (operation x is.s).address (operation x is.a).address from.same in
        let same : same_word x is.b is.a ≡ true = same_from (operation x is.b).address (operation x is.a).address (address_of order.location) second.1 (word.2 ∙ sym word.1 ∙ first.1) in
        let before = in_program is.b is.a store load is.two is.one (eqb-true store.hart load.hart parts.0) (ltb-true store.at load.at rest.0) in
        false≢true (sym (shows.latest is.a is.s is.b is.source second.0 same before) ∙ is.later)

    -- the pair, by its numbers
    pub record IsPair (load store : Name) : Type 0 where
      pub r : ℕ
      pub w : ℕ
      pub one : name_of x r ≡ Some load
      pub two : name_of x w ≡ Some store
      pub before : po x r w ≡ true
      pub pair : paired x r w ≡ true

    pair_there : (load store : Name) → must_pair t region load store ≡ true → IsPair load store
    pair_there load store h =
        let link = edge_there t c forward raw region member.inside [] (Preserved Rule8) load store h in
        let parts = and_parts (po x link.0 link.1) (paired x link.0 link.1) link.4 in
        record { r = link.0; w = link.1; one = link.2; two = link.3; before = parts.0; pair = parts.1 }

    never_reversed : (load store : Name) → must_pair t region load store ≡ true → is_before region store (region.source load) ≡ true → ⊥
    never_reversed load store pair h = by_source (region.source load) refl h
      where
        by_source : (o : Option Source) → region.source load ≡ o → is_before region store o ≡ true → ⊥
        by_source None e k = false≢true k
        by_source (Some Initial) e k = false≢true k
        by_source (Some (From s)) e k =
            let at = pair_there load store pair in
            let from = member.inside.sources load (From s) e in
            let order = member.inside.orders store s k in
            let r_is : from.0 ≡ at.r = once t c forward raw from.0 at.r load from.2 at.one in
            let w_is : order.0 ≡ at.w = once t c forward raw order.0 at.w store order.2 at.two in
            let s_is : order.1 ≡ from.1 = once t c forward raw order.1 from.1 s order.3 from.4 in
            let source : rf c at.r ≡ Some from.1 = subst (λ (z : ℕ). rf c z ≡ Some from.1) r_is from.3 in
            let forth = (shows.atomic at.r at.w from.1 at.before at.pair source).0 in
            let back : co c at.w from.1 ≡ true = subst (λ (z : ℕ). co c z from.1 ≡ true) w_is (subst (λ (z : ℕ). co c order.0 z ≡ true) s_is order.4) in
            co_not_both t c raw from.1 at.w forth back

    never_parted : (load store other : Name) → must_pair t region load store ≡ true → not (other.hart == store.hart) ≡ true → region.before other store ≡ true
        → overwrites t region other load ≡ true → ⊥
    never_parted load store other pair foreign before h =
        let at = pair_there load store pair in
        let is = later t c forward raw region member.inside other load h in
        let order = member.inside.orders other store before in
        let r_is : is.a ≡ at.r = once t c forward raw is.a at.r load is.one at.one in
        let w_is : order.1 ≡ at.w = once t c forward raw order.1 at.w store order.3 at.two in
        let m_is : order.0 ≡ is.b = once t c forward raw order.0 is.b other order.2 is.two in
        let source : rf c at.r ≡ Some is.s = subst (λ (z : ℕ). rf c z ≡ Some is.s) r_is is.source in
        let next : co c is.b at.w ≡ true = subst (λ (z : ℕ). co c z at.w ≡ true) m_is (subst (λ (z : ℕ). co c order.0 z ≡ true) w_is order.4) in
        (shows.atomic at.r at.w is.s at.before at.pair source).1 is.b (harts_differ x is.b at.w other store is.two at.two (other_harts other.hart store.hart foreign)) is.later next

    -- ---- one inference

    pub open_there : is_open t region ≡ true
    open_there = all_below (λ hart. nat_lt 0 (length (region.runs hart))) (length t.codes) (λ hart low. some_in (region.runs hart) (own_run t c hart) (member.inside.runs hart low))

  still_open : (regions : List Region) → Goes t c regions → Goes t c (filter (is_open t) regions)
  still_open regions goes = record {
    region = goes.region;
    there = in_filter (is_open t) regions goes.region goes.there (open_there goes.region goes.member);
    member = goes.member;
  }

  -- a region that is left, or a cycle
  step : (region : Region) → IsMember t c region → (inference : Inference) → follows t p region inference ≡ true
      → Goes t c (left_after t region inference) ⊎ HasCycleOf t p (cycle_in inference) c
  step region member (ByChoice name) h = inl (still_open _ (goes_by_choice t c name region h member))
  step region member (BySource load) h =
      inl (still_open _ (goes_by_source t c forward shows load region h member))
  step region member (ByOrder first second) h =
      let parts = and_parts (must_meet t region stored_at stored_at first second) _ h in
      inl (still_open _ (goes_by_order t c forward shows first second region parts.0 (and_parts (not (same_name first second)) _ parts.1).0 member))
  step region member (ByCases condition) h = inl (still_open _ (goes_by_cases t c forward shows condition region h member))
  step region member (Filter hart) h = inl (still_open _ (goes_by_outcome t c forward shows hart region member))
  step region member (Cycle links) h = inr (links, first_in links links [] refl, cycle_there region member links h)
  step region member (Stale load store) h = absurd (never_stale region member load store h)
  step region member (Reversed load store) h =
      let parts = and_parts (must_pair t region load store) _ h in absurd (never_reversed region member load store parts.0 parts.1)
  step region member (Parted load store other) h =
      let parts = and_parts (must_pair t region load store) _ h in
      let rest = and_parts (not (other.hart == store.hart)) _ parts.1 in
      let last = and_parts (region.before other store) _ rest.1 in
      absurd (never_parted region member load store other parts.0 rest.0 last.0 last.1)

  -- ---- the tree

  more : (inference : Inference) (inferences : List Inference) → HasCycleOf t p (cycles_in inferences) c → HasCycleOf t p (cycles_in (inference ∷ inferences)) c
  more inference inferences has = (
    has.0,
    subst (λ (zs : List (List Link)). Contains zs has.0) (sym (flat_map-cons cycle_in inference inferences)) (Contains-append_right (cycle_in inference) (cycles_in inferences) has.0 has.1),
    has.2,
  )

  here : (inference : Inference) (inferences : List Inference) → HasCycleOf t p (cycle_in inference) c → HasCycleOf t p (cycles_in (inference ∷ inferences)) c
  here inference inferences has = (
    has.0,
    subst (λ (zs : List (List Link)). Contains zs has.0) (sym (flat_map-cons cycle_in inference inferences)) (Contains-append_left (cycle_in inference) (cycles_in inferences) has.0 has.1),
    has.2,
  )

  pub walked : (regions : List Region) (inferences : List Inference) → refutes t p regions inferences ≡ true → (region : Region) → Contains regions region
      → IsMember t c region → HasCycleOf t p (cycles_in inferences) c
  walked [] [] holds region there member = absurd (none_in region there)
  walked [] (inference ∷ inferences) holds region there member = absurd (none_in region there)
  walked (r ∷ regions) [] holds region there member = absurd (false≢true holds)
  walked (r ∷ regions) (inference ∷ inferences) holds region there member =
      let parts = and_parts (follows t p r inference) _ holds in
      elim (in_cases r regions region there) [
        | inl same ↦ elim (step r (subst (IsMember t c) (sym same) member) inference parts.0) [
          | inl goes ↦ more inference inferences (walked (left_after t r inference ++ regions) inferences parts.1 goes.region
              (Contains-append_left (left_after t r inference) regions goes.region goes.there) goes.member)
          | inr has ↦ here inference inferences has
        ]
        | inr later ↦ more inference inferences (walked (left_after t r inference ++ regions) inferences parts.1 region
            (Contains-append_right (left_after t r inference) regions region later) member)
      ]
