-- What a walk has found stays right as its cursor moves.
use Rattle.std.proofs.Common.{◌≡◌, ◌⊎◌, ℕ, ◌+◌, ◌<◌, ◌≤◌, Bool, true, false, Option, None, Some, List, [], ◌∷◌, ◌++◌, length, take, drop, inl, inr, sym, ap, ap₂, subst, ◌∙◌, arith}
use Rattle.std.specs.Prelude.{IfSome, MatchOption}
use Rattle.std.proofs.lemmas.Bool.{false≢true, true≢false, false_from_ne_true}
use Rattle.std.proofs.lemmas.List.{take-append-drop, take_all}
use Rattle.std.proofs.lemmas.List.Sums.{sum_by-append}
use Rattle.fs_kinds.specs.declared.placement.Entry.{Entry}
use Rattle.fs_kinds.specs.declared.slot.Slot.{Slot}
use Rattle.fs_kinds.specs.Placement as kinds
use Rattle.fs_cert_evidence.specs.declared.evidence.Pairs.{Pairs}
use Rattle.fs_model_laws.proofs.Ranked.{first-cases, first-less, order, entry_of}
use Rattle.fs_board_offers.specs.Offers.{Offer, Offers, AreOffers, entry_cost, cost, precedes, is_better, IsPlacement}
use Rattle.fs_board_offers.specs.Bounds.{IsNoBetter}
use Rattle.fs_board_offers.proofs.Ranked.{not_before_itself, before-transitive, better-irreflexive}
use Rattle.fs_sites.specs.Plans.{ArePlain, breaks_all, IsFirstBreaking, NoneBreaks}
use Rattle.fs_sites.specs.Sinking.{Fills, Begins, paid, IsAtMost}
use Rattle.fs_sites.specs.Walks.{is_reached, Follows, IsEnd, CostsNoLess, CostsLess, Closes, IsFound, IsBestOf, IsBestBefore, IsBestWith}
use Rattle.fs_sites.proofs.Placed.{are-found, found-behind, fills, fills-length, fills-behind, cost-paid, same-order}
use Rattle.fs_sites.proofs.Reaching.{before-nothing, before-none, before-reached, reached-itself, reached-cases, before-all}

module _ (offers : Offers) (are : AreOffers offers) where
  long : (q : List Entry) → IsPlacement offers q → length q ≡ length offers
  long q is = fills-length offers q (fills offers q are.rising is)

  -- ---- costs

  split-cost : (cursor q : List Entry) → IsPlacement offers q → take (length cursor) q ≡ cursor
      → cost offers q ≡ cost offers cursor + paid (drop (length cursor) offers) (drop (length cursor) q)
  split-cost cursor q is with =
      let n = length cursor in
      let fill = fills offers q are.rising is in
      let rest = cost-paid offers (drop n offers) (drop n q) (found-behind offers offers n (are-found offers are.rising)) (fills-behind n offers q fill) in
      ap (cost offers) (sym (take-append-drop n q))
      ∙ (sum_by-append (entry_cost offers) (take n q) (drop n q)
      ∙ ap₂ (λ a b. a + b) (ap (cost offers) with) rest)

  -- a bound on what is left is one on all that begins so
  pub bounded : (bars : List (List Pairs)) (cursor : List Entry) (least : Option ℕ)
      → ((rest : List Entry) → Fills (drop (length cursor) offers) rest → breaks_all bars (cursor ++ rest) ≡ true
      → IsAtMost least (cost offers cursor + paid (drop (length cursor) offers) rest))
      → (q : List Entry) → IsPlacement offers q → take (length cursor) q ≡ cursor → breaks_all bars q ≡ true
      → IsAtMost least (cost offers q)
  bounded bars cursor least bound q is with breaks =
      let n = length cursor in
      let rest = drop n q in
      let whole : cursor ++ rest ≡ q = sym (ap (λ p. p ++ rest) with) ∙ take-append-drop n q in
      let fill = fills-behind n offers q (fills offers q are.rising is) in
      subst (IsAtMost least) (sym (split-cost cursor q is with)) (bound rest fill (ap (breaks_all bars) whole ∙ breaks))

  -- the best placement costs no more than the bound; where there is no bound nothing is left
  abbrev pub IsDear : (best : Option (List Entry)) → Option ℕ → Type 0
  IsDear best None = Unit {0}
  IsDear None (Some least) = ⊥
  IsDear (Some p) (Some least) = cost offers p ≤ least

  no-less : (best : Option (List Entry)) (least : Option ℕ) (q : List Entry) → IsDear best least → IsAtMost least (cost offers q)
      → CostsNoLess offers best q
  no-less best None q dear bound = absurd bound
  no-less None (Some least) q dear bound = dear
  no-less (Some p) (Some least) q dear bound = omega (arith, dear, bound)

  pub closes : (bars : List (List Pairs)) (cursor : List Entry) (best : Option (List Entry)) (least : Option ℕ) (paid_there : ℕ) (left : List Offer)
      → left ≡ drop (length cursor) offers → paid_there ≡ cost offers cursor
      → ((rest : List Entry) → Fills left rest → breaks_all bars (cursor ++ rest) ≡ true → IsAtMost least (paid_there + paid left rest))
      → IsDear best least → Closes offers bars best cursor
  closes bars cursor best least paid_there left same paid_is bound dear q is with breaks =
      no-less best least q dear (bounded bars cursor least (λ rest fill breaking.
      let there = bound rest (subst (λ (os : List Offer). Fills os rest) (sym same) fill) breaking in
      subst (λ (os : List Offer). IsAtMost least (cost offers cursor + paid os rest)) same
      (subst (λ (n : ℕ). IsAtMost least (n + paid left rest)) paid_is there)) q is with breaks)

  -- ---- the order

  dearer : (p q : List Entry) → is_better offers q p ≡ false → cost offers p ≤ cost offers q
  dearer p q worse = by_order (order (cost offers q) (cost offers p))
    where
      by_order : (cost offers q < cost offers p) ⊎ ((cost offers q ≡ cost offers p) ⊎ (cost offers p < cost offers q)) → cost offers p ≤ cost offers q
      by_order (inl less) = absurd (true≢false (sym (first-less (cost offers q) (cost offers p) (precedes offers q p) less) ∙ worse))
      by_order (inr (inl same)) = omega (arith, same)
      by_order (inr (inr more)) = omega (arith, more)

  not-better : (p q : List Entry) → cost offers p ≤ cost offers q → (precedes offers q p ≡ true → ⊥) → is_better offers q p ≡ false
  not-better p q low after = false_from_ne_true (is_better offers q p) (λ better.
      elim (first-cases (cost offers q) (cost offers p) (precedes offers q p) better) [
        | inl less ↦ omega (arith, less, low)
        | inr same ↦ after same.1
      ])

  less-not-better : (p q : List Entry) → cost offers p < cost offers q → is_better offers q p ≡ false
  less-not-better p q low = false_from_ne_true (is_better offers q p) (λ better.
      elim (first-cases (cost offers q) (cost offers p) (precedes offers q p) better) [
        | inl less ↦ omega (arith, less, low)
        | inr same ↦ (let equal = same.0 in omega (arith, equal, low))
      ])

  module _ (plain : ArePlain offers) (bars : List (List Pairs)) where
    -- the first placement comes before the second
    never-both : (p q : List Entry) → kinds.precedes p q ≡ true → precedes offers q p ≡ true → ⊥
    never-both p q first second =
        let around = before-transitive offers p q p (same-order offers plain p q ∙ first) second in
        true≢false (sym around ∙ not_before_itself offers p)

    closed-by : (cursor q : List Entry) (best : Option (List Entry)) → IsBestBefore offers bars cursor best
        → CostsNoLess offers best q → take (length cursor) q ≡ cursor → IsNoBetter offers best q
    closed-by cursor q None is low with = low
    closed-by cursor q (Some p) is low with =
        not-better p q low (never-both p q (before-all p cursor q is.found.seen with))

    found-reached : (cursor : List Entry) (best : Option (List Entry)) → IfSome best (IsFound offers bars (λ q. kinds.precedes q cursor))
        → IfSome best (IsFound offers bars (λ q. is_reached q cursor))
    found-reached cursor None found = found
    found-reached cursor (Some p) found = record {
      placement = found.placement;
      breaks = found.breaks;
      seen = before-reached p cursor found.seen;
    }

    -- what is closed needn't be gone through
    pub with-closed : (cursor : List Entry) (best : Option (List Entry)) → Begins offers cursor → IsBestBefore offers bars cursor best
        → Closes offers bars best cursor → IsBestWith offers bars cursor best
    with-closed cursor best begins is closes = record {
      found = found-reached cursor best is.found;
      none_better = λ q placement breaks reached.
          elim (reached-cases offers cursor q begins (fills offers q are.rising placement) reached) [
            | inl before ↦ is.none_better q placement breaks before
            | inr with ↦ closed-by cursor q best is (closes q placement with breaks) with
          ];
    }

    -- ---- at a whole placement

    whole : (cursor q : List Entry) → IsPlacement offers cursor → IsPlacement offers q → take (length cursor) q ≡ cursor → q ≡ cursor
    whole cursor q here is with =
        let same = long q is ∙ sym (long cursor here) in
        sym (take_all (length cursor) q (omega (arith, same))) ∙ with

    pub unbroken-closes : (cursor : List Entry) (best : Option (List Entry)) → IsPlacement offers cursor → breaks_all bars cursor ≡ false
        → Closes offers bars best cursor
    unbroken-closes cursor best here unbroken q is with breaks =
        absurd (true≢false (sym breaks ∙ (ap (breaks_all bars) (whole cursor q here is with) ∙ unbroken)))

    pub dear-closes : (cursor : List Entry) (best : Option (List Entry)) → IsPlacement offers cursor → CostsNoLess offers best cursor
        → Closes offers bars best cursor
    dear-closes cursor best here low q is with breaks = subst (CostsNoLess offers best) (sym (whole cursor q here is with)) low

    seen-worse : (cursor q : List Entry) (best : Option (List Entry)) → CostsLess offers best cursor → IsNoBetter offers best q
        → is_better offers q cursor ≡ false
    seen-worse cursor q None less worse = absurd worse
    seen-worse cursor q (Some p) less worse =
        let more = dearer p q worse in
        less-not-better cursor q (omega (arith, less, more))

    pub with-this : (cursor : List Entry) (best : Option (List Entry)) → Begins offers cursor → IsPlacement offers cursor
        → breaks_all bars cursor ≡ true → CostsLess offers best cursor → IsBestBefore offers bars cursor best
        → IsBestWith offers bars cursor (Some cursor)
    with-this cursor best begins here breaking less is = record {
      found = record { placement = here; breaks = breaking; seen = reached-itself cursor };
      none_better = λ q placement breaks reached.
          elim (reached-cases offers cursor q begins (fills offers q are.rising placement) reached) [
            | inl before ↦ seen-worse cursor q best less (is.none_better q placement breaks before)
            | inr with ↦ (
                let same = whole cursor q here placement with in
                ap (λ r. is_better offers r cursor) same ∙ better-irreflexive offers cursor
                )
          ];
    }

    -- ---- moves

    moved : (first second : List Entry → Bool) (best : Option (List Entry))
        → ((q : List Entry) → IsPlacement offers q → second q ≡ first q) → IsBestOf offers bars first best → IsBestOf offers bars second best
    moved first second None same is = record {
      found = tt;
      none_better = λ q placement breaks seen. is.none_better q placement breaks (sym (same q placement) ∙ seen);
    }
    moved first second (Some p) same is = record {
      found = record {
        placement = is.found.placement;
        breaks = is.found.breaks;
        seen = same p is.found.placement ∙ is.found.seen;
      };
      none_better = λ q placement breaks seen. is.none_better q placement breaks (sym (same q placement) ∙ seen);
    }

    pub at-first : IsBestBefore offers bars [] None
    at-first = record {
      found = tt;
      none_better = λ q placement breaks seen. false≢true (sym (before-nothing q) ∙ seen);
    }

    pub with-none : (cursor : List Entry) (s : Slot) (best : Option (List Entry)) → length cursor < length offers
        → IsBestBefore offers bars cursor best → IsBestBefore offers bars (cursor ++ (entry_of s None ∷ [])) best
    with-none cursor s best short is =
        moved (λ q. kinds.precedes q cursor) (λ q. kinds.precedes q (cursor ++ (entry_of s None ∷ []))) best
        (λ q placement. before-none cursor q s (longer q placement)) is
      where
        longer : (q : List Entry) → IsPlacement offers q → length cursor < length q
        longer q placement = let same = long q placement in omega (arith, same, short)

    pub moved-on : (old new : List Entry) (best : Option (List Entry)) → Follows offers old new → IsBestWith offers bars old best
        → IsBestBefore offers bars new best
    moved-on old new best follows is =
        moved (λ q. is_reached q old) (λ q. kinds.precedes q new) best (λ q placement. follows.same q (fills offers q are.rising placement)) is

    pub at-end : (cursor : List Entry) (best : Option (List Entry)) → IsEnd offers cursor → IsBestWith offers bars cursor best
        → MatchOption best (NoneBreaks offers bars) (IsFirstBreaking offers bars)
    at-end cursor None end is =
        λ q placement. false_from_ne_true (breaks_all bars q) (λ breaks. is.none_better q placement breaks (end q (fills offers q are.rising placement)))
    at-end cursor (Some p) end is = record {
      placement = is.found.placement;
      breaks = is.found.breaks;
      better = λ q placement better. false_from_ne_true (breaks_all bars q) (λ breaks.
          true≢false (sym better ∙ is.none_better q placement breaks (end q (fills offers q are.rising placement))));
    }

    pub deeper : (cursor new : List Entry) (s : Slot) (e : Entry) (best : Option (List Entry)) → new ≡ cursor ++ (e ∷ []) → e ≡ entry_of s None
        → length cursor < length offers → IsBestBefore offers bars cursor best → IsBestBefore offers bars new best
    deeper cursor new s e best grown empty short is =
        subst (λ (p : List Entry). IsBestBefore offers bars p best) (sym (grown ∙ ap (λ f. cursor ++ (f ∷ [])) empty))
        (with-none cursor s best short is)
