-- An execution that no fence may still break prunes the part by itself.
use Rattle.std.proofs.Common.{◌≡◌, ◌↔◌, Bool, true, false, cond, not, Option, None, Some, unwrap_or, List, [], ◌∷◌, ◌++◌, map, inl, inr, refl, sym, ap, ap₂, ◌∙◌}
use Rattle.std.specs.List.{list_any, filter, flat_map}
use Rattle.std.proofs.lemmas.Bool.{and_parts, and_from, or_parts, or_from, true≢false, cases_Bool}
use Rattle.fs_kinds.specs.declared.kind.Kind.{Kind}
use Rattle.fs_kinds.specs.declared.kind.Kind.TheVariants.{RwRw}
use Rattle.fs_kinds.specs.declared.placement.Entry.{Entry}
use Rattle.fs_kinds.specs.declared.slot.Slot.{Slot}
use Rattle.fs_kinds.specs.Kind.{Pair, ReadRead, ReadWrite, WriteRead, WriteWrite}
use Rattle.fs_kinds.specs.Placement.{pairs_kept, all_with}
use Rattle.fs_board_offers.specs.Offers.{Offers, entry_cost, slots, options, offer_at, is_offered_at, are_offered}
use Rattle.fs_model.specs.declared.test.Test.{Test}
use Rattle.fs_model.specs.Execution.{Execution}
use Rattle.fs_model.specs.Allows.{Shows}
use Rattle.fs_cert_evidence.specs.Widths.{Width, width}
use Rattle.fs_board_offers.specs.Parts.{Part, Decision, floor, filled, slots_in_part}
use Rattle.fs_board_offers.specs.Pruning.{breaks, breaking_at, is_empty, is_breakable, least, sum_of, lower_bound, is_no_better, is_pruned}
use Rattle.fs_model_laws.proofs.PlacedPairs.{subset_from, subset_at}
use Rattle.fs_model_laws.proofs.Ranked.{entry_of}
use Rattle.fs_board_offers.proofs.Floors.{decision, floor_entry}
use Rattle.fs_board_offers.proofs.Broken.{fits, is_within, in-breaking, some-any}
use Rattle.fs_board_offers.proofs.Bounded.{rising-filled, exact-under}
use Rattle.fs_board_offers.specs.Questions.{HasTop}
use Rattle.fs_kinds.specs.Slot.{is_rising}

all-kept : (pair : Pair) → pairs_kept (Some RwRw) pair ≡ true
all-kept ReadRead = refl
all-kept ReadWrite = refl
all-kept WriteRead = refl
all-kept WriteWrite = refl

-- where rw,rw fits, each kind does
pub each-fits : (w : Width) (s : Slot) (kind : Option Kind) → fits w (entry_of s (Some RwRw)) ≡ true → fits w (entry_of s kind) ≡ true
each-fits w s kind full =
    subset_from (pairs_kept kind) (w s) (λ pair kept. subset_at (pairs_kept (Some RwRw)) (w s) full pair (all-kept pair))

none-picked : (f : Entry → Bool) (e : Entry) (es : List Entry) (here : Bool) → here ≡ false → es ≡ [] → cond here (e ∷ es) es ≡ []
none-picked f e es true away rest = absurd (true≢false away)
none-picked f e es false away rest = rest

none-breaks : (w : Width) (s : Slot) (kinds : List (Option Kind)) → fits w (entry_of s (Some RwRw)) ≡ true
    → filter (breaks w) (map (entry_of s) kinds) ≡ []
none-breaks w s [] full = refl
none-breaks w s (kind ∷ kinds) full =
    none-picked (breaks w) (entry_of s kind) (filter (breaks w) (map (entry_of s) kinds)) (breaks w (entry_of s kind))
    (ap not (each-fits w s kind full)) (none-breaks w s kinds full)

abbrev filled_entry : Decision → Entry
filled_entry d = record { slot = d.slot; kind = unwrap_or d.decided (Some RwRw) }

empty-from : (es : List Entry) → not (is_empty es) ≡ false → es ≡ []
empty-from [] h = refl
empty-from (e ∷ es) h = absurd (true≢false h)

module _ (offers : Offers) (w : Width) where
  -- nothing breaks the execution at a slot exactly where rw,rw doesn't
  unbroken-entry : (s : Slot) (decided : Option (Option Kind)) → is_offered_at offers (entry_of s (Some RwRw)) ≡ true
      → fits w (floor_entry (decision s decided)) ≡ true → is_breakable offers w (decision s decided) ≡ false
      → fits w (filled_entry (decision s decided)) ≡ true
  unbroken-entry s (Some kind) offered here unbroken = here
  unbroken-entry s None offered here unbroken = elim (cases_Bool (fits w (entry_of s (Some RwRw)))) [
    | inl full ↦ full
    | inr broken ↦ (
        let found = in-breaking offers w (entry_of s (Some RwRw)) offered (ap not broken) (λ e. true) refl in
        absurd (true≢false (sym (some-any (breaking_at offers w (decision s None)) found) ∙ unbroken))
        )
  ]

  filled-entry : (s : Slot) (decided : Option (Option Kind)) → fits w (filled_entry (decision s decided)) ≡ true
      → is_breakable offers w (decision s decided) ≡ false
  filled-entry s (Some kind) full = refl
  filled-entry s None full = ap (λ es. not (is_empty es)) (none-breaks w s (options (offer_at offers s)) full)

  unbroken-filled : (part : Part) → are_offered offers (all_with (Some RwRw) (slots_in_part part)) ≡ true → is_within w (floor part) ≡ true
      → list_any (is_breakable offers w) part ≡ false → is_within w (filled part) ≡ true
  unbroken-filled [] offered within unbroken = refl
  unbroken-filled (d ∷ part) offered within unbroken =
      let here = and_parts (fits w (floor_entry d)) _ within in
      let none = or_parts (is_breakable offers w d) _ unbroken in
      let top = and_parts (is_offered_at offers (entry_of d.slot (Some RwRw))) _ offered in
      and_from _ _ (unbroken-entry d.slot d.decided top.0 here.0 none.0) (unbroken-filled part top.1 here.1 none.1)

  filled-unbroken : (part : Part) → is_within w (filled part) ≡ true → list_any (is_breakable offers w) part ≡ false
  filled-unbroken [] within = refl
  filled-unbroken (d ∷ part) within =
      let here = and_parts (fits w (filled_entry d)) _ within in
      or_from _ _ (filled-entry d.slot d.decided here.0) (filled-unbroken part here.1)

  none-breaking : (part : Part) → list_any (is_breakable offers w) part ≡ false → flat_map (breaking_at offers w) part ≡ []
  none-breaking [] unbroken = refl
  none-breaking (d ∷ part) unbroken =
      let none = or_parts (is_breakable offers w d) _ unbroken in
      ap₂ ◌++◌ (empty-from (breaking_at offers w d) none.0) (none-breaking part none.1)

  -- an execution that can't be broken prunes the part whatever the bound
  pub unbroken-prunes : (bound : Option (List Entry)) (part : Part) → list_any (is_breakable offers w) part ≡ false
      → is_pruned offers bound part (w ∷ []) ≡ true
  unbroken-prunes bound part unbroken =
      ap (λ es. is_no_better offers bound part (sum_of (least (map (entry_cost offers) es)) (lower_bound offers part [])))
      (none-breaking part unbroken)

pub unbroken-shows : (t : Test) (offers : Offers) (part : Part) (e : Execution) → HasTop offers
    → is_rising (slots offers) ≡ true → slots_in_part part ≡ slots offers → Shows t (floor part) e
    → (list_any (is_breakable offers (width t e)) part ≡ false) ↔ Shows t (filled part) e
unbroken-shows t offers part e top rises same shown =
    let exact = exact-under t (floor part) e shown in
    let rising = ap is_rising same ∙ rises in
    let offered : are_offered offers (all_with (Some RwRw) (slots_in_part part)) ≡ true =
    ap (λ ss. are_offered offers (all_with (Some RwRw) ss)) same ∙ top in
    let rising_filled = rising-filled (Some RwRw) part rising in
    let rising_floor = rising-filled None part rising in (
      λ unbroken. record {
        execution = (exact (filled part) rising_filled).0
            (unbroken-filled offers (width t e) part offered ((exact (floor part) rising_floor).1 shown.execution) unbroken);
        outcome = shown.outcome;
      },
      λ full. filled-unbroken offers (width t e) part ((exact (filled part) rising_filled).1 full.execution),
    )
