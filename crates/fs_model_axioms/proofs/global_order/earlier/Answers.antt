use Rattle.std.proofs.Common.{◌≡◌, ◌∙◌, ◌<◌, ◌≤◌, ◌+◌, ◌*◌, ◌%◌, ◌^◌, ℕ, List, length, set, get_or, take, bit_or, refl, sym, arith}
use Rattle.std.proofs.lemmas.List.{length-set}
use Rattle.fs_model_axioms.specs.Earlier.{AreEarlier}
use Rattle.fs_model_axioms.proofs.Earlier.{IsSeen, none_earlier, none_seen, seen_more, seen_past, earlier_more, earlier_past}
use Rattle.fs_model_axioms.proofs.global_order.earlier.Goals.{then-number-lt64, else-number-lt64}
use Rattle.fs_model_axioms.proofs.global_order.earlier.Goals as goal

pub loop-number-init : goal.loop-number-init
loop-number-init c = record { len = refl; seen = none_seen; before = none_earlier 64 }

-- the bits and the table, for the list so far
record Kept (listed : List ℕ) (seen : ℕ) (table : List ℕ) : Type 0 where
  len : length table ≡ 64
  bits : IsSeen listed seen
  entries : AreEarlier listed table

taken : (xs table table' : List ℕ) (i seen seen' n : ℕ) → i < length xs → get_or xs i 0 < 64 → n ≡ get_or xs i 0
    → Kept (take i xs) seen table
    → table' ≡ set table n (bit_or (get_or table n 0) seen) → seen' ≡ bit_or seen (1 * 2 ^ get_or xs i 0 % 2 ^ 64)
    → Kept (take (i + 1) xs) seen' table'
taken xs table table' i seen seen' n low fits e kept e-table e-seen = record {
  len = rw e-table (length-set table n _ ∙ kept.len);
  bits = rw e-seen (seen_more xs i seen (get_or xs i 0) low refl fits kept.bits);
  entries = rw e-table (earlier_more xs table i seen n low (sym e) (omega arith) kept.len kept.bits kept.entries);
}

left : (xs table table' : List ℕ) (i seen seen' : ℕ) → i < length xs → 64 ≤ get_or xs i 0 → Kept (take i xs) seen table
    → table' ≡ table → seen' ≡ seen → Kept (take (i + 1) xs) seen' table'
left xs table table' i seen seen' low past kept e-table e-seen = record {
  len = rw e-table kept.len;
  bits = rw e-seen (seen_past xs i seen low past kept.bits);
  entries = rw e-table (earlier_past xs table i low past kept.entries);
}

pub loop-number-preserved : goal.loop-number-preserved
loop-number-preserved c =
    let inv = c.loop-number.invariant in
    let before : Kept (take c.loop-number.number-index c.args.listed.now) c.loop-number.seen c.loop-number.earlier =
    record { len = inv.len; bits = inv.seen; entries = inv.before } in
    let after : Kept (take (c.loop-number.number-index + 1) c.args.listed.now) c.if-number-lt64.seen c.if-number-lt64.earlier =
    elim c.if-number-lt64.branch [
      | then-number-lt64 w ↦ taken c.args.listed.now c.loop-number.earlier _ c.loop-number.number-index c.loop-number.seen _
          w.from.result
          c.loop-number-test.true w.if-number-lt64.true w.from.ensures before w.earlier-is w.seen-is
      | else-number-lt64 w ↦ left c.args.listed.now c.loop-number.earlier _ c.loop-number.number-index c.loop-number.seen _
          c.loop-number-test.true w.if-number-lt64.false before w.earlier-is w.seen-is
    ] in
    record { len = after.len; seen = after.bits; before = after.entries }
