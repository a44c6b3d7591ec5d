-- A depth-first walk: what is not visited yet, the path, and what is done.
use Rattle.std.proofs.Common.{◌≡◌, ◌≢◌, ◌⊎◌, ℕ, ◌+◌, ◌-◌, ◌*◌, ◌%◌, ◌^◌, ◌<◌, ◌≤◌, List, length, get_or, set, take, drop, true, false, refl, sym, ap, ◌∙◌, inl, inr, arith, bit_and, add_assoc, add-zero}
use Rattle.std.specs.Int.{bit_at, bit_not, w64, trailing_zeros}
use Rattle.std.specs.Prelude.{slice_index}
use Rattle.std.proofs.lemmas.Nat.Bits.{bit_at-zero, bit_at_ones, bit_at_ones_above, bit_at-trailing_zeros}
use Rattle.std.proofs.lemmas.Nat.{and_le_l, and_le_r}
use Rattle.std.proofs.lemmas.List.{get_or-drop, get_or-set_same, get_or-set_other, length-set, length-drop}
use Rattle.std.proofs.lemmas.Bool.{cases_eq, cases_lt}
use Rattle.fs_cand_witness.specs.Edges.{has_edge}
use Rattle.fs_cand_witness.specs.Orders.{IsOrderBelow, IsCycleBelow}
use Rattle.fs_cand_witness.specs.inner.Paths.{IsTrail}
use Rattle.fs_cand_witness.proofs.Listed.{order_below, cycle_below}
use Rattle.fs_cand_witness.proofs.Bitwise.{IsTaken, IsPut, count_below, count_taken, count_all, count_none, both_bits, no_bit, lowest, taken, edge, no_edge}

abbrev pub OnPath : List ℕ → ℕ → ℕ → Type 0
OnPath path len x = (i : ℕ) × (i < len) × (slice_index path i ≡ x)

abbrev pub IsDone : List ℕ → ℕ → ℕ → ℕ → Type 0
IsDone order left n x = (i : ℕ) × (left ≤ i) × (i < n) × (slice_index order i ≡ x)

-- `white` has the numbers that are not visited yet, `grey` those on the path; from `left` on the order has those that
-- are done.
pub record IsWalk (rows order path : List ℕ) (n left len white grey : ℕ) : Type 0 where
  pub ordered : length order ≡ 64
  pub laid : length path ≡ 64
  pub small : n ≤ 64
  pub most : left ≤ n
  pub counted : count_below white n + len ≡ left
  pub white_small : (x : ℕ) → bit_at white x ≡ 1 → x < n
  pub path_small : (i : ℕ) → i < len → slice_index path i < n
  pub path_taken : (i : ℕ) → i < len → bit_at white (slice_index path i) ≡ 0
  pub path_grey : (i : ℕ) → i < len → bit_at grey (slice_index path i) ≡ 1
  pub grey_path : (x : ℕ) → bit_at grey x ≡ 1 → OnPath path len x
  pub differ : (i j : ℕ) → i < j → j < len → slice_index path i ≢ slice_index path j
  pub edges : (i : ℕ) → i + 1 < len → has_edge rows (slice_index path i) (slice_index path (i + 1)) ≡ true
  pub upward : (i j : ℕ) → i ≤ j → j < len → has_edge rows (slice_index path j) (slice_index path i) ≡ false
  pub done_small : (i : ℕ) → left ≤ i → i < n → slice_index order i < n
  pub done_white : (i x : ℕ) → left ≤ i → i < n → bit_at white x ≡ 1 → has_edge rows (slice_index order i) x ≡ false
  pub done_path : (i j : ℕ) → left ≤ i → i < n → j < len → has_edge rows (slice_index order i) (slice_index path j) ≡ false
  pub forward : (i j : ℕ) → i ≤ j → left ≤ i → j < n → has_edge rows (slice_index order j) (slice_index order i) ≡ false
  pub covered : (x : ℕ) → x < n → (bit_at white x ≡ 1) ⊎ (OnPath path len x ⊎ IsDone order left n x)

zero_one : (p : ℕ) → p ≡ 0 → p ≡ 1 → ⊥
zero_one p none one = absurd (omega arith)

started : (rows order path : List ℕ) (n : ℕ) → n ≤ 64 → length order ≡ 64 → length path ≡ 64 → IsWalk rows order path n n 0 (2 ^ n - 1) 0
started rows order path n small ordered laid = record {
  ordered = ordered;
  laid = laid;
  small = small;
  most = omega arith;
  counted = omega (arith, count_all (2 ^ n - 1) n (λ x h. bit_at_ones n x h));
  white_small = λ x h. elim (cases_lt x n) [ inl low ↦ low | inr high ↦ absurd (zero_one (bit_at (2 ^ n - 1) x) (bit_at_ones_above n x high) h) ];
  path_small = λ i h. absurd (omega arith);
  path_taken = λ i h. absurd (omega arith);
  path_grey = λ i h. absurd (omega arith);
  grey_path = λ x h. absurd (zero_one (bit_at 0 x) (bit_at-zero x) h);
  differ = λ i j low high. absurd (omega arith);
  edges = λ i h. absurd (omega arith);
  upward = λ i j low high. absurd (omega arith);
  done_small = λ i low high. absurd (omega arith);
  done_white = λ i x low high h. absurd (omega arith);
  done_path = λ i j low high h. absurd (omega arith);
  forward = λ i j low from high. absurd (omega arith);
  covered = λ x h. inl (bit_at_ones n x h);
}

pub start : (rows order path : List ℕ) (n white : ℕ) → white ≡ 2 ^ n - 1 → n ≤ 64 → length order ≡ 64 → length path ≡ 64 → IsWalk rows order path n n 0 white 0
start rows order path n white all small ordered laid = rw all (started rows order path n small ordered laid)

-- One number more on the path.
module _ (rows order path : List ℕ) (n left len white grey v white' grey' : ℕ)
    (so_far : IsWalk rows order path n left len white grey) (take : IsTaken white white' v) (put : IsPut grey grey' v)
    (link : (i : ℕ) → i + 1 ≡ len → has_edge rows (get_or path i 0) v ≡ true) where
  v_small : v < n
  v_small = so_far.white_small v take.was

  pub fewer : count_below white' n + 1 ≡ count_below white n
  fewer = count_taken white white' v n v_small so_far.small take

  pub room : len < left
  room = omega (arith, fewer, so_far.counted)

  pub fits : len < 64
  fits = omega (arith, room, so_far.most, so_far.small)

  pub short : len + 1 ≤ n
  short = omega (arith, room, so_far.most)

  pub long : length (set path len v) ≡ 64
  long = length-set path len v ∙ so_far.laid

  pub same : get_or (set path len v) len 0 ≡ v
  same = let within : len < length path = omega (arith, fits, so_far.laid) in rw get_or-set_same refl

  other : (i : ℕ) → i ≢ len → get_or (set path len v) i 0 ≡ get_or path i 0
  other i ne = rw get_or-set_other refl

  off_path : (i : ℕ) → i < len → get_or path i 0 ≢ v
  off_path i h e = zero_one (bit_at white v) (ap (λ (x : ℕ). bit_at white x) (sym e) ∙ so_far.path_taken i h) take.was

  new_small : (i : ℕ) → i < len + 1 → get_or (set path len v) i 0 < n
  new_small i h = elim (cases_eq i len) [
    | inl e ↦ rw (e, same) v_small
    | inr ne ↦ rw (other i ne) (so_far.path_small i (omega arith))
  ]

  new_edges : (i : ℕ) → i + 1 < len + 1 → has_edge rows (get_or (set path len v) i 0) (get_or (set path len v) (i + 1) 0) ≡ true
  new_edges i h = let ne : i ≢ len = omega arith in elim (cases_eq (i + 1) len) [
    | inl e ↦ rw (e, same, other i ne) (link i e)
    | inr ne' ↦ rw (other i ne, other (i + 1) ne') (so_far.edges i (omega arith))
  ]

  new_grey_path : (x : ℕ) → bit_at grey' x ≡ 1 → OnPath (set path len v) (len + 1) x
  new_grey_path x h = elim (cases_eq x v) [
    | inl e ↦ (len, omega arith, same ∙ sym e)
    | inr ne ↦ (
        let was = so_far.grey_path x (sym (put.others x ne) ∙ h) in
        (was.0, omega (arith, was.1), other was.0 (omega (arith, was.1)) ∙ was.2))
  ]

  new_grey : (i : ℕ) → i < len + 1 → bit_at grey' (get_or (set path len v) i 0) ≡ 1
  new_grey i h = elim (cases_eq i len) [
    | inl e ↦ rw (e, same) put.now
    | inr ne ↦ (let low : i < len = omega arith in rw (other i ne) (put.others (get_or path i 0) (off_path i low) ∙ so_far.path_grey i low))
  ]

  -- an edge leads back from it
  pub trail : bit_and (get_or rows v 0) grey' ≢ 0 → grey' < 2 ^ 64 → IsTrail rows (set path len v) (len + 1)
  trail some within =
      let common : ℕ = bit_and (get_or rows v 0) grey' in
      let found = bit_at-trailing_zeros w64 (bit_and (get_or rows v 0) grey') (omega (arith, some)) (omega (arith, within, and_le_r (get_or rows v 0) grey')) in
      let bits = both_bits (get_or rows v 0) grey' (trailing_zeros w64 (bit_and (get_or rows v 0) grey')) found.1 in
      let at = new_grey_path (trailing_zeros w64 (bit_and (get_or rows v 0) grey')) bits.1 in
      record {
        some = omega arith;
        fits = omega (arith, fits);
        below = λ i h. omega (arith, new_small i h, so_far.small);
        next = new_edges;
        back = λ last e. (
          at.0,
          at.1,
          (let end : last ≡ len = omega arith in
              rw (end, same, at.2) (edge (get_or rows v 0) (trailing_zeros w64 (bit_and (get_or rows v 0) grey')) bits.0)),
        );
      }

  pub trail_small : (i : ℕ) → i < len + 1 → get_or (set path len v) i 0 < n
  trail_small = new_small

  -- no edge leads back from it
  pub pushed : bit_and (get_or rows v 0) grey' ≡ 0 → IsWalk rows order (set path len v) n left (len + 1) white' grey'
  pushed none = record {
    ordered = so_far.ordered;
    laid = length-set path len v ∙ so_far.laid;
    small = so_far.small;
    most = so_far.most;
    counted = omega (arith, count_taken white white' v n v_small so_far.small take, so_far.counted);
    white_small = λ x h. so_far.white_small x (take.less x h);
    path_small = new_small;
    path_taken = λ i h. elim (cases_eq i len) [
      | inl e ↦ rw (e, same) take.gone
      | inr ne ↦ (
          let low : i < len = omega arith in
          rw (other i ne) (take.others (get_or path i 0) (omega (arith, so_far.path_small i low, so_far.small)) (off_path i low) ∙ so_far.path_taken i low))
    ];
    path_grey = new_grey;
    grey_path = new_grey_path;
    differ = λ i j low high. elim (cases_eq j len) [
      | inl e ↦ (let ne : i ≢ len = omega arith in rw (e, same, other i ne) (off_path i (omega arith)))
      | inr ne ↦ (let ne' : i ≢ len = omega arith in rw (other i ne', other j ne) (so_far.differ i j low (omega arith)))
    ];
    edges = new_edges;
    upward = λ i j low high. elim (cases_eq j len) [
      | inl e ↦ (
          rw (e, same) (no_edge (get_or rows v 0) (get_or (set path len v) i 0) (no_bit (get_or rows v 0) grey' (get_or (set path len v) i 0) none (new_grey i (omega arith)))))
      | inr ne ↦ (let ne' : i ≢ len = omega arith in rw (other i ne', other j ne) (so_far.upward i j low (omega arith)))
    ];
    done_small = so_far.done_small;
    done_white = λ i x low high h. so_far.done_white i x low high (take.less x h);
    done_path = λ i j low high h. elim (cases_eq j len) [
      | inl e ↦ rw (e, same) (so_far.done_white i v low high take.was)
      | inr ne ↦ rw (other j ne) (so_far.done_path i j low high (omega arith))
    ];
    forward = so_far.forward;
    covered = λ x h. elim (cases_eq x v) [
      | inl e ↦ inr (inl (len, omega arith, same ∙ sym e))
      | inr ne ↦ (elim (so_far.covered x h) [
        | inl white ↦ inl (take.others x (omega (arith, so_far.small)) ne ∙ white)
        | inr seen ↦ (elim seen [
          | inl on ↦ inr (inl (on.0, omega (arith, on.1), other on.0 (omega (arith, on.1)) ∙ on.2))
          | inr done ↦ inr (inr done)
        ])
      ])
    ];
  }

-- The last number of the path is done.
module _ (rows order path : List ℕ) (n left len white grey at grey' : ℕ)
    (so_far : IsWalk rows order path n left len white grey) (some : 0 < len) (here : get_or path (len - 1) 0 ≡ at)
    (stuck : bit_and (get_or rows at 0) white ≡ 0) (take : IsTaken grey grey' at) where
  pub some_left : 0 < left
  some_left = omega (arith, so_far.counted)

  last : len - 1 < len
  last = omega arith

  now : get_or (set order (left - 1) at) (left - 1) 0 ≡ at
  now = let within : left - 1 < length order = omega (arith, some_left, so_far.most, so_far.small, so_far.ordered) in rw get_or-set_same refl

  before : (i : ℕ) → i ≢ left - 1 → get_or (set order (left - 1) at) i 0 ≡ get_or order i 0
  before i ne = rw get_or-set_other refl

  off_rest : (i : ℕ) → i < len - 1 → get_or path i 0 ≢ at
  off_rest i h e = so_far.differ i (len - 1) h last (e ∙ sym here)

  pub popped : IsWalk rows (set order (left - 1) at) path n (left - 1) (len - 1) white grey'
  popped = record {
    ordered = length-set order (left - 1) at ∙ so_far.ordered;
    laid = so_far.laid;
    small = so_far.small;
    most = omega (arith, so_far.most);
    counted = omega (arith, so_far.counted, some_left);
    white_small = so_far.white_small;
    path_small = λ i h. so_far.path_small i (omega arith);
    path_taken = λ i h. so_far.path_taken i (omega arith);
    path_grey = λ i h.
        let low : i < len = omega arith in
        take.others (get_or path i 0) (omega (arith, so_far.path_small i low, so_far.small)) (off_rest i h) ∙ so_far.path_grey i low;
    grey_path = λ x h.
        let was = so_far.grey_path x (take.less x h) in
        elim (cases_eq was.0 (len - 1)) [
          | inl e ↦ absurd (
              let is : x ≡ at = sym was.2 ∙ (ap (λ (i : ℕ). get_or path i 0) e ∙ here) in
              zero_one (bit_at grey' at) take.gone (ap (λ (y : ℕ). bit_at grey' y) (sym is) ∙ h))
          | inr ne ↦ (was.0, omega (arith, was.1), was.2)
        ];
    differ = λ i j low high. so_far.differ i j low (omega arith);
    edges = λ i h. so_far.edges i (omega arith);
    upward = λ i j low high. so_far.upward i j low (omega arith);
    done_small = λ i low high. elim (cases_eq i (left - 1)) [
      | inl e ↦ rw (e, now, ← here) (so_far.path_small (len - 1) last)
      | inr ne ↦ rw (before i ne) (so_far.done_small i (omega arith) high)
    ];
    done_white = λ i x low high h. elim (cases_eq i (left - 1)) [
      | inl e ↦ rw (e, now) (no_edge (get_or rows at 0) x (no_bit (get_or rows at 0) white x stuck h))
      | inr ne ↦ rw (before i ne) (so_far.done_white i x (omega arith) high h)
    ];
    done_path = λ i j low high h. elim (cases_eq i (left - 1)) [
      | inl e ↦ rw (e, now, ← here) (so_far.upward j (len - 1) (omega arith) last)
      | inr ne ↦ rw (before i ne) (so_far.done_path i j (omega arith) high (omega arith))
    ];
    forward = λ i j low from high. elim (cases_eq i (left - 1)) [
      | inl e ↦ (elim (cases_eq j (left - 1)) [
        | inl e' ↦ rw (e, e', now, ← here) (so_far.upward (len - 1) (len - 1) (omega arith) last)
        | inr ne' ↦ rw (e, now, before j ne', ← here) (so_far.done_path j (len - 1) (omega arith) high last)
      ])
      | inr ne ↦ (
          let ne' : j ≢ left - 1 = omega arith in
          rw (before i ne, before j ne') (so_far.forward i j low (omega arith) high))
    ];
    covered = λ x h. elim (so_far.covered x h) [
      | inl white ↦ inl white
      | inr seen ↦ (elim seen [
        | inl on ↦ (elim (cases_eq on.0 (len - 1)) [
          | inl e ↦ inr (inr (
            left - 1,
            omega arith,
            omega (arith, some_left, so_far.most),
            now ∙ (sym here ∙ (ap (λ (i : ℕ). get_or path i 0) (sym e) ∙ on.2)),
          ))
          | inr ne ↦ inr (inl (on.0, omega (arith, on.1), on.2))
        ])
        | inr done ↦ (
            let ne : done.0 ≢ left - 1 = omega (arith, done.1, some_left) in
            inr (inr (done.0, omega (arith, done.1), done.2, before done.0 ne ∙ done.3)))
      ])
    ];
  }

-- An empty path, however the word of the path was left.
pub idle : (rows order path : List ℕ) (n left len white grey : ℕ) → len ≡ 0 → IsWalk rows order path n left len white grey → IsWalk rows order path n left 0 white 0
idle rows order path n left len white grey empty so_far = record {
  ordered = so_far.ordered;
  laid = so_far.laid;
  small = so_far.small;
  most = so_far.most;
  counted = omega (arith, so_far.counted);
  white_small = so_far.white_small;
  path_small = λ i h. absurd (omega arith);
  path_taken = λ i h. absurd (omega arith);
  path_grey = λ i h. absurd (omega arith);
  grey_path = λ x h. absurd (zero_one (bit_at 0 x) (bit_at-zero x) h);
  differ = λ i j low high. absurd (omega arith);
  edges = λ i h. absurd (omega arith);
  upward = λ i j low high. absurd (omega arith);
  done_small = so_far.done_small;
  done_white = so_far.done_white;
  done_path = λ i j low high h. absurd (omega arith);
  forward = so_far.forward;
  covered = λ x h. elim (so_far.covered x h) [
    | inl white ↦ inl white
    | inr seen ↦ (elim seen [
      | inl on ↦ absurd (omega (arith, on.1))
      | inr done ↦ inr (inr done)
    ])
  ];
}

-- Everything is visited.
pub finished : (rows order path : List ℕ) (n left white : ℕ) → white ≡ 0 → IsWalk rows order path n left 0 white 0 → IsOrderBelow (has_edge rows) n (take n order)
finished rows order path n left white none so_far =
    let all : left ≡ 0 = sym so_far.counted ∙ rw (none, count_none n) refl in
    order_below rows n order (omega (arith, so_far.ordered, so_far.small)) (record {
      below = λ i h. so_far.done_small i (omega arith) h;
      reached = λ a h. elim (so_far.covered a h) [
        | inl one ↦ absurd (zero_one (bit_at white a) (rw none (bit_at-zero a)) one)
        | inr seen ↦ (elim seen [
          | inl on ↦ absurd (omega (arith, on.1))
          | inr done ↦ (done.0, done.2, done.3)
        ])
      ];
      forward = λ i j low high. so_far.forward i j low (omega arith) high;
    })

-- The edge to the first number that is not visited yet, of those to which an edge leads from the end of the path.
pub linked : (rows path : List ℕ) (len at row white : ℕ) → row ≡ get_or rows at 0 → get_or path (len - 1) 0 ≡ at → bit_and row white ≢ 0 → row < 2 ^ 64
    → (i : ℕ) → i + 1 ≡ len → has_edge rows (get_or path i 0) (trailing_zeros w64 (bit_and row white)) ≡ true
linked rows path len at row white is here some within i e =
    let found = lowest (bit_and row white) some (omega (arith, within, and_le_l row white)) in
    let bits = both_bits row white (trailing_zeros w64 (bit_and row white)) found.1 in
    let end : i ≡ len - 1 = omega arith in
    rw (end, here, ← is) (edge row (trailing_zeros w64 (bit_and row white)) bits.0)

-- The end of the path is taken off it.
pub top_taken : (rows order path : List ℕ) (n left len white grey at : ℕ) → IsWalk rows order path n left len white grey → 0 < len → get_or path (len - 1) 0 ≡ at
    → IsTaken grey (bit_and grey (bit_not w64 (1 * 2 ^ at % 2 ^ 64))) at
top_taken rows order path n left len white grey at so_far some here =
    let last : len - 1 < len = omega arith in
    taken grey at (omega (arith, so_far.path_small (len - 1) last, so_far.small, here)) (ap (λ (x : ℕ). bit_at grey x) (sym here) ∙ so_far.path_grey (len - 1) last)

-- A walk whose order is known to be there, and is kept by no code.
pub record IsWalked (rows path : List ℕ) (n len white grey : ℕ) : Type 0 where
  pub order : List ℕ
  pub left : ℕ
  pub walk : IsWalk rows order path n left len white grey

-- the end of a trail, from where an edge leads back to
pub closed : (rows path : List ℕ) (n len : ℕ) → ((i : ℕ) → i < len → get_or path i 0 < n) → IsTrail rows path len → len ≤ n → length path ≡ 64 → n ≤ 64
    → (numbers : List ℕ) × IsCycleBelow (has_edge rows) n numbers
closed rows path n len small trail short laid most =
    let end : len - 1 + 1 ≡ len = omega (arith, trail.some) in
    let found = trail.back (len - 1) end in
    let long = length-drop found.0 path in (
      take (len - found.0) (drop found.0 path),
      cycle_below rows n (drop found.0 path) (len - found.0) (omega (arith, long, found.1, short, laid, most)) (record {
        some = omega (arith, found.1);
        fits = omega (arith, short);
        below = λ i h. rw get_or-drop (small (found.0 + i) (omega arith));
        next = λ i h. rw (get_or-drop, get_or-drop, ← add_assoc found.0 i 1) (trail.next (found.0 + i) (omega arith));
        back = λ i h.
            let last : found.0 + i ≡ len - 1 = omega (arith, found.1) in
            rw (get_or-drop, get_or-drop, last, add-zero found.0) found.2;
      }),
    )
