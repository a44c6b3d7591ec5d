-- Conditions on many atoms, as trees of few levels.
use Rattle.std.proofs.Common.{◌≡◌, ◌∙◌, ap, sym, ℕ, zero, suc, ◌+◌, ◌-◌, ◌/◌, ◌^◌, ◌<◌, ◌≤◌, List, length, map, take, drop, arith}
use Rattle.std.specs.Prelude.{◌&&◌}
use Rattle.std.proofs.lemmas.List.{take_all, take-append-drop, length-take, length-drop}
use Rattle.std.proofs.lemmas.List.Elements.{All-take, All-drop}
use Rattle.std.proofs.lemmas.List.Folds.{list_all-append}
use Rattle.fs_model.specs.Condition.{Condition, Both, nesting}
use Rattle.fs_model.specs.Shows.{holds}
use Rattle.fs_judge_outcomes.specs.declared.part.Atom.{Atom}
use Rattle.fs_judge_outcomes.specs.declared.place.Place.{Place}
use Rattle.fs_judge_outcomes.specs.States.{word_of}
use Rattle.fs_judge_outcomes.specs.inner.Parts.{is_so, is_in, IsPartOf}

-- ---- how many atoms a half has

few_halves : (n depth : ℕ) → 2 ≤ n → n ≤ 2 ^ depth → (n / 2 ≤ 2 ^ (depth - 1)) × (n - n / 2 ≤ 2 ^ (depth - 1))
few_halves n zero two few = absurd (omega (arith, two, few))
few_halves n (suc depth) two few =
    let twice : 2 ^ suc depth ≡ 2 ^ depth + 2 ^ depth = omega arith in
    let one : suc depth - 1 ≡ depth = omega arith in
    rw one (omega (arith, few, twice), omega (arith, few, twice))

pub some_depth : (n depth : ℕ) → 2 ≤ n → n ≤ 2 ^ depth → 1 ≤ depth
some_depth n zero two few = absurd (omega (arith, two, few))
some_depth n (suc depth) two few = omega arith

module _ (atoms : List Atom) (depth places : ℕ) (two : 2 ≤ length atoms) (few : length atoms ≤ 2 ^ depth) (all : IsPartOf places atoms) where
  pub few_left : length (take (length atoms / 2) atoms) ≤ 2 ^ (depth - 1)
  few_left =
      let half = (few_halves (length atoms) depth two few).0 in
      let long = length-take (length atoms / 2) atoms in omega (arith, half, long)

  pub few_right : length (take (length atoms - length atoms / 2) (drop (length atoms / 2) atoms)) ≤ 2 ^ (depth - 1)
  few_right =
      let half = (few_halves (length atoms) depth two few).1 in
      let long = length-take (length atoms - length atoms / 2) (drop (length atoms / 2) atoms) in omega (arith, half, long)

  pub all_left : IsPartOf places (take (length atoms / 2) atoms)
  all_left = All-take (λ atom. atom.index < places) (length atoms / 2) atoms all

  pub all_right : IsPartOf places (take (length atoms - length atoms / 2) (drop (length atoms / 2) atoms))
  all_right =
      All-take (λ atom. atom.index < places) (length atoms - length atoms / 2) (drop (length atoms / 2) atoms)
      (All-drop (λ atom. atom.index < places) (length atoms / 2) atoms all)

-- ---- what the tree of both halves says

in_both : (atoms : List Atom) (k : ℕ) (s : List ℕ)
    → (is_in (take k atoms) s && is_in (take (length atoms - k) (drop k atoms)) s) ≡ is_in atoms s
in_both atoms k s =
    let last : take (length atoms - k) (drop k atoms) ≡ drop k atoms =
    (let long = length-drop k atoms in take_all (length atoms - k) (drop k atoms) (omega (arith, long))) in
    ap (λ (xs : List Atom). is_in (take k atoms) s && is_in xs s) last
    ∙ sym (list_all-append (is_so s) (take k atoms) (drop k atoms))
    ∙ ap (λ (xs : List Atom). is_in xs s) (take-append-drop k atoms)

pub both_hold : (atoms : List Atom) (k : ℕ) (places : List Place) (made left right : Condition) → made ≡ Both left right
    → ((r : ℕ → ℕ → ℕ) (w : ℕ → ℕ) → holds r w left ≡ is_in (take k atoms) (map (word_of r w) places))
    → ((r : ℕ → ℕ → ℕ) (w : ℕ → ℕ) → holds r w right ≡ is_in (take (length atoms - k) (drop k atoms)) (map (word_of r w) places))
    → (r : ℕ → ℕ → ℕ) (w : ℕ → ℕ) → holds r w made ≡ is_in atoms (map (word_of r w) places)
both_hold atoms k places made left right is e f r w =
    ap (holds r w) is
    ∙ ap (λ b. b && holds r w right) (e r w)
    ∙ ap (λ b. is_in (take k atoms) (map (word_of r w) places) && b) (f r w)
    ∙ in_both atoms k (map (word_of r w) places)

pub both_deep : (depth : ℕ) (made left right : Condition) → made ≡ Both left right → 1 ≤ depth
    → nesting left ≤ depth - 1 + 1 → nesting right ≤ depth - 1 + 1 → nesting made ≤ depth + 1
both_deep depth made left right is some l r =
    let whole = ap nesting is in omega (arith, whole, some, l, r)
