use Rattle.std.proofs.Common.{◌≡◌, ◌∙◌, ap, sym, refl, subst, ◌+◌, ◌<◌, true, false, List, [], ◌∷◌, ◌++◌, filter, length, arith}
use Rattle.std.specs.List.{list_any, slice_index_or}
use Rattle.std.proofs.lemmas.Bool.{not-false}
use Rattle.fs_judge_outcomes.specs.declared.part.Atom.{Atom}
use Rattle.fs_judge_outcomes.specs.inner.Parts.{is_fixing, is_open_at}
use Rattle.fs_judge_outcomes.proofs.Halves.{apart_from, Splitting, passes, goes_on, ends}
use Rattle.fs_judge_outcomes.proofs.splitting.split.Goals.{then-is_open_at+in_ok-without_word+in_ok-push+in_ok-part, else-is_open_at}
use Rattle.fs_judge_outcomes.proofs.splitting.split.Goals as goal

pub loop-index-preserved : goal.loop-index-preserved
loop-index-preserved c =
    let whole = c.args.part in
    let state = c.args.state.now in
    let old = c.args.parts.now.items in
    let n = c.loop-index.index in
    let part = c.loop-index.part in
    let parts = c.loop-index.parts.items in
    let low : n < length state = omega (arith, c.loop-index-test.true) in
    let word = slice_index_or state n 0 in
    elim c.if-is_open_at.branch [
      | then-is_open_at+in_ok-without_word+in_ok-push+in_ok-part w ↦ rw (w.parts-is, w.part-is) (
          let without = w.in_ok-without_word.ensures
          ∙ ap (λ (atoms : List Atom). atoms ++ (record { index = n; word = word; is = false }) ∷ []) w.as_slice-then-is_open_at.ensures in
          let with_it = w.in_ok-part.ensures
          ∙ ap (λ (atoms : List Atom). filter (apart_from n) atoms ++ (record { index = n; word = word; is = true }) ∷ []) w.as_slice-then-is_open_at-2.ensures in
          let pushed = w.in_ok-push.ensures.items ∙ ap (λ (atoms : List Atom). parts ++ atoms ∷ []) without in
          subst (λ (left : List Atom). Splitting whole state old (n + 1) left w.push.new.self.items) (sym with_it)
          (subst (λ (ps : List (List Atom)). Splitting whole state old (n + 1) (filter (apart_from n) part ++ (record { index = n; word = word; is = true }) ∷ []) ps) (sym pushed)
          (goes_on whole state old n part parts c.loop-index.invariant low word refl)))
      | else-is_open_at w ↦ rw (w.parts-is, w.part-is) (
          let closed : is_open_at part n ≡ false =
          ap (λ (atoms : List Atom). is_open_at atoms n) (sym c.as_slice.ensures) ∙ sym c.is_open_at.ensures ∙ w.if-is_open_at.false in
          passes whole state old n part parts c.loop-index.invariant low (not-false (list_any (is_fixing n) part) closed))
    ]

pub returns : goal.returns
returns c =
    ends c.args.part c.args.state.now c.args.parts.now.items c.loop-index.index c.loop-index.part c.loop-index.parts.items
    (omega (arith, c.loop-index-test.false, c.loop-index.auto.index-end)) c.loop-index.invariant
