use Rattle.std.proofs.Common.{◌≡◌, ◌≢◌, ℕ, true, false, ◌++◌, ◌==◌, not, codes, map, filter, string_bytes, get_or, ap, ◌∙◌, arith}
use Rattle.std.proofs.lemmas.List.{get_or_default}
use Rattle.fs_model.specs.Printed.{register_text, register_is}
use Rattle.fs_model.proofs.Numbered.{numbered_kept, numbered_skipped, numbered_end}
use Rattle.fs_model.proofs.print.write_start.Goals.{then-word-ne0+in_ok-write_register_is+in_ok-push_str+in_ok-push, else-word-ne0}
use Rattle.fs_model.proofs.print.write_start.Goals as goal

-- a number that isn't 0
kept : (n : ℕ) → n ≢ 0 → not (n == 0) ≡ true
kept n some = grind arith

skipped : (n : ℕ) → n ≡ 0 → not (n == 0) ≡ false
skipped n none = grind arith

pub loop-register-preserved : goal.loop-register-preserved
loop-register-preserved c =
    let locations = c.args.locations.now in
    let start = c.args.start.now in
    let at = c.loop-register.register in
    let word = get_or start at 0 in
    let old = c.loop-register.pieces.items in
    let is_set = λ (numbered : ℕ × ℕ). not (numbered.1 == 0) in
    let read = get_or_default start at word 0 (omega arith) in
    elim c.if-word-ne0.branch [
      | then-word-ne0+in_ok-write_register_is+in_ok-push_str+in_ok-push w ↦
          numbered_kept string_bytes (register_text locations c.args.hart) is_set start at word old c.if-word-ne0.pieces.items w.push_str.new.self
          (omega arith) read (kept word w.if-word-ne0.true)
          (ap (λ v. v.items) w.pieces-is ∙ w.in_ok-push.ensures.items)
          c.loop-register.invariant
          (w.in_ok-push_str.ensures.bytes
          ∙ ap (λ t. t ++ codes ";") (w.in_ok-write_register_is.ensures ∙ ap (λ t. t ++ register_is locations c.args.hart (at, word)) w.new-piece.ensures.bytes))
      | else-word-ne0 w ↦
          ap (λ v. map string_bytes v.items) w.pieces-is
          ∙ numbered_skipped (register_text locations c.args.hart) is_set start at word (map string_bytes old)
          (omega arith) read (skipped word w.if-word-ne0.false)
          c.loop-register.invariant
    ]

pub returns : goal.returns
returns c =
    let start = c.args.start.now in
    let line = ap (map string_bytes) c.deref.ensures.value ∙ c.loop-register.invariant ∙ ap (λ ns. map (register_text c.args.locations.now c.args.hart) (filter (λ numbered. not (numbered.1 == 0)) ns)) (numbered_end start c.loop-register.register (omega arith)) in
    rw (← line) c.write_line.ensures
