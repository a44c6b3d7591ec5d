use Rattle.std.proofs.Common.{◌∙◌, ◌∷◌, sym, ap, arith, Some, None}
use Rattle.std.proofs.lemmas.Str.Pattern.{strip_prefix_char, split_parts}
use Rattle.fs_kinds.proofs.PlaceNames.{in_parts, name_cut}
use Rattle.fs_kinds.proofs.place.read_place.Goals as goal

pub returns-in_err-strip_prefix-clause-none : goal.returns-in_err-strip_prefix-clause-none
returns-in_err-strip_prefix-clause-none c =
    let lacking = strip_prefix_char 80 c.args.text.now None c.in_err-strip_prefix.ensures.cases (omega arith) in
    rw c.from_residual.ensures (λ name h. lacking _ (h.2 ∙ in_parts h.0 h.1))

pub returns-in_err-hart-clause-none : goal.returns-in_err-hart-clause-none
returns-in_err-hart-clause-none c =
    let begins = strip_prefix_char 80 c.args.text.now (Some c.in_ok-strip_prefix.field-0) c.in_ok-strip_prefix.ensures.cases (omega arith) in
    rw c.from_residual-in_err-hart.ensures
    (λ name h. name_cut c.args.text.now c.in_ok-strip_prefix.field-0.now h.0 h.1 name.hart None begins c.in_err-hart.ensures.cases h.2 h.3)

pub returns-in_err-hart-2-clause-none : goal.returns-in_err-hart-2-clause-none
returns-in_err-hart-2-clause-none c =
    let begins = strip_prefix_char 80 c.args.text.now (Some c.in_ok-strip_prefix.field-0) c.in_ok-strip_prefix.ensures.cases (omega arith) in
    rw c.from_residual-in_err-hart-2.ensures
    (λ name h.
    let cut = name_cut c.args.text.now c.in_ok-strip_prefix.field-0.now h.0 h.1 name.hart (Some (c.in_ok-hart.hart, c.in_ok-hart.at)) begins c.in_ok-hart.ensures.cases h.2 h.3 in
    c.in_err-hart-2.ensures.none name.hart (rw cut.0 h.3))

pub returns-in_err-at-clause-none : goal.returns-in_err-at-clause-none
returns-in_err-at-clause-none c =
    let begins = strip_prefix_char 80 c.args.text.now (Some c.in_ok-strip_prefix.field-0) c.in_ok-strip_prefix.ensures.cases (omega arith) in
    rw c.from_residual-in_err-at.ensures
    (λ name h.
    let cut = name_cut c.args.text.now c.in_ok-strip_prefix.field-0.now h.0 h.1 name.hart (Some (c.in_ok-hart.hart, c.in_ok-hart.at)) begins c.in_ok-hart.ensures.cases h.2 h.3 in
    c.in_err-at.ensures.none name.at (rw cut.1 h.4))

pub returns-clause-some : goal.returns-clause-some
returns-clause-some c =
    let begins = strip_prefix_char 80 c.args.text.now (Some c.in_ok-strip_prefix.field-0) c.in_ok-strip_prefix.ensures.cases (omega arith) in
    let parts = split_parts 58 c.in_ok-strip_prefix.field-0.now (Some (c.in_ok-hart.hart, c.in_ok-hart.at)) c.in_ok-hart.ensures.cases (omega arith) in
    let hart = c.in_ok-hart-2.ensures.some in
    let at = c.in_ok-at.ensures.some in
    let text = begins ∙ (ap (λ bs. 80 ∷ bs) parts.0 ∙ sym (in_parts c.in_ok-hart.hart.now c.in_ok-hart.at.now)) in
    (record { hart = hart.0; at = at.0 }, (c.in_ok-hart.hart.now, c.in_ok-hart.at.now, text, hart.1, at.1), hart.2, at.2)
