use Rattle.std.proofs.Common.{◌≡◌, ◌∙◌, Option, Some, ap, refl, subst}
use Rattle.std.specs.Prelude.{IfSome}
use Rattle.fs_kinds.specs.declared.kind.Kind.TheVariants.{RwRw}
use Rattle.fs_kinds.specs.Placement.{slots_of}
use Rattle.fs_board_offers.specs.Parts.{slots_in_part}
use Rattle.fs_cert_evidence.specs.Evidence.{Shown}
use Rattle.fs_judge.specs.Verdicts.{IsShownWith}
use Rattle.fs_board_search.proofs.WitnessLists.{one-more, slots-filled}
use Rattle.fs_board_search.proofs.Parts.{made-at}
use Rattle.fs_board_search.proofs.floor_and_filled.look_at_filled.Goals as goal

pub returns-clause-known : goal.returns-clause-known
returns-clause-known c =
    let t = c.args.judge.now in
    let part = c.args.part.now in
    let p = c.in_ok-filled.filled in
    let over : slots_of p ≡ slots_in_part part = ap slots_of c.in_ok-filled.ensures ∙ slots-filled (Some RwRw) part in
    let found = subst (λ (o : Option Shown). IfSome o (IsShownWith t p)) c.in-Some.is c.in_ok-looked.ensures.ok in
    one-more t (slots_in_part part) c.args.store.now c.in-Some.found c.add.new.self c.in_ok-witness.ensures.ok c.requires
    (made-at t t p (slots_in_part part) c.in-Some.found c.in-Some.found refl over refl found)

pub returns-clause-ok : goal.returns-clause-ok
returns-clause-ok c =
    let t = c.args.judge.now in
    let part = c.args.part.now in
    let p = c.in_ok-filled.filled in
    let over : slots_of p ≡ slots_in_part part = ap slots_of c.in_ok-filled.ensures ∙ slots-filled (Some RwRw) part in
    let found = subst (λ (o : Option Shown). IfSome o (IsShownWith t p)) c.in-Some.is c.in_ok-looked.ensures.ok in
    made-at t t p (slots_in_part part) c.in-Some.found c.in_ok-witness.witness.value refl over c.in_ok-witness.ensures.shared found
